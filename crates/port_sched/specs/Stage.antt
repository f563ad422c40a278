-- How far a dequeue has come in the code, and what its visits and turns keep on the way.
use Rattle.std.specs.Prelude.{◌≡◌, ℕ, ◌+◌, ◌-◌, ◌*◌, ◌≤◌, ◌<◌, length, take, drop, Vec, vec_len, vec_capacity}
use Rattle.std.specs.declared.alloc.Global.{Global}
use Rattle.qos_base.specs.declared.packet.Departure.{Departure}
use Rattle.profile_plan.specs.declared.limits.TheConstants.{MAX_MTU}
use Rattle.port_sched.specs.Port.{Port}
use Rattle.port_sched.specs.PortDequeue.{Course}

-- the cost of the dearest packet, in byte times: it is the longest, on the line with the greatest overhead
abbrev pub max_cost : ℕ
max_cost = MAX_MTU + 255

-- where the port stands, how many packets may still be sent, and all departures so far
pub record Stage (T : Type 0) : Type 0 where
  pub port : Port T
  pub room : ℕ
  pub out : Vec (Departure T) Global

module _ {T : Type 0} where
  abbrev pub stage : Port T → ℕ → Vec (Departure T) Global → Stage T
  stage port room out = record { port = port; room = room; out = out }

  -- the sends of this dequeue are those of `out` from `first` on
  abbrev pub course_of : ℕ → Stage T → Course T
  course_of first s = record { port = s.port; room = s.room; sends = drop first s.out.items }

  -- subport k may have a turn
  pub record IsReady (k first : ℕ) (s : Stage T) : Type 0 where
    pub subport : k < length s.port.subports
    pub room : s.room ≤ 256
    pub held : first ≤ vec_len s.out
    pub space : vec_len s.out + s.room ≤ vec_capacity s.out

  -- from one stage of a dequeue to a later one
  pub record GoesTo (first : ℕ) (old new : Stage T) : Type 0 where
    pub room : new.room ≤ old.room
    -- each packet that is sent takes no longer than the dearest
    pub no_later : new.port.time ≤ old.port.time + max_cost * (old.room - new.room)
    pub sent : vec_len new.out + new.room ≡ vec_len old.out + old.room
    -- what `out` held before this dequeue stays
    pub held : take first new.out.items ≡ take first old.out.items
    pub capacity : vec_capacity new.out ≡ vec_capacity old.out
    pub subports : length new.port.subports ≡ length old.port.subports
