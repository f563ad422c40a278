-- What the numbers and queues that the code keeps stand for, and what it keeps true of them.
use Rattle.std.specs.Prelude.{◌≡◌, ℕ, ◌*◌, ◌/◌, ◌≤◌, ◌<◌, Bool, List, length, map, take, drop, All}
use Rattle.std.specs.List.{list_any}
use Rattle.qos_base.specs.declared.packet.Pkt.{Pkt}
use Rattle.qos_base.specs.declared.packet.Departure.{Departure}
use Rattle.queue_store.specs.Queues.{is_filled}
use Rattle.port_sched.specs.declared.level.LevelBooks.{LevelBooks}
use Rattle.port_sched.specs.declared.pipe.PipeBooks.{PipeBooks}
use Rattle.port_sched.specs.declared.subport.SubportBooks.{SubportBooks}
use Rattle.port_sched.specs.declared.serving.Serving.{Serving}
use Rattle.profile_plan.specs.declared.limits.TheConstants.{MAX_MTU, MAX_SUBPORT_PIPES}
use Rattle.port_sched.specs.Level.{Level, level_tick}
use Rattle.port_sched.specs.Pipe.{Pipe, has_packet}
use Rattle.port_sched.specs.Subport.{Subport}
use Rattle.port_sched.specs.Classes.{Visit}
use Rattle.port_sched.specs.Visit.{Service}

abbrev pub level_of : LevelBooks → Level
level_of l = record {
  plan = record {
    tb_credits = l.bucket.per_period;
    tb_period = l.bucket.period;
    tb_size = l.bucket.size;
    tc_credits = l.classes.whole;
    tc_period = l.classes.period;
  };
  credits = l.bucket.credits;
  classes = l.classes.credits;
  due = l.classes.due;
}

-- A bucket is brought up to date when it is used. At a moment it stands for one that was stepped all the time.
abbrev pub level_up_to : ℕ → LevelBooks → Level
level_up_to moment l = level_tick l.bucket.time moment (level_of l)

-- its bucket may still be brought up to this moment
pub record IsLevelBooks (moment : ℕ) (l : LevelBooks) : Type 0 where
  pub some_period : 1 ≤ l.bucket.period
  pub not_ahead : l.bucket.time ≤ moment

-- its bucket is brought up to this moment, in whole periods
pub record IsBrought (moment : ℕ) (l : LevelBooks) : Type 0 where
  pub some_period : 1 ≤ l.bucket.period
  pub brought : l.bucket.time ≡ l.bucket.period * (moment / l.bucket.period)

module _ {T : Type 0} where
  abbrev pub pipe_of : PipeBooks T → Pipe T
  pipe_of p = record {
    level = level_of p.level;
    round = p.wrr;
    weight = p.weight;
    share = p.share;
    seen = p.seen;
    queues = p.queues;
  }

  -- whether a packet waits in one of its strict classes' queues
  abbrev pub strict_waits : PipeBooks T → Bool
  strict_waits p = list_any is_filled (take 12 p.queues.lists)

  abbrev pub pipe_up_to : ℕ → PipeBooks T → Pipe T
  pipe_up_to moment p = record (pipe_of p) { level = level_up_to moment p.level }

  abbrev pub subport_up_to : ℕ → SubportBooks T → Subport T
  subport_up_to moment s = record {
    level = level_up_to moment s.level;
    oversub = s.oversub;
    oversubscribed = s.oversubscribed;
    watermark = s.watermark;
    period = s.period;
    cursor = s.cursor;
    pipes = map (pipe_up_to moment) s.pipes.items;
  }

  -- whatever the moment, this holds of the subport that the books stand for
  abbrev pub Stands : (Subport T → Type 0) → SubportBooks T → Type 0
  Stands P s = (moment : ℕ) → P (subport_up_to moment s)

  -- whatever the moment, this holds of the subports that the books stand for before and after
  abbrev pub Moves : (Subport T → Subport T → Type 0) → SubportBooks T → SubportBooks T → Type 0
  Moves R from to = (moment : ℕ) → R (subport_up_to moment from) (subport_up_to moment to)

  -- the sends of this dequeue are those of `out` from `first` on
  abbrev pub visit_of : Serving → LevelBooks → PipeBooks T → List (Departure T) → Visit T
  visit_of v l p out = record {
    oversub = v.oversub;
    subport = level_of l;
    pipe = pipe_of p;
    time = v.time;
    room = v.room;
    sends = drop v.first out;
  }

  abbrev pub service_up_to : ℕ → Serving → SubportBooks T → List (Departure T) → Service T
  service_up_to moment v s out = record { subport = subport_up_to moment s; time = v.time; room = v.room; sends = drop v.first out }

  -- the bits of the pipes with a packet
  abbrev pub KnowsActive : SubportBooks T → Type 0
  KnowsActive s = s.active ≡ map (λ p. has_packet (pipe_of p)) s.pipes.items

  module _ (packet : T → Pkt) where
    pub record IsPipeBooks (ticked : ℕ) (p : PipeBooks T) : Type 0 where
      pub level : IsLevelBooks ticked p.level
      pub lists : length p.queues.lists ≡ 16
      pub sizes : length p.queues.sizes ≡ 16
      pub short : All (λ ts. All (λ t. (packet t).wire ≤ MAX_MTU) ts) p.queues.lists

    pub record IsSubportBooks (ticked : ℕ) (s : SubportBooks T) : Type 0 where
      pub level : IsLevelBooks ticked s.level
      pub cursor : s.cursor < length s.pipes.items
      pub few : length s.pipes.items ≤ MAX_SUBPORT_PIPES
      -- each renewal puts the next one off by at least 1
      pub periods : s.period < s.level.classes.due
      pub pipes : All (IsPipeBooks ticked) s.pipes.items
      pub active : KnowsActive s
