-- The pacer's numbers, and what each call makes of them.
use Rattle.std.specs.Prelude.{ℕ, ◌+◌, ◌-◌, ◌/◌, ◌||◌, ◌==◌, Bool, false, nat_le, nat_lt, max, if◌then◌else◌, Option, None, Some}

pub record PacerState : Type 0 where
  -- the least step of an idle dequeue
  pub quantum : ℕ
  pub clock : ℕ
  -- where the present advance goes
  pub aim : ℕ
  -- the step of its idle dequeues
  pub step : ℕ
  -- the last dequeue sent something
  pub went : Bool

abbrev pub new_pacer : ℕ → PacerState
new_pacer quantum = record { quantum = quantum; clock = 0; aim = 0; step = quantum; went = false }

-- the step of an advance: the quantum, or more where there is so far to go that it would take more than 1,024 steps
abbrev pub step_to : ℕ → ℕ → ℕ → ℕ
step_to quantum b clock = max quantum ((b - clock) / 1024 + 1)

abbrev pub after_aim : ℕ → PacerState → PacerState
after_aim b p = if nat_lt p.clock b then record p { aim = b; step = step_to p.quantum b p.clock } else record p { aim = b }

-- after a dequeue that sent something the next moment is port time, else it is a step further
abbrev pub next_moment : PacerState → ℕ → ℕ
next_moment p time = if p.went then max p.clock time else p.clock + p.step

-- the next dequeue of an advance, for so many packets that wait and this port time; none where the advance is over
abbrev pub next_in : PacerState → ℕ → ℕ → Option ℕ
next_in p queued time =
    if nat_le p.aim p.clock || (queued == 0 || nat_lt p.aim (next_moment p time)) then None
    else Some (next_moment p time)

-- the dequeue after an arrival
abbrev pub after_at : PacerState → ℕ → Option ℕ
after_at p time = if nat_le time p.clock then Some p.clock else None
