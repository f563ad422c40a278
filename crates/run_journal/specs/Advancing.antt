-- How far an advance has come, and what each of its steps makes of it; and the steps of an arrival.
use Rattle.std.specs.Prelude.{◌≡◌, ◌<◌, ◌≤◌, ℕ, ◌+◌, ◌-◌, max, if◌then◌else◌, List, Option, None, Some}
use Rattle.port_sched.specs.Port.{Port, queued}
use Rattle.qos_base.specs.declared.packet.Pkt.{Pkt}
use Rattle.run_journal.specs.declared.entry.Entry.{Entry}
use Rattle.run_journal.specs.declared.entry.Entry.TheVariants.{Arrive, Dequeue}
use Rattle.run_journal.specs.Pacer.{after_aim, next_in, after_at}
use Rattle.run_journal.specs.Schedule.{arrivals_of}
use Rattle.run_journal.specs.Paced.{advance_by, advance, after_arrival}
use Rattle.run_journal.specs.PortRun.{RunState, course_of, schedule, after_entry_of}
use Rattle.run_journal.specs.Laws.{Begins}

module _ {T : Type 0} where
  -- The steps that an advance still makes are at most so many. Each step moves the clock on, or follows a dequeue that sent
  -- something and leaves fewer waiting.
  abbrev pub steps_left : ℕ → RunState T → ℕ
  steps_left to r = (to - r.pacer.clock) + queued (schedule r).port + (if (schedule r).went then 1 else 0)

  -- where an advance from `from` has come to
  pub record Advancing (from : RunState T) (to : ℕ) (now : RunState T) : Type 0 where
    pub times : ℕ
    pub enough : steps_left to now ≤ times
    pub goes_on : advance from.pace from.start to (course_of from) ≡ advance_by from.pace from.start now.pacer.step to times (course_of now)
    pub pace : now.pace ≡ from.pace
    pub start : now.start ≡ from.start
    pub aim : now.pacer.aim ≡ to
    pub step : now.pacer.clock < to → 1 ≤ now.pacer.step
    pub arrivals : arrivals_of now.journal ≡ arrivals_of from.journal
    pub later : from.pacer.clock ≤ now.pacer.clock
    pub within : now.pacer.clock ≤ max from.pacer.clock to

  -- the moment of its next dequeue
  abbrev pub next_of : RunState T → Option ℕ
  next_of r = next_in r.pacer (queued (schedule r).port) (schedule r).port.time

  -- the clock has come to a moment, and a dequeue was made there
  abbrev pub dequeued : RunState T → ℕ → Port T → RunState T
  dequeued r moment port = after_entry_of (record r { pacer = record r.pacer { clock = moment } }) (Dequeue moment r.pace.burst) port

  -- the clock has come to the aim
  abbrev pub at_aim : RunState T → RunState T
  at_aim r = record r { pacer = record r.pacer { clock = max r.pacer.clock r.pacer.aim } }

  -- An advance is begun by `aim`, goes on by `next` and `dequeue`, and is over where `next` has no moment.
  pub record AdvanceSteps (from : RunState T) (to : ℕ) : Type 0 where
    pub begins : from.pacer.quantum ≡ from.pace.quantum → Advancing from to (record from { pacer = after_aim to from.pacer })
    pub goes : (now : RunState T) (moment : ℕ) (port : Port T) → Advancing from to now → now.pacer.went ≡ (schedule now).went → next_of now ≡ Some moment
        → Advancing from to (dequeued now moment port) × (steps_left to (dequeued now moment port) < steps_left to now)
    pub ends : (now : RunState T) → Advancing from to now → now.pacer.went ≡ (schedule now).went → next_of now ≡ None
        → course_of (at_aim now) ≡ advance from.pace from.start to (course_of from)
    -- as far as it has come, its journal begins that of the whole advance
    pub so_far : (now : RunState T) → Advancing from to now → Begins now.journal (advance from.pace from.start to (course_of from)).journal

  -- where the packet has arrived, at the end of the advance
  abbrev pub arrived : RunState T → Pkt → Port T → RunState T
  arrived r packet port = after_entry_of r (Arrive packet) port

  -- An arrival is an advance to its byte time, then the packet, then the dequeue that `after_arrival` has a moment for.
  pub record ArrivalSteps (from there : RunState T) (at : ℕ) (packet : Pkt) : Type 0 where
    pub alone : (port : Port T) → after_at there.pacer (schedule (arrived there packet port)).port.time ≡ None
        → course_of (arrived there packet port) ≡ after_arrival from.pace from.start at packet (course_of from)
    pub followed : (port last : Port T) (moment : ℕ) → after_at there.pacer (schedule (arrived there packet port)).port.time ≡ Some moment
        → course_of (after_entry_of (arrived there packet port) (Dequeue moment there.pace.burst) last) ≡ after_arrival from.pace from.start at packet (course_of from)

  -- These hold where the advance has come from one to the other, and its journal begins that of the arrival.
  pub record ArrivalLaws (from : RunState T) (at : ℕ) (packet : Pkt) : Type 0 where
    pub steps : (there : RunState T) → there.pace ≡ from.pace → there.start ≡ from.start
        → course_of there ≡ advance from.pace from.start at (course_of from) → ArrivalSteps from there at packet
    pub begins : (journal : List Entry) → Begins journal (advance from.pace from.start at (course_of from)).journal
        → Begins journal (after_arrival from.pace from.start at packet (course_of from)).journal
