-- The paced journal of a port's arrivals.
use Rattle.std.specs.Prelude.{ℕ, zero, suc, ◌+◌, ◌-◌, ◌==◌, nat_le, nat_lt, max, if◌then◌else◌, List, [], ◌∷◌, ◌++◌, fold}
use Rattle.qos_base.specs.declared.packet.Pkt.{Pkt}
use Rattle.port_sched.specs.Port.{Port, queued}
use Rattle.run_journal.specs.declared.entry.Entry.{Entry}
use Rattle.run_journal.specs.declared.entry.Entry.TheVariants.{Arrive, Dequeue}
use Rattle.run_journal.specs.declared.pace.Pace.{Pace}
use Rattle.run_journal.specs.Pacer.{step_to}
use Rattle.run_journal.specs.Schedule.{Schedule, schedule_from}

-- a run so far: its journal, and the clock in byte times of the line
pub record Course : Type 0 where
  pub journal : List Entry
  pub clock : ℕ

-- `start` is the port at its start.
module _ (pace : Pace) (start : Port Pkt) where
  -- where the scheduler stands
  abbrev pub schedule_in : Course → Schedule
  schedule_in c = schedule_from start c.journal

  -- a dequeue at a moment, to which the clock goes
  abbrev pub after_dequeue : ℕ → Course → Course
  after_dequeue now c = record { journal = c.journal ++ Dequeue now pace.burst ∷ []; clock = now }

  -- the next dequeue of an advance whose idle step is this: at port time where the last dequeue sent something, else a step further
  abbrev pub moment_after : ℕ → Course → ℕ
  moment_after step c = if (schedule_in c).went then max c.clock (schedule_in c).port.time else c.clock + step

  -- An advance to b goes on until the clock is there. Where nothing waits, or the next dequeue would be past b, the clock goes to b at once. `times` bounds how often this is repeated.
  unfoldable pub advance_by : ℕ → ℕ → ℕ → Course → Course
  advance_by step b zero c = c
  advance_by step b (suc times) c =
      if nat_le b c.clock then c
      else if queued (schedule_in c).port == 0 then record c { clock = b }
      else if nat_lt b (moment_after step c) then record c { clock = b }
      else advance_by step b times (after_dequeue (moment_after step c) c)

  -- The whole advance keeps one step. Each repetition moves the clock on, or follows a dequeue whose packets all cost 0, which left fewer waiting: so they are at most as many as the byte times to go, the packets that wait, and one.
  unfoldable pub advance : ℕ → Course → Course
  advance b c = advance_by (step_to pace.quantum b c.clock) b (b - c.clock + queued (schedule_in c).port + 1) c

  -- An arrival: the clock is advanced to its byte time, the packet arrives, and a dequeue follows where port time is not past the clock.
  abbrev pub after_join : Pkt → Course → Course
  after_join p c =
      let there = record c { journal = c.journal ++ Arrive p ∷ [] } in
      if nat_le (schedule_in there).port.time there.clock then after_dequeue there.clock there else there

  abbrev pub after_arrival : ℕ → Pkt → Course → Course
  after_arrival b p c = after_join p (advance b c)

  -- the course of these arrivals, each with its byte time
  unfoldable pub open_course : (Pkt → ℕ) → List Pkt → Course
  open_course byte_time arrivals =
      fold (λ c p. after_arrival (byte_time p) p c) (record { journal = []; clock = 0 }) arrivals

  -- the same, and then the drain
  abbrev pub paced_course : (Pkt → ℕ) → List Pkt → Course
  paced_course byte_time arrivals =
      let open_ended = open_course byte_time arrivals in
      advance (open_ended.clock + pace.drain) open_ended
