-- What holds of every advance, of every open journal, and of every journal.
use Rattle.std.specs.Prelude.{◌≡◌, ◌<◌, ◌≤◌, ◌⊎◌, ℕ, true, max, List, [], ◌∷◌, ◌++◌, All, IsTrue}
use Rattle.std.specs.List.Sorted.{IsPermutation}
use Rattle.qos_base.specs.declared.packet.Pkt.{Pkt}
use Rattle.port_sched.specs.Parcels.{itself, parcels}
use Rattle.port_sched.specs.Port.{Port, left_of, queued, has_place}
use Rattle.port_sched.specs.PortDequeue.{cost_with, dequeue_port}
use Rattle.port_sched.specs.Settings.{IsPortWithin}
use Rattle.run_journal.specs.declared.entry.Entry.{Entry}
use Rattle.run_journal.specs.declared.entry.Entry.TheVariants.{Dequeue}
use Rattle.run_journal.specs.declared.pace.Pace.{Pace}
use Rattle.run_journal.specs.Schedule.{Schedule, schedule_from, arrivals_of}
use Rattle.run_journal.specs.Paced.{Course, schedule_in, after_dequeue, moment_after, advance, after_arrival, open_course}

-- one journal begins another
abbrev pub Begins : List Entry → List Entry → Type 0
Begins journal all = (rest : List Entry) × (all ≡ journal ++ rest)

module _ (pace : Pace) (start : Port Pkt) where
  -- The last entry of a course is a dequeue whose packets all cost 0, and it left fewer waiting.
  pub record FollowsFree (c : Course) : Type 0 where
    pub before : Course
    pub now : ℕ
    pub last : c.journal ≡ before.journal ++ Dequeue now pace.burst ∷ []
    pub free : All (λ p. cost_with itself (schedule_in pace start before).port.overhead p ≡ 0) (parcels (dequeue_port itself now pace.burst (schedule_in pace start before).port).sends)
    pub fewer : queued (schedule_in pace start c).port < queued (schedule_in pace start before).port

  -- where a packet waits after a dequeue that sent something, port time is past the clock, or all that it sent cost 0
  abbrev pub IsLive : Course → Type 0
  IsLive c =
      0 < queued (schedule_in pace start c).port → (schedule_in pace start c).went ≡ true
      → (c.clock < (schedule_in pace start c).port.time) ⊎ FollowsFree c

  -- Each repetition of an advance moves the clock on, or follows a dequeue whose packets all cost 0; and it comes to its end.
  pub record AdvancesMoveOn : Type 0 where
    -- every open course is live, so every advance begins from a live one
    pub open_is_live : (byte_time : Pkt → ℕ) (arrivals : List Pkt) → IsLive (open_course pace start byte_time arrivals)
    -- a dequeue that sends something leaves port time past its moment, or all that it sent cost 0; so it leaves a live one
    pub dequeue_is_live : (c : Course) (now : ℕ) → IsLive (after_dequeue pace start now c)
    -- from a live one the next dequeue is later than the clock, or follows one whose packets all cost 0
    pub next_is_later : (c : Course) (step : ℕ) → IsLive c → 1 ≤ step → 0 < queued (schedule_in pace start c).port
        → (c.clock < moment_after pace start step c) ⊎ FollowsFree c
    -- an advance ends with the clock at its aim
    pub arrives : (c : Course) (b : ℕ) → (advance pace start b c).clock ≡ max c.clock b

  -- the open journal of some arrivals begins the open journal of these and more
  abbrev pub OpenJournalsGrow : Type 0
  OpenJournalsGrow =
      (byte_time : Pkt → ℕ) (arrivals more : List Pkt)
      → Begins (open_course pace start byte_time arrivals).journal (open_course pace start byte_time (arrivals ++ more)).journal

  -- an open course is that of one arrival after another, from an empty journal at clock 0
  pub record OpenCourses (byte_time : Pkt → ℕ) : Type 0 where
    pub none : open_course pace start byte_time [] ≡ record { journal = []; clock = 0 }
    pub one_more : (arrivals : List Pkt) (p : Pkt) → open_course pace start byte_time (arrivals ++ p ∷ [])
        ≡ after_arrival pace start (byte_time p) p (open_course pace start byte_time arrivals)

-- each of these packets was sent, waits or was turned away, once
abbrev pub AreAccounted : List Pkt → Schedule → Type 0
AreAccounted arrivals s = IsPermutation arrivals ((parcels s.sends ++ left_of s.port) ++ s.drops)

-- Each packet that arrives in a journal is sent, waits or is turned away, once, where none waited before and each is one for the port.
abbrev pub EveryArrivalEnds : Port Pkt → List Entry → Type 0
EveryArrivalEnds start journal =
    left_of start ≡ [] → IsPortWithin start → All (λ p. IsTrue (has_place p start)) (arrivals_of journal) → AreAccounted (arrivals_of journal) (schedule_from start journal)
