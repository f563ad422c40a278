-- What a contract sees of the run of a port, and what the run keeps true.
use Rattle.std.specs.Prelude.{◌≡◌, ◌≤◌, ◌^◌, ℕ, ◌+◌, ◌*◌, List, [], ◌∷◌, ◌++◌, length, map, slice_get, All, IsTrue, Option}
use Rattle.std.specs.Option.{option_map}
use Rattle.qos_base.specs.declared.packet.Pkt.{Pkt}
use Rattle.qos_base.specs.declared.packet.Departure.{Departure}
use Rattle.profile_plan.specs.declared.limits.TheConstants.{MAX_MTU}
use Rattle.profile_plan.specs.declared.port.PortPlan.{PortPlan}
use Rattle.profile_plan.specs.Profile.{Plan}
use Rattle.port_sched.specs.Parcels.{seen_send}
use Rattle.port_sched.specs.Port.{Port, left_of, queued, has_place}
use Rattle.port_sched.specs.PortDequeue.{dequeue_port}
use Rattle.port_sched.specs.PortLaws.{AllWaiting, seen_port}
use Rattle.port_sched.specs.Settings.{setting_of, IsPortWithin}
use Rattle.port_sched.specs.Stage.{max_cost}
use Rattle.port_sched.specs.Start.{start_at}
use Rattle.run_journal.specs.declared.ended.PortCounts.{PortCounts}
use Rattle.run_journal.specs.declared.entry.Entry.{Entry}
use Rattle.run_journal.specs.declared.entry.Entry.TheVariants.{Dequeue}
use Rattle.run_journal.specs.declared.limits.TheConstants.{MAX_ARRIVALS}
use Rattle.run_journal.specs.declared.pace.Pace.{Pace}
use Rattle.run_journal.specs.declared.tally.Tally.{Tally}
use Rattle.run_journal.specs.Pace.{pace_of}
use Rattle.run_journal.specs.Pacer.{PacerState, new_pacer}
use Rattle.run_journal.specs.Schedule.{Schedule, schedule_from, arrivals_of, dequeues_in}
use Rattle.run_journal.specs.Paced.{Course}
use Rattle.run_journal.specs.Laws.{AreAccounted}

pub record RunState (T : Type 0) : Type 0 where
  pub pace : Pace
  -- the port at its start
  pub start : Port Pkt
  pub journal : List Entry
  pub pacer : PacerState
  -- where the port stands, with the parcels that wait
  pub port : Port T

-- the port of a profile at its start, as its packets see it
unfoldable pub started : Plan → PortPlan → Port Pkt
started profile plan = start_at profile plan

abbrev pub new_run : {T : Type 0} → Plan → PortPlan → RunState T
new_run profile plan = record {
  pace = pace_of plan;
  start = started profile plan;
  journal = [];
  pacer = new_pacer plan.quantum;
  port = start_at profile plan;
}

-- the run of the port of a number, if the profile has it
abbrev pub run_start : {T : Type 0} → Plan → ℕ → Option (RunState T)
run_start profile port = option_map (new_run profile) (slice_get profile.ports port)

-- the numbers of a port are those of the schedule of its journal
pub record IsTally (start : Port Pkt) (journal : List Entry) (tally : Tally) : Type 0 where
  pub arrived : tally.arrived ≡ length (arrivals_of journal)
  pub dropped : tally.dropped ≡ length (schedule_from start journal).drops
  pub sent : tally.sent ≡ length (schedule_from start journal).sends
  pub dequeues : tally.dequeues ≡ dequeues_in journal

pub record HasCounts (journal : List Entry) (schedule : Schedule) (counts : PortCounts) : Type 0 where
  pub arrived : counts.arrived ≡ length (arrivals_of journal)
  pub sends : counts.sent + counts.unwritten ≡ length schedule.sends
  pub left : counts.left ≡ queued schedule.port
  pub tailfull : counts.tailfull ≡ length schedule.drops
  pub dequeues : counts.dequeues ≡ dequeues_in journal
  pub time : counts.time ≡ schedule.port.time

-- A schedule that has come from this start by so many arrivals: no packet was lost, and port time is far from its end.
pub record IsSteady (start : Port Pkt) (arrived : ℕ) (s : Schedule) : Type 0 where
  pub overhead : start.overhead ≤ 255
  pub mtu : start.mtu ≤ MAX_MTU
  pub setting : setting_of s.port ≡ setting_of start
  pub within : IsPortWithin s.port
  -- each packet that arrived was sent, waits or was turned away
  pub account : length s.sends + queued s.port + length s.drops ≡ arrived
  pub short : AllWaiting (λ p. p.wire ≤ start.mtu) s.port
  pub time : s.port.time ≤ 2 ^ 57 + max_cost * length s.sends

-- The scheduler stands where the schedule of the journal stands, and nothing can wrap.
pub record IsSound {T : Type 0} (packet : T → Pkt) (start : Port Pkt) (pace : Pace) (port : Port T) (pacer : PacerState) (journal : List Entry) (tally : Tally) : Type 0 where
  -- nothing waited at the start
  pub none : left_of start ≡ []
  pub start_within : IsPortWithin start
  pub placed : All (λ p. IsTrue (has_place p start)) (arrivals_of journal)
  pub steady : IsSteady start (length (arrivals_of journal)) (schedule_from start journal)
  pub port_is : seen_port packet port ≡ (schedule_from start journal).port
  pub went_is : pacer.went ≡ (schedule_from start journal).went
  pub quantum_is : pacer.quantum ≡ pace.quantum
  pub burst : pace.burst ≤ 256
  pub tally_is : IsTally start journal tally
  pub few : tally.arrived ≤ MAX_ARRIVALS

module _ {T : Type 0} where
  abbrev pub course_of : RunState T → Course
  course_of r = record { journal = r.journal; clock = r.pacer.clock }

  -- the schedule of its journal so far
  abbrev pub schedule : RunState T → Schedule
  schedule r = schedule_from r.start r.journal

  -- the run after one more entry, with the port there
  abbrev pub after_entry_of : RunState T → Entry → Port T → RunState T
  after_entry_of r entry port =
      let journal = r.journal ++ entry ∷ [] in
      record r { journal = journal; pacer = record r.pacer { went = (schedule_from r.start journal).went }; port = port }

  module _ (packet : T → Pkt) where
    -- what holds of every run
    pub record Stands (r : RunState T) : Type 0 where
      pub port : seen_port packet r.port ≡ (schedule r).port
      pub went : r.pacer.went ≡ (schedule r).went
      pub quantum : r.pacer.quantum ≡ r.pace.quantum
      pub setting : setting_of (schedule r).port ≡ setting_of r.start
      pub within : IsPortWithin (schedule r).port
      -- each packet that arrived was sent, waits or was turned away, once
      pub account : AreAccounted (arrivals_of r.journal) (schedule r)
      pub few : length (arrivals_of r.journal) ≤ MAX_ARRIVALS

    -- a dequeue at a moment was made, and these departures are its sends
    pub record HasDequeued (now : ℕ) (before after : RunState T) (out : List (Departure T)) : Type 0 where
      pub state : after ≡ after_entry_of before (Dequeue now before.pace.burst) after.port
      pub port : after.port ≡ (dequeue_port packet now before.pace.burst before.port).port
      pub made : out ≡ (dequeue_port packet now before.pace.burst before.port).sends
      pub sends : (schedule after).sends ≡ (schedule before).sends ++ map (seen_send packet) out
