-- How a port of a profile is run over the packets that arrive.
use Rattle.std.specs.Prelude.{◌≡◌, ℕ, List, Some, IsTrue, slice_get}
use Rattle.qos_base.specs.declared.packet.Pkt.{Pkt}
use Rattle.qos_base.specs.declared.packet.Departure.{Departure}
use Rattle.qos_base.specs.Time.{byte_time_of, moment_of}
use Rattle.profile_plan.specs.declared.port.PortPlan.{PortPlan}
use Rattle.profile_plan.specs.Profile.{Plan, KeepsLimits}
use Rattle.port_sched.specs.Port.{has_place}
use Rattle.pkt_slots.specs.Placed.{IsPlaced}
use Rattle.run_journal.specs.declared.entry.Entry.{Entry}
use Rattle.run_journal.specs.Pace.{pace_of}
use Rattle.run_journal.specs.Paced.{Course, open_course, paced_course}
use Rattle.run_journal.specs.PortRun.{started}
use Rattle.run_journal.specs.Schedule.{Schedule, schedule_from}

-- a port of a profile, and the origin of its times in nanoseconds
pub record Setup : Type 0 where
  pub profile : Plan
  pub plan : PortPlan
  pub origin : ℕ

module _ (s : Setup) where
  -- the byte time at which a packet arrives
  abbrev pub arrival_time : Pkt → ℕ
  arrival_time packet = byte_time_of (moment_of s.origin packet.stamp) s.plan.line

  -- the course of these arrivals before the drain
  abbrev pub open_run : List Pkt → Course
  open_run arrivals = open_course (pace_of s.plan) (started s.profile s.plan) arrival_time arrivals

  -- the paced journal of these arrivals
  abbrev pub paced_journal : List Pkt → List Entry
  paced_journal arrivals = (paced_course (pace_of s.plan) (started s.profile s.plan) arrival_time arrivals).journal

  -- what a journal makes of the port, and what it sends
  abbrev pub schedule_by : List Entry → Schedule
  schedule_by journal = schedule_from (started s.profile s.plan) journal

  abbrev pub sends_by : List Entry → List (Departure Pkt)
  sends_by journal = (schedule_by journal).sends

-- a packet that has a place in a profile has one at its port
abbrev pub PlacesAreThere : Plan → Type 0
PlacesAreThere p =
    (packet : Pkt) (plan : PortPlan) → KeepsLimits p → IsPlaced p packet → slice_get p.ports packet.port ≡ Some plan
    → IsTrue (has_place packet (started p plan))
