-- What each port ended with, and its output.
use Rattle.std.specs.Prelude.{◌≡◌, ℕ, Bool, List, map, Some, slice_get}
use Rattle.profile_plan.specs.declared.port.PortPlan.{PortPlan}
use Rattle.profile_plan.specs.Profile.{Plan}
use Rattle.qos_pcap.specs.Format.{Record}
use Rattle.run_journal.specs.declared.entry.Entry.{Entry}
use Rattle.run_journal.specs.declared.ended.PortEnd.{PortEnd}
use Rattle.run_journal.specs.Laws.{AreAccounted}
use Rattle.run_journal.specs.PortRun.{HasCounts}
use Rattle.run_journal.specs.Schedule.{arrivals_of}
use Rattle.port_egress.specs.Run.{Setup, paced_journal, schedule_by, sends_by}
use Rattle.port_files.specs.Change.{FileChange}
use Rattle.qos_pipeline.specs.Ports.{setup_of}
use Rattle.qos_pipeline.specs.Written.{IsWritten, IsLeft, target}

-- The journal is the paced journal of its arrivals, the numbers are those of its schedule, and each packet that arrived was
-- sent, waits or was turned away, once.
pub record IsPortEnd (s : Setup) (end : PortEnd) : Type 0 where
  pub pacing : end.journal ≡ paced_journal s (arrivals_of end.journal)
  pub counts : HasCounts end.journal (schedule_by s end.journal) end.counts
  pub account : AreAccounted (arrivals_of end.journal) (schedule_by s end.journal)

abbrev pub journals : List PortEnd → List (List Entry)
journals ends = map (λ end. end.journal) ends

-- what each port of a profile ended with is such
abbrev pub ArePortEnds : Plan → ℕ → List PortEnd → Type 0
ArePortEnds p origin ends =
    (n : ℕ) (plan : PortPlan) (end : PortEnd) → slice_get p.ports n ≡ Some plan → slice_get ends n ≡ Some end → IsPortEnd (setup_of p origin plan) end

-- each port's output was written, where the input has these records; `change` tells what became of the file of each port
abbrev pub AreWritten : Plan → ℕ → List Record → (ℕ → FileChange) → List PortEnd → List Bool → Type 0
AreWritten p origin records change ends faults =
    (n : ℕ) (plan : PortPlan) (end : PortEnd) (fault : Bool) → slice_get p.ports n ≡ Some plan → slice_get ends n ≡ Some end → slice_get faults n ≡ Some fault
    → IsWritten (target (setup_of p origin plan) records) (sends_by (setup_of p origin plan) end.journal) end.counts.sent (change n) fault

-- what is left of each port's output, where memory was refused
abbrev pub AreLeft : Plan → ℕ → ℕ → List Record → (ℕ → FileChange) → Type 0
AreLeft p origin input records change =
    (n : ℕ) (plan : PortPlan) → slice_get p.ports n ≡ Some plan → IsLeft (setup_of p origin plan) n input records (change n)
