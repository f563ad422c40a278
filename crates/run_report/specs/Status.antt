-- How a command ends.
use Rattle.std.specs.Prelude.{ℕ, Bool, if◌then◌else◌, List}
use Rattle.std.specs.List.{list_any}
use Rattle.qos_pcap.specs.declared.fault.PcapFault.TheVariants.{Read as ReadFault}
use Rattle.qos_pcap.specs.declared.fault.Stop.{Stop}
use Rattle.qos_pcap.specs.declared.fault.Stop.TheVariants.{End, NotOpened, Fault}
use Rattle.run_report.specs.declared.status.Status.{Status}
use Rattle.run_report.specs.declared.status.Status.TheVariants.{Fine, Usage, Profile, Read, Write, Capture, Memory}

-- the exit status of the program
abbrev pub status_number : Status → ℕ
status_number Fine = 0
status_number Usage = 2
status_number Profile = 3
status_number Read = 4
status_number Write = 5
status_number Capture = 6
status_number Memory = 7

-- a place of the list is true
abbrev pub any_true : List Bool → Bool
any_true faults = list_any (λ fault. fault) faults

-- the status of a run whose input stopped so, and whose outputs have such write faults: the first of 4, 6 and 5, else 0
abbrev pub status_for : Stop → List Bool → Status
status_for NotOpened faults = Read
status_for (Fault ReadFault) faults = Read
status_for (Fault _) faults = Capture
status_for End faults = if any_true faults then Write else Fine

-- the status after a report that failed
abbrev pub after_fault : Status → Status
after_fault Fine = Write
after_fault status = status
