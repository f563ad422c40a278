-- The report of a command, line by line.
use Rattle.std.specs.Prelude.{ℕ, Bool, true, false, codes, List, [], ◌∷◌, ◌++◌, count_by, slice_index_or, Option}
use Rattle.std.specs.List.{flat_map}
use Rattle.std.specs.Option.{option_map_or}
use Rattle.qos_base.specs.declared.packet.Colour.{Colour}
use Rattle.qos_base.specs.declared.packet.Colour.TheVariants.{Green, Yellow, Red}
use Rattle.qos_pcap.specs.declared.fault.PcapFault.{PcapFault}
use Rattle.qos_pcap.specs.declared.fault.PcapFault.TheVariants as faults
use Rattle.qos_pcap.specs.declared.fault.Stop.{Stop}
use Rattle.qos_pcap.specs.declared.fault.Stop.TheVariants.{End, NotOpened, Fault}
use Rattle.qos_pcap.specs.Faults.{number_of, offset_of}
use Rattle.profile_plan.specs.Profile.{Plan}
use Rattle.profile_print.specs.Text.{name_of_meter}
use Rattle.qos_profile.specs.declared.fault.FaultKind.{FaultKind}
use Rattle.qos_profile.specs.declared.fault.FaultKind.TheVariants.{NotText, BadLine, UnknownKey, BadNumber, OutOfRange, Twice, Missing, NoSuchName, TooLarge}
use Rattle.qos_profile.specs.declared.fault.ProfileFault.{ProfileFault}
use Rattle.meter_table.specs.declared.mark.Mark.{Mark}
use Rattle.meter_table.specs.declared.mark.MeterLog.{MeterLog}
use Rattle.run_journal.specs.declared.ended.PortEnd.{PortEnd}
use Rattle.run_report.specs.declared.ended.Ended.{Ended}
use Rattle.run_report.specs.declared.ended.InputEnd.{InputEnd}
use Rattle.run_report.specs.declared.ended.Note.{Note}
use Rattle.run_report.specs.declared.ended.Note.TheVariants.{Nothing, ProfileRead, Profile}
use Rattle.run_report.specs.declared.status.Status.{Status}
use Rattle.run_report.specs.declared.status.Status.TheVariants as statuses
use Rattle.run_report.specs.Line.{line, pair, pairs_line, lines_from}
use Rattle.run_report.specs.Status.{status_number}

-- a section of the profile that was skipped, by its line
abbrev pub skipped_line : ℕ → List ℕ
skipped_line n = line (pair (codes "note line", n) ++ codes " skipped")

-- where the records of an input went
unfoldable pub input_line : ℕ → InputEnd → List ℕ
input_line n input =
    pairs_line (pair (codes "input", n)) (
    (codes "read", input.read)
    ∷ (codes "sent", input.sent)
    ∷ (codes "left", input.left)
    ∷ (codes "unparsed", slice_index_or input.reasons 0 0)
    ∷ (codes "unmatched", slice_index_or input.reasons 1 0)
    ∷ (codes "oversize", slice_index_or input.reasons 2 0)
    ∷ (codes "toolong", slice_index_or input.reasons 3 0)
    ∷ (codes "noslot", slice_index_or input.reasons 4 0)
    ∷ (codes "policed", slice_index_or input.reasons 5 0)
    ∷ (codes "tailfull", slice_index_or input.reasons 6 0)
    ∷ (codes "unwritten", input.unwritten)
    ∷ []
    )

-- the fault at which the reading of an input stopped
unfoldable pub fault_line : ℕ → PcapFault → List ℕ
fault_line n faults.Read = line (pair (codes "input", n) ++ codes " read fault")
fault_line n fault =
    pairs_line (pair (codes "input", n)) ((codes "fault", number_of fault) ∷ (codes "at", offset_of fault) ∷ [])

-- why an input was not read to its end, if it was not
abbrev pub stop_line : ℕ → Stop → List ℕ
stop_line n End = []
stop_line n NotOpened = line (pair (codes "input", n) ++ codes " not opened")
stop_line n (Fault fault) = fault_line n fault

abbrev pub input_lines : ℕ → InputEnd → List ℕ
input_lines n input = input_line n input ++ stop_line n input.stopped

-- the numbers of a port
unfoldable pub port_line : ℕ → PortEnd → List ℕ
port_line n port =
    pairs_line (pair (codes "port", n)) (
    (codes "arrived", port.counts.arrived)
    ∷ (codes "sent", port.counts.sent)
    ∷ (codes "left", port.counts.left)
    ∷ (codes "tailfull", port.counts.tailfull)
    ∷ (codes "unwritten", port.counts.unwritten)
    ∷ (codes "dequeues", port.counts.dequeues)
    ∷ (codes "time", port.counts.time)
    ∷ []
    )

-- that the output of a port has a fault, where it has one
abbrev pub port_fault_line : ℕ → Bool → List ℕ
port_fault_line n true = line (pair (codes "port", n) ++ codes " write fault")
port_fault_line n false = []

abbrev pub port_lines : List Bool → ℕ → PortEnd → List ℕ
port_lines write_faults n port = port_line n port ++ port_fault_line n (slice_index_or write_faults n false)

-- two colours are the same
abbrev pub is_colour : Colour → Colour → Bool
is_colour Green Green = true
is_colour Yellow Yellow = true
is_colour Red Red = true
is_colour _ _ = false

-- how many packets were marked with a colour
abbrev pub marked : Colour → List Mark → ℕ
marked colour marks = count_by (λ mark. is_colour colour mark.colour) marks

-- the name of a meter of the profile
abbrev pub meter_name : Option Plan → ℕ → List ℕ
meter_name profile n = option_map_or (λ p. name_of_meter p.meters n) profile []

-- how many packets a meter gave each colour
unfoldable pub meter_line : Option Plan → MeterLog → List ℕ
meter_line profile log =
    pairs_line (codes "meter " ++ meter_name profile log.meter) (
    (codes "green", marked Green log.marks)
    ∷ (codes "yellow", marked Yellow log.marks)
    ∷ (codes "red", marked Red log.marks)
    ∷ []
    )

-- the lines of the sections that were skipped
abbrev pub skipped_in : Option Plan → List ℕ
skipped_in profile = option_map_or (λ p. p.skipped) profile []

-- what a run over a profile came to
unfoldable pub run_lines : Option Plan → Ended → List ℕ
run_lines profile ended =
    flat_map skipped_line (skipped_in profile)
    ++ lines_from input_lines 0 ended.inputs
    ++ lines_from (port_lines ended.write_fault) 0 ended.ports
    ++ flat_map (meter_line profile) ended.meters

-- the number of a profile's fault
unfoldable pub kind_number : FaultKind → ℕ
kind_number NotText = 1
kind_number BadLine = 2
kind_number UnknownKey = 3
kind_number BadNumber = 4
kind_number OutOfRange = 5
kind_number Twice = 6
kind_number Missing = 7
kind_number NoSuchName = 8
kind_number TooLarge = 9

-- where a profile has its fault, and which
unfoldable pub profile_fault_line : ProfileFault → List ℕ
profile_fault_line fault =
    pairs_line (pair (codes "profile line", fault.line)) ((codes "fault", kind_number fault.kind) ∷ [])

-- why the profile was not had; where it was, what the run came to
abbrev pub noted_lines : Option Plan → Ended → Note → List ℕ
noted_lines profile ended Nothing = run_lines profile ended
noted_lines profile ended ProfileRead = line (codes "profile read fault")
noted_lines profile ended (Profile fault) = profile_fault_line fault

-- the lines before the last
unfoldable pub told_lines : Status → Option Plan → Ended → List ℕ
told_lines statuses.Usage profile ended = line (codes "usage")
told_lines statuses.Memory profile ended = line (codes "memory")
told_lines _ profile ended = noted_lines profile ended ended.note

-- the last line
abbrev pub status_line : Status → List ℕ
status_line status = line (pair (codes "status", status_number status))

-- the report of a command that ended so; the profile is there where one was run
unfoldable pub report_of : Status → Option Plan → Ended → List ℕ
report_of status profile ended = told_lines status profile ended ++ status_line status
