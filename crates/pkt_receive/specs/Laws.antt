-- What follows for the colours of marks.
use Rattle.std.specs.Prelude.{◌≡◌, ℕ, ◌<◌, List, All, length, map, Some, slice_get}
use Rattle.qos_pcap.specs.Format.{Record}
use Rattle.profile_plan.specs.Profile.{Plan}
use Rattle.meter_table.specs.declared.mark.Mark.{Mark}
use Rattle.meter_table.specs.declared.mark.MeterLog.{MeterLog}
use Rattle.meter_table.specs.Asked.{request_in}
use Rattle.pkt_receive.specs.Colours.{Agrees, colours_by, colours_in, marks_at}
use Rattle.pkt_receive.specs.Marks.{asked_of}

-- the marks of an input's records have the colours that are found by meter, input and index: there is one mark for a record
abbrev pub MarksAgree : Type 0
MarksAgree =
    (p : Plan) (origin input : ℕ) (records : List Record) (marks : List Mark)
    → map request_in marks ≡ asked_of p origin input records → Agrees (colours_by marks) marks

-- so they have in the logs of their meters
abbrev pub LogsAgree : Type 0
LogsAgree =
    (logs : List MeterLog) (marks : List Mark) → Agrees (colours_by marks) marks
    → ((meter : ℕ) (log : MeterLog) → slice_get logs meter ≡ Some log → log.marks ≡ marks_at meter marks)
    → All (λ mark. mark.meter < length logs) marks → Agrees (colours_in logs) marks
