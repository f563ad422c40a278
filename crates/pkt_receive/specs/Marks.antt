-- Which records are marked, what their meters are asked, and what the marks make of them.
use Rattle.std.specs.Prelude.{◌≡◌, ◌==◌, ℕ, ◌+◌, ◌≤◌, List, [], ◌∷◌, ◌++◌, filter, length, map, Some, slice_get, Result, Ok, Err}
use Rattle.std.specs.Option.{option_map_or}
use Rattle.qos_base.specs.declared.reason.Reason.{Reason}
use Rattle.qos_base.specs.Time.{moment_of}
use Rattle.qos_pcap.specs.Format.{Record}
use Rattle.profile_plan.specs.declared.meter.MeterPlan.{MeterPlan}
use Rattle.profile_plan.specs.Profile.{Plan}
use Rattle.color_meter.specs.Setting.{setting_of}
use Rattle.meter_table.specs.declared.mark.Mark.{Mark}
use Rattle.meter_table.specs.declared.mark.MeterLog.{MeterLog}
use Rattle.meter_table.specs.Asked.{Request, request_in}
use Rattle.meter_table.specs.Log.{IsLegalLog}
use Rattle.meter_table.specs.Seats.{parts_at, settings_of}
use Rattle.pkt_receive.specs.declared.classify.Classified.{Classified}
use Rattle.pkt_receive.specs.declared.fate.Fate.{Fate}
use Rattle.pkt_receive.specs.declared.marker.Marker.{Marker}
use Rattle.pkt_receive.specs.Classes.{class_of}
use Rattle.pkt_receive.specs.Colours.{Agrees, Colours}
use Rattle.pkt_receive.specs.Fate.{fate_of}

-- what a meter is asked about the record at an index of an input: its moment after the origin, its length without link header and tags, and its precolour
abbrev pub request_of : ℕ → ℕ → ℕ → ℕ → Classified → ℕ → Request
request_of origin input index stamp class meter = record {
  meter = meter;
  input = input;
  index = index;
  at = moment_of origin stamp;
  len = class.len;
  pre = class.place.pre;
}

abbrev pub requests_by : ℕ → ℕ → ℕ → Record → Result Classified Reason → List Request
requests_by origin input index r (Err reason) = []
requests_by origin input index r (Ok class) = option_map_or (λ meter. request_of origin input index r.stamp class meter ∷ []) class.place.meter []

-- what a record asks: it reaches a meter where it comes to a place that has one
abbrev pub asked_by : Plan → ℕ → ℕ → ℕ → Record → List Request
asked_by p origin input index r = requests_by origin input index r (class_of p input r)

-- what the records of an input ask, in order, where the first has this index
abbrev pub asked_from : Plan → ℕ → ℕ → ℕ → List Record → List Request
asked_from p origin input index [] = []
asked_from p origin input index (r ∷ rs) = asked_by p origin input index r ++ asked_from p origin input (index + 1) rs

abbrev pub asked_of : Plan → ℕ → ℕ → List Record → List Request
asked_of p origin input records = asked_from p origin input 0 records

-- of these questions, those to one meter
abbrev pub asked_at : ℕ → List Request → List Request
asked_at meter requests = filter (λ request. request.meter == meter) requests

-- The log of a meter of a profile, over the records of an input: it is legal, and has exactly one mark for each record that reaches
-- the meter, in order of index, and no other.
pub record IsLogFor (p : Plan) (origin input : ℕ) (records : List Record) (meter : ℕ) (plan : MeterPlan) (log : MeterLog) : Type 0 where
  pub meter_is : log.meter ≡ meter
  pub legal : IsLegalLog meter (setting_of plan) log.marks
  pub marks : map request_in log.marks ≡ asked_at meter (asked_of p origin input records)

-- the logs of all meters of a profile
pub record AreLogsFor (p : Plan) (origin input : ℕ) (records : List Record) (logs : List MeterLog) : Type 0 where
  pub count : length logs ≡ length p.meters
  pub each : (meter : ℕ) (plan : MeterPlan) (log : MeterLog) → slice_get p.meters meter ≡ Some plan → slice_get logs meter ≡ Some log
      → IsLogFor p origin input records meter plan log

-- the logs of all meters of a profile are legal
pub record AreLegalLogs (p : Plan) (logs : List MeterLog) : Type 0 where
  pub count : length logs ≡ length p.meters
  pub each : (meter : ℕ) (plan : MeterPlan) (log : MeterLog) → slice_get p.meters meter ≡ Some plan → slice_get logs meter ≡ Some log
      → (log.meter ≡ meter) × IsLegalLog meter (setting_of plan) log.marks

-- what became of a record, for which these marks were made
pub record IsFateOf (p : Plan) (origin input index : ℕ) (r : Record) (made : List Mark) (fate : Fate) : Type 0 where
  pub asked : map request_in made ≡ asked_by p origin input index r
  pub fate_is : (colours : Colours) → Agrees colours made → fate_of p colours input index r ≡ fate

-- what no marking changes of a marker
pub record StaysMarker (before after : Marker) : Type 0 where
  pub table : after.table.now ≡ before.table.now
  pub origin : after.origin ≡ before.origin
  pub parts : (meter : ℕ) → parts_at meter after.seat ≡ parts_at meter before.seat

-- a marker of the meters of a profile that has made so many marks at most
pub record IsMarking (p : Plan) (most : ℕ) (m : Marker) : Type 0 where
  pub settings : settings_of m.table.now ≡ map setting_of p.meters
  pub few : length m.marks.items ≤ most
