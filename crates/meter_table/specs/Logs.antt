-- The logs that the marks of all seats of a table form.
use Rattle.std.specs.Prelude.{◌≡◌, ℕ, ◌<◌, List, length, map, Some, slice_get, All}
use Rattle.std.specs.List.{sum_by}
use Rattle.std.specs.List.Sorted.{IsStrictlyIncreasing}
use Rattle.color_meter.specs.Setting.{Setting}
use Rattle.meter_table.specs.declared.mark.Mark.{Mark}
use Rattle.meter_table.specs.declared.mark.MeterLog.{MeterLog}
use Rattle.meter_table.specs.declared.seat.MeterSeat.{MeterSeat}
use Rattle.meter_table.specs.declared.table.MeterTable.{MeterTable}
use Rattle.meter_table.specs.Log.{IsLegalLog, made_at}
use Rattle.meter_table.specs.Seats.{marks_by, settings_of}

-- a mark stands in a list of marks
abbrev pub Among : List Mark → Mark → Type 0
Among marks mark = (n : ℕ) × (slice_get marks n ≡ Some mark)

-- a mark was made by one of these seats
abbrev pub IsMadeBy : List MeterSeat → Mark → Type 0
IsMadeBy seats mark = (n : ℕ) × (seat : MeterSeat) × (slice_get seats n ≡ Some seat) × Among (marks_by mark.meter seat) mark

-- marks are all that these seats made, and no others
pub record AreAllMarks (seats : List MeterSeat) (marks : List Mark) : Type 0 where
  pub made : (mark : Mark) → Among marks mark → IsMadeBy seats mark
  pub all : (mark : Mark) → IsMadeBy seats mark → Among marks mark

-- The log of a meter: it is legal, each seat's marks stand in it at their turns and in the seat's order, and each turn is a mark of one seat.
pub record IsLogOf (meter : ℕ) (setting : Setting) (seats : List MeterSeat) (log : MeterLog) : Type 0 where
  pub meter_is : log.meter ≡ meter
  pub legal : IsLegalLog meter setting log.marks
  pub stands : (n : ℕ) (seat : MeterSeat) → slice_get seats n ≡ Some seat → All (λ mark. slice_get log.marks mark.turn ≡ Some mark) (marks_by meter seat)
  pub order : (n : ℕ) (seat : MeterSeat) → slice_get seats n ≡ Some seat → IsStrictlyIncreasing (map (λ mark. mark.turn) (marks_by meter seat))
  pub once : (turn : ℕ) → turn < length log.marks → sum_by (λ seat. made_at turn (marks_by meter seat)) seats ≡ 1

-- a log for each meter of a table, by number
pub record AreLogs (t : MeterTable) (seats : List MeterSeat) (logs : List MeterLog) : Type 0 where
  pub count : length logs ≡ length (settings_of t)
  pub each : (meter : ℕ) (setting : Setting) (log : MeterLog) → slice_get (settings_of t) meter ≡ Some setting → slice_get logs meter ≡ Some log
      → IsLogOf meter setting seats log
