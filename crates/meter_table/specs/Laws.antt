-- What follows for logs, and for marks of several callers, from what they are.
use Rattle.std.specs.Prelude.{◌≡◌, ◌≢◌, ℕ, List, [], ◌∷◌, ◌++◌, All}
use Rattle.color_meter.specs.Setting.{Setting}
use Rattle.meter_table.specs.declared.mark.Mark.{Mark}
use Rattle.meter_table.specs.declared.mark.MeterLog.{MeterLog}
use Rattle.meter_table.specs.declared.seat.MeterSeat.{MeterSeat}
use Rattle.meter_table.specs.declared.table.MeterTable.{MeterTable}
use Rattle.meter_table.specs.Logs.{AreAllMarks, IsLogOf}
use Rattle.meter_table.specs.Seats.{IsFresh, marks_by}

-- the log of a meter of which one seat made all marks is that seat's marks
abbrev pub OneSeatsLog : Type 0
OneSeatsLog = (meter : ℕ) (setting : Setting) (seat : MeterSeat) (log : MeterLog) → IsLogOf meter setting (seat ∷ []) log → log.marks ≡ marks_by meter seat

-- a seat as it is after one more mark: the mark is its last of that meter, and what it made by other meters is as it was
pub record HasMarked (seat after : MeterSeat) (mark : Mark) : Type 0 where
  pub made : marks_by mark.meter after ≡ marks_by mark.meter seat ++ mark ∷ []
  pub others : (meter : ℕ) → meter ≢ mark.meter → marks_by meter after ≡ marks_by meter seat

-- fresh seats have made no marks
abbrev pub FreshMadeNone : Type 0
FreshMadeNone = (t : MeterTable) (seats : List MeterSeat) → All (IsFresh t) seats → AreAllMarks seats []

-- all marks of a seat, and one more that it makes, are all that it has made then
abbrev pub OneMoreMade : Type 0
OneMoreMade = (seat after : MeterSeat) (mark : Mark) (marks : List Mark) → AreAllMarks (seat ∷ []) marks → HasMarked seat after mark → AreAllMarks (after ∷ []) (marks ++ mark ∷ [])

-- all marks of some seats, and all of others, are all that the seats together made
abbrev pub TogetherMade : Type 0
TogetherMade = (seats others : List MeterSeat) (marks more : List Mark) → AreAllMarks seats marks → AreAllMarks others more → AreAllMarks (seats ++ others) (marks ++ more)
