-- Legal logs of a meter.
use Rattle.std.specs.Prelude.{◌≡◌, ℕ, ◌==◌, List, Some, fold, slice_get, take, count_by}
use Rattle.color_meter.specs.Meter.{MeterState, checked, full}
use Rattle.color_meter.specs.Setting.{Setting}
use Rattle.meter_table.specs.declared.mark.Mark.{Mark}

-- a meter after a mark
abbrev pub after_mark : MeterState → Mark → MeterState
after_mark m mark = (checked mark.at mark.len mark.pre m).1

-- a meter of a setting after these marks; it began full
abbrev pub meter_after : Setting → List Mark → MeterState
meter_after setting marks = fold after_mark (full setting) marks

-- a mark stands at its turn, and its colour is the reply of the meter that the marks before it left
pub record IsLegal (meter : ℕ) (setting : Setting) (before : List Mark) (turn : ℕ) (mark : Mark) : Type 0 where
  pub meter_is : mark.meter ≡ meter
  pub turn_is : mark.turn ≡ turn
  pub colour : mark.colour ≡ (checked mark.at mark.len mark.pre (meter_after setting before)).0

-- marks are a legal log of a meter: their turns are 0, 1, 2 and so on, and each has the meter's reply after those before it
abbrev pub IsLegalLog : ℕ → Setting → List Mark → Type 0
IsLegalLog meter setting marks =
    (turn : ℕ) (mark : Mark) → slice_get marks turn ≡ Some mark → IsLegal meter setting (take turn marks) turn mark

-- how many marks of a list have a turn
abbrev pub made_at : ℕ → List Mark → ℕ
made_at turn marks = count_by (λ mark. mark.turn == turn) marks
