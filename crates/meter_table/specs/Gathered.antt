-- How marks fill the log of a meter.
use Rattle.std.specs.Prelude.{◌≡◌, ℕ, ◌<◌, List, length, Some, slice_get}
use Rattle.meter_table.specs.declared.mark.Mark.{Mark}
use Rattle.meter_table.specs.Kept.{StandsIn}

-- among these marks, those of a meter stand in its log at their turns, and each turn has one
pub record Fills (meter : ℕ) (marks log : List Mark) : Type 0 where
  pub stand : (n : ℕ) (mark : Mark) → slice_get marks n ≡ Some mark → mark.meter ≡ meter → StandsIn log mark
  pub each : (turn : ℕ) → turn < length log → (n : ℕ) × (mark : Mark) × (slice_get marks n ≡ Some mark) × (mark.meter ≡ meter) × (mark.turn ≡ turn)
