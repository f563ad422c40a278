use Rattle.std.proofs.Common.{◌≡◌, ℕ, ◌<◌, Some, slice_get, vec_len}
use Rattle.meter_table.specs.declared.mark.Mark.{Mark}
use Rattle.meter_table.specs.Kept.{StandsIn}
use Rattle.meter_table.proofs.gather.place.Given as goal

abbrev pub invariant-loop-mark : goal.invariant-loop-mark
invariant-loop-mark l = record {
  stand : (n : ℕ) (mark : Mark) → n < l.mark-index → slice_get l.marks n ≡ Some mark → mark.meter ≡ l.meter → StandsIn l.log.items mark;
  count : vec_len l.log ≡ vec_len l.fn.log;
}
