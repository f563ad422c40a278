use Rattle.std.proofs.Common.{◌≡◌, ◌≤◌, ◌-◌, ◌+◌, ℕ, List, Some, length}
use Rattle.qos_profile.specs.declared.limits.TheConstants.{MAX_TEXT}
use Rattle.profile_file.proofs.Reading.{IsFront}
use Rattle.profile_file.proofs.text.read_text.Given as goal

abbrev pub invariant-loop-source : goal.invariant-loop-source
invariant-loop-source g l = record {
  small : length l.text.items ≤ MAX_TEXT + 1;
  front : (left : List ℕ) → g.S.Source.remaining l.initial.source ≡ Some left
      → IsFront l.text.items left (g.S.Source.remaining l.source);
  sure : g.S.Source.IsSure l.initial.source → g.S.Source.IsSure l.source;
}

abbrev pub decreases-loop-source : goal.decreases-loop-source
decreases-loop-source g l = MAX_TEXT + 1 - length l.text.items
