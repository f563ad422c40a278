use Rattle.std.proofs.Common.{◌≡◌, ℕ, ◌<◌, get_or, length}
use Rattle.profile_plan.specs.Whole.{bytes_in}
use Rattle.profile_plan.proofs.shaping.bytes_of_all.Given as goal

abbrev pub invariant-loop-class : goal.invariant-loop-class
invariant-loop-class l = record {
  classes : length l.bytes ≡ 13;
  written : (k : ℕ) → k < l.class → get_or l.bytes k 0 ≡ bytes_in (get_or l.rates k 0) l.ms;
}
