use Rattle.std.proofs.Common.{◌≡◌, ℕ, ◌<◌, get_or, length, map, []}
use Rattle.qos_profile.specs.Values.{number_or_zero}
use Rattle.qos_profile.proofs.value.sizes.Given as goal

abbrev pub invariant-loop-place : goal.invariant-loop-place
invariant-loop-place l = record {
  count : length l.sizes ≡ 13;
  written : (k : ℕ) → k < l.place → get_or l.sizes k 0 ≡ number_or_zero (get_or (map (λ w. w.now) l.words) k []);
}
