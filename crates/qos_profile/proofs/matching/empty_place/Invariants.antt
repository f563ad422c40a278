use Rattle.std.proofs.Common.{◌≡◌, ◌==◌, ℕ, ◌<◌, map, length, get_or, false, []}
use Rattle.qos_profile.proofs.matching.empty_place.Given as goal

abbrev pub invariant-loop-place : goal.invariant-loop-place
invariant-loop-place l = (k : ℕ) → k < l.place → (length (get_or (map (λ p. p.now) l.pattern) k []) == 0) ≡ false
