use Rattle.std.proofs.Common.{◌≡◌, ℕ, ◌<◌, map, get_or, false, []}
use Rattle.std.specs.Str.{bytes_eq}
use Rattle.qos_profile.proofs.matching.place_among.Given as goal

abbrev pub invariant-loop-place : goal.invariant-loop-place
invariant-loop-place l = (k : ℕ) → k < l.place → bytes_eq (get_or (map (λ w. w.now) l.choices) k []) l.word ≡ false
