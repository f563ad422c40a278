use Rattle.std.proofs.Common.{◌≡◌, drop, map}
use Rattle.qos_profile.specs.Heads.{fits}
use Rattle.qos_profile.proofs.matching.fits.Given as goal

abbrev pub invariant-loop-place : goal.invariant-loop-place
invariant-loop-place l =
    fits (drop l.place (map (λ p. p.now) l.pattern)) (drop l.place (map (λ w. w.now) l.words)) ≡ fits (map (λ p. p.now) l.pattern) (map (λ w. w.now) l.words)
