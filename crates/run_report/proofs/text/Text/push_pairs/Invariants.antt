use Rattle.std.proofs.Common.{◌≡◌, ◌∷◌, ◌++◌, drop}
use Rattle.std.specs.List.{flat_map}
use Rattle.run_report.specs.Line.{pair}
use Rattle.run_report.proofs.text.Text.push_pairs.Given as goal

abbrev pub invariant-loop-name : goal.invariant-loop-name
invariant-loop-name l =
    l.self ++ flat_map (λ p. 32 ∷ pair (p.0.now, p.1)) (drop l.name-index l.pairs)
    ≡ l.initial.self ++ flat_map (λ p. 32 ∷ pair (p.0.now, p.1)) l.pairs
