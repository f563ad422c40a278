use Rattle.std.proofs.Common.{◌≡◌, ◌∷◌, ◌++◌, drop, map}
use Rattle.std.specs.List.{flat_map}
use Rattle.std.specs.Fmt.{decimal}
use Rattle.profile_print.proofs.text.Text.push_more_numbers.Given as goal

abbrev pub invariant-loop-number : goal.invariant-loop-number
invariant-loop-number l = l.self ++ flat_map (λ w. 32 ∷ w) (map decimal (drop l.number-index l.numbers)) ≡ l.initial.self ++ flat_map (λ w. 32 ∷ w) (map decimal l.numbers)
