use Rattle.std.proofs.Common.{◌≡◌, ◌≢◌, ℕ, [], ◌∷◌, ◌++◌, cond, eqb, arith}
use Rattle.std.proofs.lemmas.Bool.Decides.{nat_tests}
use Rattle.std.proofs.lemmas.List.Sums.{fold-append}
use Rattle.count_board.specs.Tally.{last_in}
use Rattle.count_board.proofs.laws.last_is_latest.Goals as goal

pub returns : goal.returns
returns c xs word k n =
    let next : (j : ℕ) → last_in word (xs ++ (j, n) ∷ []) ≡ cond (eqb j word) n (last_in word xs) = λ j. fold-append (λ last (x : ℕ × ℕ). cond (eqb x.0 word) x.1 last) 0 xs ((j, n) ∷ []) in
    let here = next word in
    let there = next k in
    (grind (arith, nat_tests), λ (other : k ≢ word). grind (arith, nat_tests))
