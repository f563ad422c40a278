use Rattle.std.proofs.Common.{◌≢◌, arith}
use Rattle.std.proofs.lemmas.Bool.Decides.{nat_tests}
use Rattle.count_board.proofs.Moves.{sum_in_push}
use Rattle.count_board.proofs.laws.adds_up.Goals as goal

pub returns : goal.returns
returns c xs word k n =
    let here = sum_in_push word word n xs in
    let there = sum_in_push word k n xs in
    (grind (arith, nat_tests), λ (other : k ≢ word). grind (arith, nat_tests))
