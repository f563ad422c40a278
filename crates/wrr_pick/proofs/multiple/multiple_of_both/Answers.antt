use Rattle.std.proofs.Math.Nat.{dvd-mul_left}
use Rattle.wrr_pick.proofs.Multiples.{product-over-divisor, divides-product-over, product-over-bounds}
use Rattle.wrr_pick.proofs.multiple.multiple_of_both.Goals as goal

pub nonzero_div-result : goal.nonzero_div-result
nonzero_div-result c =
    (product-over-bounds _ _ _ c.requires.first_positive c.requires.second_positive c.gcd.ensures.divisor).2

pub returns-clause-first : goal.returns-clause-first
returns-clause-first c = divides-product-over _ _ _ c.gcd.ensures.divisor

pub returns-clause-second : goal.returns-clause-second
returns-clause-second c = dvd-mul_left _ _

pub returns-clause-least : goal.returns-clause-least
returns-clause-least c = λ m. product-over-divisor _ _ _ m c.requires.first_positive c.requires.second_positive c.gcd.ensures.divisor

pub returns-clause-positive : goal.returns-clause-positive
returns-clause-positive c =
    (product-over-bounds _ _ _ c.requires.first_positive c.requires.second_positive c.gcd.ensures.divisor).0
