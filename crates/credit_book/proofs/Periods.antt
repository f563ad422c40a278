-- Whole periods, counted in one quotient and one at a time.
use Rattle.std.proofs.Common.{◌≡◌, ◌<◌, ◌≤◌, ℕ, zero, suc, ◌+◌, ◌*◌, ◌/◌, ◌-◌, min, ap, ◌∙◌, arith}
use Rattle.std.proofs.Math.Nat.{mul-add-div}
use Rattle.credit_book.specs.Bucket.{after_periods, multiples}

-- a moment's quotient is that of an earlier multiple of the period and that of the rest
quotient-parts : (p a b : ℕ) → 1 ≤ p → a ≡ p * (a / p) → a ≤ b → b / p ≡ a / p + (b - a) / p
quotient-parts p a b some whole ordered =
    let parts : b ≡ p * (a / p) + (b - a) = omega arith in
    let positive : 0 < p = omega arith in
    ap (λ x. x / p) parts ∙ mul-add-div positive (a / p) (b - a)

-- the periods since a multiple of the period are the multiples since then
pub periods-multiples : (p a b : ℕ) → 1 ≤ p → a ≡ p * (a / p) → a ≤ b → (b - a) / p ≡ multiples p a b
periods-multiples p a b some whole ordered =
    let parts = quotient-parts p a b some whole ordered in omega arith

-- after those periods the time is the last multiple
pub periods-time : (p a b : ℕ) → 1 ≤ p → a ≡ p * (a / p) → a ≤ b → a + (b - a) / p * p ≡ p * (b / p)
periods-time p a b some whole ordered =
    let parts = ap (λ x. p * x) (quotient-parts p a b some whole ordered) in grind arith

-- one more period in the sum
one-more : (size per n c : ℕ) → min size (min size (c + n * per) + per) ≡ min size (c + suc n * per)
one-more size per n c =
    let product : suc n * per ≡ n * per + per = grind arith in omega arith

-- one period at a time is all of them in one sum
pub after_periods-min : (size per n c : ℕ) → c ≤ size → after_periods size per n c ≡ min size (c + n * per)
unfolding after_periods
after_periods-min size per zero c within = omega arith
after_periods-min size per (suc n) c within =
    ap (λ x. min size (x + per)) (after_periods-min size per n c within) ∙ one-more size per n c
