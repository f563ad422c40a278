-- Numbers over their greatest common divisor.
use Rattle.std.proofs.Common.{◌≡◌, ℕ, ◌*◌, ◌/◌, ◌<◌, ◌≤◌, ◌^◌, inl, inr, ap, subst, arith}
use Rattle.std.specs.Int.{◌∣◌}
use Rattle.std.proofs.lemmas.Bool.{cases_lt}
use Rattle.std.proofs.Math.Nat.{div-mul_cancel, div-le_self, eq-zero_of_zero-dvd, mul-le-mul}

-- a divisor of a positive number is positive
pub divisor-positive : (g n : ℕ) → 0 < n → g ∣ n → 0 < g
divisor-positive g n positive divides =
    elim (cases_lt 0 g) [
      | inl above ↦ above
      | inr none ↦
          let g0 : g ≡ 0 = omega arith in
          absurd (omega (arith, positive, eq-zero_of_zero-dvd (subst (λ x. x ∣ n) g0 divides)))
    ]

-- the quotient is positive, and not greater
pub quotient-bounds : (g n : ℕ) → 0 < n → g ∣ n → (1 ≤ n / g) × (n / g ≤ n)
quotient-bounds g n positive divides = (above, div-le_self n g)
  where
    above : 1 ≤ n / g
    above = elim (cases_lt 0 (n / g)) [
      | inl more ↦ more
      | inr none ↦
          let zero_q : n / g ≡ 0 = omega arith in
          absurd (omega (arith, positive, div-mul_cancel g divides, ap (λ x. x * g) zero_q))
    ]

-- the whole bytes that a rate makes in at most ten seconds are no more than 2^40
pub bytes_in-bound : (rate ms : ℕ) → rate ≤ 12500000000 → ms ≤ 10000 → rate * ms / 1000 ≤ 2 ^ 40
bytes_in-bound rate ms r m =
    let product : rate * ms ≤ 12500000000 * 10000 = mul-le-mul r m in
    omega arith

-- a line makes at least one byte in a millisecond
pub bytes_in-some : (rate ms : ℕ) → 1000000 ≤ rate → 1 ≤ ms → 1 ≤ rate * ms / 1000
bytes_in-some rate ms r m =
    let product : 1000000 * 1 ≤ rate * ms = mul-le-mul r m in
    omega arith
