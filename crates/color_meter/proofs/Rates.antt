-- A rate within the limits of a plan is within those of a meter.
use Rattle.std.proofs.Common.{◌≡◌, ◌≤◌, ◌<◌, ℕ, zero, suc, ◌-◌, ◌%◌, max, true, false, if◌then◌else◌, refl, subst, inl, inr, arith}
use Rattle.std.proofs.Math.Nat.{div-le_self, mod-eq_of_lt}
use Rattle.std.proofs.lemmas.Bool.{eqb-true, and_parts, cases_lt}
use Rattle.std.proofs.lemmas.Nat.{le-div}
use Rattle.qos_base.specs.Divisor.{divides_both, greatest_up_to, gcd_of}
use Rattle.profile_plan.specs.Limits.{IsMeterRate}
use Rattle.profile_plan.specs.declared.meter.MeterRate.{MeterRate}
use Rattle.profile_plan.specs.declared.meter.MeterRate.TheVariants.{Periods, PerSecond}
use Rattle.color_meter.specs.Drip.{rate_of}
use Rattle.color_meter.specs.Meter.{IsRate}

-- a divisor of a positive number is not above it
divisor-below : (b n : ℕ) → 0 < b → b % suc n ≡ 0 → suc n ≤ b
divisor-below b n some divides =
    elim (cases_lt b (suc n)) [
      | inl less ↦ let rest = mod-eq_of_lt less in absurd (omega (arith, rest, divides, some))
      | inr more ↦ more
    ]

-- going down from any number, what is found is not above the second one
found-below : (a b n : ℕ) → 0 < b → greatest_up_to a b n ≤ b
unfolding greatest_up_to
found-below a b zero some = omega arith
found-below a b (suc n) some =
    elim (divides_both a b (suc n)) as (λ t. divides_both a b (suc n) ≡ t → (if t then suc n else greatest_up_to a b n) ≤ b) [
      | true ↦ λ e. divisor-below b n some (eqb-true _ _ (and_parts _ _ e).1)
      | false ↦ λ e. found-below a b n some
    ] refl

-- and it is at least 1
found-some : (a b n : ℕ) → 1 ≤ greatest_up_to a b (suc n)
unfolding greatest_up_to
found-some a b zero =
    let first : a % 1 ≡ 0 = omega arith in
    let second : b % 1 ≡ 0 = omega arith in rw (first, second) (omega arith)
found-some a b (suc n) =
    elim (divides_both a b (suc (suc n))) as (λ t. 1 ≤ (if t then suc (suc n) else greatest_up_to a b (suc n))) [
      | true ↦ omega arith
      | false ↦ found-some a b n
    ]

gcd-bounds : (a b : ℕ) → 0 < b → (1 ≤ gcd_of a b) × (gcd_of a b ≤ b)
unfolding gcd_of
gcd-bounds a b some =
    let last : suc (max a b - 1) ≡ max a b = omega arith in
    (subst (λ n. 1 ≤ greatest_up_to a b n) last (found-some a b (max a b - 1)), found-below a b (max a b) some)

pub rate-within : (rate : MeterRate) → IsMeterRate rate → IsRate (rate_of rate)
rate-within (Periods bytes period) ok = record { bytes = ok.0; some_period = ok.1.0; period = ok.1.1 }
rate-within (PerSecond rate) ok =
    let second : ℕ = 1000000000 in
    let divisor = gcd-bounds rate second (omega arith) in
    let bytes = div-le_self rate (gcd_of rate second) in
    let period = div-le_self second (gcd_of rate second) in
    record {
      bytes = omega (arith, bytes, ok);
      some_period = le-div 1 second (gcd_of rate second) (omega (arith, divisor.0)) (omega (arith, divisor.1));
      period = omega (arith, period);
    }
