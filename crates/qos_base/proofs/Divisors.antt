-- The greatest common divisor is found by going down from the greater number.
use Rattle.std.proofs.Common.{◌≡◌, ℕ, zero, suc, ◌<◌, ◌≤◌, max, true, false, cond, refl, ap, ◌∙◌, subst, arith, inl, inr}
use Rattle.std.specs.Int.{◌∣◌, IsGcd}
use Rattle.std.proofs.lemmas.Nat.Gcd.{dvd-zero, le_of_dvd, dvd_of_mod-eq-zero, mod-eq-zero_of_dvd, le_from_IsGcd}
use Rattle.std.proofs.Math.Nat.{eq-zero_of_zero-dvd}
use Rattle.std.proofs.lemmas.Bool.{eqb-true, eq-eqb, cases_lt, and_parts, both_ways}
use Rattle.qos_base.specs.Divisor.{divides_both, greatest_up_to, gcd_of}

-- a test that both are divided says so
divides_both-says : (a b n : ℕ) → divides_both a b n ≡ true → (n ∣ a) × (n ∣ b)
divides_both-says a b n h =
    let t = and_parts _ _ h in
    (dvd_of_mod-eq-zero n (eqb-true _ _ t.0), dvd_of_mod-eq-zero n (eqb-true _ _ t.1))

divides_both-holds : (a b n : ℕ) → n ∣ a → n ∣ b → divides_both a b n ≡ true
divides_both-holds a b n p q =
    rw (eq-eqb _ _ (mod-eq-zero_of_dvd n p), eq-eqb _ _ (mod-eq-zero_of_dvd n q)) refl

-- from any number that is not below it
greatest_up_to-is : (a b g n : ℕ) → IsGcd a b g → 0 < g → g ≤ n → greatest_up_to a b n ≡ g
unfolding greatest_up_to
greatest_up_to-is a b g zero h positive below = absurd (omega arith)
greatest_up_to-is a b g (suc n) h positive below =
    elim (divides_both a b (suc n)) as (λ t. divides_both a b (suc n) ≡ t → cond t (suc n) (greatest_up_to a b n) ≡ g) [
      | true ↦ λ e.
          let d = divides_both-says a b (suc n) e in
          omega (arith, le_from_IsGcd a b g (suc n) h positive d.0 d.1)
      | false ↦ λ e.
          elim (cases_lt g (suc n)) [
            | inl less ↦ greatest_up_to-is a b g n h positive (omega arith)
            | inr more ↦
                let same : g ≡ suc n = omega arith in
                absurd (both_ways _ (ap (divides_both a b) same ∙ e) (divides_both-holds a b g h.0 h.1))
          ]
    ] refl

-- whatever is a greatest common divisor is this one
pub gcd_of-is : (a b g : ℕ) → IsGcd a b g → gcd_of a b ≡ g
unfolding gcd_of greatest_up_to
gcd_of-is a b g h =
    elim (cases_lt 0 (max a b)) [
      | inl some ↦ greatest_up_to-is a b g (max a b) h (positive some) (bound some)
      | inr none ↦
          let a0 : a ≡ 0 = omega arith in
          let b0 : b ≡ 0 = omega arith in
          let more : suc g ∣ g = h.2 (suc g) (rw a0 (dvd-zero (suc g))) (rw b0 (dvd-zero (suc g))) in
          let m0 : max a b ≡ 0 = omega arith in
          rw m0 (elim (cases_lt 0 g) [ inl above ↦ absurd (omega (arith, le_of_dvd above more)) | inr below ↦ omega arith ])
    ]
  where
    positive : 0 < max a b → 0 < g
    positive some = elim (cases_lt 0 g) [
      | inl above ↦ above
      | inr below ↦
          let g0 : g ≡ 0 = omega arith in
          absurd (omega (arith, some, eq-zero_of_zero-dvd (subst (λ x. x ∣ a) g0 h.0), eq-zero_of_zero-dvd (subst (λ x. x ∣ b) g0 h.1)))
    ]

    bound : 0 < max a b → g ≤ max a b
    bound some = elim (cases_lt 0 a) [
      | inl above ↦ omega (arith, le_of_dvd above h.0)
      | inr below ↦ omega (arith, le_of_dvd {m = g} {n = b} (omega arith) h.1)
    ]
