-- Tokens one by one are all tokens in one sum.
use Rattle.std.proofs.Common.{◌≡◌, ◌==◌, ◌<◌, ◌≤◌, ℕ, zero, suc, ◌+◌, ◌-◌, ◌*◌, ◌/◌, ◌%◌, min, Bool, true, false, if◌then◌else◌}
use Rattle.std.proofs.Common.{inl, inr, sym, ap, ◌∙◌, arith}
use Rattle.std.proofs.Math.Nat.{add-zero, add-suc, div-mul-le_self}
use Rattle.std.proofs.lemmas.Bool.{cases_lt}
use Rattle.std.proofs.lemmas.Nat.{div-add-mod', div-mul-add, mod-mul-add, le-div}
use Rattle.std.proofs.lemmas.Grind.{common_steps}
use Rattle.color_meter.specs.Drip.{Rate, tokens_at, one_by_one, dripped}
use Rattle.color_meter.specs.Closed.{tokens_between, overflowing}
use Rattle.color_meter.specs.SrTcm as sr
use Rattle.color_meter.specs.TrTcm as tr

-- some tokens and then some more are all of them
pub one_by_one-add : (f : ℕ × ℕ → ℕ × ℕ) (m n : ℕ) (x : ℕ × ℕ) → one_by_one f n (one_by_one f m x) ≡ one_by_one f (m + n) x
unfolding one_by_one
one_by_one-add f m zero x = ap (λ k. one_by_one f k x) (sym (add-zero m))
one_by_one-add f m (suc n) x = ap f (one_by_one-add f m n x) ∙ ap (λ k. one_by_one f k x) (sym (add-suc m n))

-- the multiples of a period up to one nanosecond later
multiples-suc : (p n : ℕ) → 1 ≤ p → suc n / p ≡ n / p + (if suc n % p == 0 then 1 else 0)
multiples-suc p n some =
    let positive : 0 < p = omega arith in
    let whole = div-add-mod' n p in
    elim (cases_lt (n % p + 1) p) [
      | inl less ↦
          let parts : suc n ≡ n / p * p + (n % p + 1) = omega arith in
          let quotient : suc n / p ≡ n / p = ap (λ x. x / p) parts ∙ div-mul-add (n / p) p (n % p + 1) less in
          let rest : suc n % p ≡ n % p + 1 = ap (λ x. x % p) parts ∙ mod-mul-add (n / p) p (n % p + 1) less in
          grind (arith, common_steps)
      | inr last ↦
          let parts : suc n ≡ (n / p + 1) * p + 0 = grind arith in
          let quotient : suc n / p ≡ n / p + 1 = ap (λ x. x / p) parts ∙ div-mul-add (n / p + 1) p 0 positive in
          let rest : suc n % p ≡ 0 = ap (λ x. x % p) parts ∙ mod-mul-add (n / p + 1) p 0 positive in
          grind (arith, common_steps)
    ]

-- a later moment has had no fewer multiples
div-mono : (p a b : ℕ) → 1 ≤ p → a ≤ b → a / p ≤ b / p
div-mono p a b some ordered = le-div (a / p) b p (omega arith) (omega (arith, div-mul-le_self a p))

-- one multiple more, or none
sum-step : (q0 q1 b : ℕ) (multiple : Bool) → q0 ≤ q1 →
    (q1 - q0) * b + (if multiple then b else 0) ≡ (q1 + (if multiple then 1 else 0) - q0) * b
sum-step q0 q1 b true ordered =
    let more : q1 + 1 - q0 ≡ suc (q1 - q0) = omega arith in rw more (grind arith)
sum-step q0 q1 b false ordered = grind arith

-- what a nanosecond brings is what its multiples count
tokens-suc : (r : Rate) (a m : ℕ) → 1 ≤ r.period → a ≤ m → tokens_between r a m + tokens_at r (suc m) ≡ tokens_between r a (suc m)
tokens-suc r a m some ordered =
    sum-step (a / r.period) (m / r.period) r.bytes (suc m % r.period == 0) (div-mono r.period a m some ordered)
    ∙ ap (λ q. (q - a / r.period) * r.bytes) (sym (multiples-suc r.period m some))

tokens-none : (r : Rate) (a : ℕ) → 0 ≡ tokens_between r a (a + 0)
tokens-none r a = rw (add-zero a) (grind arith)

-- nanosecond by nanosecond the tokens of a rate are those of its multiples
pub dripped-sum : (f : ℕ × ℕ → ℕ × ℕ) (r : Rate) (a n : ℕ) (x : ℕ × ℕ) → 1 ≤ r.period →
    dripped f r a n x ≡ one_by_one f (tokens_between r a (a + n)) x
unfolding dripped one_by_one
dripped-sum f r a zero x some = ap (λ k. one_by_one f k x) (tokens-none r a)
dripped-sum f r a (suc n) x some =
    ap (λ y. one_by_one f (tokens_at r (a + suc n)) y) (dripped-sum f r a n x some)
    ∙ one_by_one-add f (tokens_between r a (a + n)) (tokens_at r (a + suc n)) x
    ∙ ap (λ k. one_by_one f k x) (rw (add-suc a n) (tokens-suc r a (a + n) some (omega arith)))

token-overflow : (cbs ebs n tc te : ℕ) → tc ≤ cbs → te ≤ ebs →
    sr.token cbs ebs (overflowing cbs ebs n (tc, te)) ≡ overflowing cbs ebs (suc n) (tc, te)
token-overflow cbs ebs n tc te c e = grind (arith, common_steps)

-- srTCM: one by one, tokens fill C and then E
pub one_by_one-overflow : (cbs ebs n tc te : ℕ) → tc ≤ cbs → te ≤ ebs →
    one_by_one (sr.token cbs ebs) n (tc, te) ≡ overflowing cbs ebs n (tc, te)
unfolding one_by_one
one_by_one-overflow cbs ebs zero tc te c e = grind (arith, common_steps)
one_by_one-overflow cbs ebs (suc n) tc te c e =
    ap (λ x. sr.token cbs ebs x) (one_by_one-overflow cbs ebs n tc te c e) ∙ token-overflow cbs ebs n tc te c e

token-committed : (cbs n tc t : ℕ) → tc ≤ cbs → tr.committed_token cbs (min cbs (tc + n), t) ≡ (min cbs (tc + suc n), t)
token-committed cbs n tc t c = grind (arith, common_steps)

pub one_by_one-committed : (cbs n tc t : ℕ) → tc ≤ cbs → one_by_one (tr.committed_token cbs) n (tc, t) ≡ (min cbs (tc + n), t)
unfolding one_by_one
one_by_one-committed cbs zero tc t c = grind (arith, common_steps)
one_by_one-committed cbs (suc n) tc t c =
    ap (λ x. tr.committed_token cbs x) (one_by_one-committed cbs n tc t c) ∙ token-committed cbs n tc t c

token-peak : (pbs n tc tp : ℕ) → tp ≤ pbs → tr.peak_token pbs (tc, min pbs (tp + n)) ≡ (tc, min pbs (tp + suc n))
token-peak pbs n tc tp p = grind (arith, common_steps)

pub one_by_one-peak : (pbs n tc tp : ℕ) → tp ≤ pbs → one_by_one (tr.peak_token pbs) n (tc, tp) ≡ (tc, min pbs (tp + n))
unfolding one_by_one
one_by_one-peak pbs zero tc tp p = grind (arith, common_steps)
one_by_one-peak pbs (suc n) tc tp p =
    ap (λ x. tr.peak_token pbs x) (one_by_one-peak pbs n tc tp p) ∙ token-peak pbs n tc tp p
