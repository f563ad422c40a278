-- The laws of bringing a bucket from moment to moment.
use Rattle.std.proofs.Common.{◌≡◌, ◌<◌, ◌≤◌, ℕ, zero, suc, ◌+◌, ◌*◌, ◌/◌, ◌-◌, min, sym, ap, ◌∙◌, arith}
use Rattle.std.proofs.Math.Nat.{mul-add-div_right, div-mul-le_self, div-zero, add-zero, add-suc}
use Rattle.std.proofs.lemmas.Nat.{le-div}
use Rattle.credit_book.specs.Bucket.{TokenBucket, IsTokenBucket, bucket_at, multiples, after_periods}
use Rattle.credit_book.proofs.Periods.{periods-multiples}

-- the periods up to a moment and those from the time then counted are all of them
periods-parts : (a s t p : ℕ) → 1 ≤ p → a ≤ s → s ≤ t → (t - a) / p ≡ (s - a) / p + (t - (a + (s - a) / p * p)) / p
periods-parts a s t p some first second =
    let positive : 0 < p = omega arith in
    let counted = div-mul-le_self (s - a) p in
    let parts : t - a ≡ (s - a) / p * p + (t - (a + (s - a) / p * p)) = omega (arith, counted) in
    ap (λ x. x / p) parts ∙ mul-add-div_right positive ((s - a) / p) (t - (a + (s - a) / p * p))

-- credits earned in two parts
min-parts : (size per c n m k : ℕ) → k ≡ n + m → min size (min size (c + n * per) + m * per) ≡ min size (c + k * per)
min-parts size per c n m k sum =
    let product : k * per ≡ n * per + m * per = ap (λ x. x * per) sum ∙ grind arith in omega arith

-- time moved in two parts
time-parts : (a p n m k : ℕ) → k ≡ n + m → a + n * p + m * p ≡ a + k * p
time-parts a p n m k sum =
    let product : k * p ≡ n * p + m * p = ap (λ x. x * p) sum ∙ grind arith in omega arith

pub bucket_at-bucket_at : (b : TokenBucket) (s t : ℕ) → 1 ≤ b.period → b.time ≤ s → s ≤ t → bucket_at t (bucket_at s b) ≡ bucket_at t b
bucket_at-bucket_at b s t some first second =
    let n = (s - b.time) / b.period in
    let m = (t - (b.time + n * b.period)) / b.period in
    let k = (t - b.time) / b.period in
    let sum : k ≡ n + m = periods-parts b.time s t b.period some first second in
    ap (λ x. let y : TokenBucket = record b { time = x; credits = min b.size (min b.size (b.credits + n * b.per_period) + m * b.per_period) } in y) (time-parts b.time b.period n m k sum)
    ∙ ap (λ x. let y : TokenBucket = record b { time = b.time + k * b.period; credits = x } in y) (min-parts b.size b.per_period b.credits n m k sum)

-- a later moment has no smaller quotient
div-mono : (p a b : ℕ) → a ≤ b → a / p ≤ b / p
div-mono zero a b ordered = omega (arith, div-zero a, div-zero b)
div-mono (suc q) a b ordered = le-div (a / suc q) b (suc q) (omega arith) (omega (arith, div-mul-le_self a (suc q)))

pub multiples-add : (p a b c : ℕ) → a ≤ b → b ≤ c → multiples p a b + multiples p b c ≡ multiples p a c
multiples-add p a b c first second =
    omega (arith, div-mono p a b first, div-mono p b c second)

-- what is gained by more periods
min-gain : (size per c n m k : ℕ) → k ≡ n + m → min size (c + k * per) ≤ min size (c + n * per) + m * per
min-gain size per c n m k sum =
    let product : k * per ≡ n * per + m * per = ap (λ x. x * per) sum ∙ grind arith in omega arith

pub bucket_at-gain : (b : TokenBucket) (s t : ℕ) → IsTokenBucket b → b.time ≤ s → s ≤ t → (bucket_at t b).credits ≤ (bucket_at s b).credits + multiples b.period s t * b.per_period
bucket_at-gain b s t ok first second =
    let p = b.period in
    let to_s = periods-multiples p b.time s ok.period_at_least ok.time_is_multiple first in
    let to_t = periods-multiples p b.time t ok.period_at_least ok.time_is_multiple (omega arith) in
    let sum = multiples-add p b.time s t first second in
    min-gain b.size b.per_period b.credits ((s - b.time) / p) (multiples p s t) ((t - b.time) / p) (omega (arith, to_s, to_t, sum))

pub after_periods-add : (size per_period first then credits : ℕ) → after_periods size per_period then (after_periods size per_period first credits) ≡ after_periods size per_period (first + then) credits
unfolding after_periods
after_periods-add size per first zero c =
    ap (λ k. after_periods size per k c) (sym (add-zero first))
after_periods-add size per first (suc n) c =
    ap (λ x. min size (x + per)) (after_periods-add size per first n c) ∙ ap (λ k. after_periods size per k c) (sym (add-suc first n))
