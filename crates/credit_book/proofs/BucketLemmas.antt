-- What bringing a bucket up to a moment does to its numbers.
use Rattle.std.proofs.Common.{◌≡◌, ◌<◌, ◌≤◌, ℕ, ◌+◌, ◌*◌, ◌/◌, ◌-◌, ◌^◌, min, sym, ap, ◌∙◌, arith}
use Rattle.std.proofs.Math.Nat.{div-eq_of_lt, div-eq_of_eq-mul_right, mul-div-le}
use Rattle.credit_book.specs.Bucket.{TokenBucket, IsTokenBucket, bucket_at, after_periods, multiples}
use Rattle.credit_book.proofs.Periods.{periods-multiples, periods-time, after_periods-min}

-- the credits are those of one period at a time
pub bucket_at-credits : (b : TokenBucket) (t : ℕ) → IsTokenBucket b → b.time ≤ t → (bucket_at t b).credits ≡ after_periods b.size b.per_period (multiples b.period b.time t) b.credits
bucket_at-credits b t ok later =
    ap (λ n. min b.size (b.credits + n * b.per_period)) (periods-multiples b.period b.time t ok.period_at_least ok.time_is_multiple later)
    ∙ sym (after_periods-min b.size b.per_period (multiples b.period b.time t) b.credits ok.credits_within)

-- the time is the last multiple of the period
pub bucket_at-time : (b : TokenBucket) (t : ℕ) → IsTokenBucket b → b.time ≤ t → (bucket_at t b).time ≡ b.period * (t / b.period)
bucket_at-time b t ok later = periods-time b.period b.time t ok.period_at_least ok.time_is_multiple later

-- a bucket with the time and the credits that it has
with_same : (b : TokenBucket) (t c : ℕ) → b.time ≡ t → b.credits ≡ c → b ≡ record b { time = t; credits = c }
with_same b t c times credits =
    ap (λ x. let y : TokenBucket = record b { time = x } in y) times ∙ ap (λ x. let y : TokenBucket = record b { time = t; credits = x } in y) credits

-- less than one period changes nothing
pub bucket_at-same : (b : TokenBucket) (t : ℕ) → IsTokenBucket b → t - b.time < b.period → b ≡ bucket_at t b
bucket_at-same b t ok early =
    let none = div-eq_of_lt early in
    let time : b.time ≡ b.time + (t - b.time) / b.period * b.period = rw none (grind arith) in
    let credits : b.credits ≡ min b.size (b.credits + (t - b.time) / b.period * b.per_period) =
    rw none (let within = ok.credits_within in grind arith) in
    with_same b _ _ time credits

-- the limits are kept
pub bucket_at-ok : (b : TokenBucket) (t : ℕ) → IsTokenBucket b → b.time ≤ t → t ≤ 2 ^ 63 → IsTokenBucket (bucket_at t b)
bucket_at-ok b t ok later in_range =
    let time = bucket_at-time b t ok later in
    let positive : 0 < b.period = omega arith in
    record {
      size_at_most = ok.size_at_most;
      per_period_at_most = ok.per_period_at_most;
      period_at_least = ok.period_at_least;
      period_at_most = ok.period_at_most;
      time_at_most = omega (arith, time, mul-div-le t b.period);
      time_is_multiple = time ∙ ap (λ n. b.period * n) (sym (div-eq_of_eq-mul_right positive time));
      credits_within = omega arith;
    }
