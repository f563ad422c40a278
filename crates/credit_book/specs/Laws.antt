-- What follows for buckets and watermarks from how they are brought up to a moment.
use Rattle.std.specs.Prelude.{◌≡◌, ℕ, ◌+◌, ◌*◌, ◌≤◌}
use Rattle.credit_book.specs.Bucket.{TokenBucket, IsTokenBucket, bucket_at, multiples, after_periods}
use Rattle.credit_book.specs.Watermark.{OversubscriptionWatermark, stepped}

-- bringing a bucket to a moment and then to a later one is bringing it to the later one
abbrev pub BringsOnce : Type 0
BringsOnce = (b : TokenBucket) (s t : ℕ) → 1 ≤ b.period → b.time ≤ s → s ≤ t → bucket_at t (bucket_at s b) ≡ bucket_at t b

-- a bucket's credits never pass its size
abbrev pub CreditsWithinSize : Type 0
CreditsWithinSize = (b : TokenBucket) (t : ℕ) → (bucket_at t b).credits ≤ b.size

-- from one moment to a later one a bucket gains at most its credits for each multiple of its period between them
abbrev pub GainsPerPeriod : Type 0
GainsPerPeriod =
    (b : TokenBucket) (s t : ℕ) → IsTokenBucket b → b.time ≤ s → s ≤ t → (bucket_at t b).credits ≤ (bucket_at s b).credits + multiples b.period s t * b.per_period

-- earning all periods at once and one period at a time give the same credits
abbrev pub OnceIsStepwise : Type 0
OnceIsStepwise =
    (b : TokenBucket) (t : ℕ) → IsTokenBucket b → b.time ≤ t → (bucket_at t b).credits ≡ after_periods b.size b.per_period (multiples b.period b.time t) b.credits

-- some periods and then some more are all of them
abbrev pub PeriodsAddUp : Type 0
PeriodsAddUp =
    (size per_period first then credits : ℕ) → after_periods size per_period then (after_periods size per_period first credits) ≡ after_periods size per_period (first + then) credits

-- the multiples up to a moment and those from there on are all of them
abbrev pub MultiplesAddUp : Type 0
MultiplesAddUp = (period a b c : ℕ) → a ≤ b → b ≤ c → multiples period a b + multiples period b c ≡ multiples period a c

-- a step leaves the watermark within its bounds
abbrev pub StaysWithinBounds : Type 0
StaysWithinBounds =
    (w : OversubscriptionWatermark) (used_above used_be : ℕ) → w.mtu_cost ≤ w.value → w.value ≤ w.max →
    (w.mtu_cost ≤ (stepped used_above used_be w).value) × ((stepped used_above used_be w).value ≤ w.max)
