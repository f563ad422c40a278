-- A token bucket: how it starts, what the passing of periods adds to it, and what is taken from it.
use Rattle.std.specs.Prelude.{◌≡◌, ℕ, zero, suc, ◌+◌, ◌-◌, ◌*◌, ◌/◌, ◌^◌, ◌≤◌, min}

-- a token bucket: size and credits are in bytes, times in byte times of the line; `time` is the last whole period counted
pub record TokenBucket : Type 0 where
  pub size : ℕ
  pub per_period : ℕ
  pub period : ℕ
  pub time : ℕ
  pub credits : ℕ

-- a bucket within the limits: never above its size, and its time a multiple of its period
pub record IsTokenBucket (b : TokenBucket) : Type 0 where
  pub size_at_most : b.size ≤ 2 ^ 40
  pub per_period_at_most : b.per_period ≤ 2 ^ 40
  pub period_at_least : 1 ≤ b.period
  pub period_at_most : b.period ≤ 2 ^ 40
  pub time_at_most : b.time ≤ 2 ^ 63
  pub time_is_multiple : b.time ≡ b.period * (b.time / b.period)
  pub credits_within : b.credits ≤ b.size

-- a new bucket: half full, at time 0
abbrev pub new_bucket : ℕ → ℕ → ℕ → TokenBucket
new_bucket size per_period period = record { size = size; per_period = per_period; period = period; time = 0; credits = size / 2 }

-- a bucket brought up to a moment: the credits of the whole periods since its time, never above the size; its time moves by those periods
abbrev pub bucket_at : ℕ → TokenBucket → TokenBucket
bucket_at moment b =
    let periods = (moment - b.time) / b.period in
    record b { time = b.time + periods * b.period; credits = min b.size (b.credits + periods * b.per_period) }

-- how many multiples of the period lie above a and up to b
abbrev pub multiples : ℕ → ℕ → ℕ → ℕ
multiples period a b = b / period - a / period

-- the credits after so many periods, one period at a time, never above the size
unfoldable pub after_periods : ℕ → ℕ → ℕ → ℕ → ℕ
after_periods size per_period zero credits = credits
after_periods size per_period (suc periods) credits = min size (after_periods size per_period periods credits + per_period)

-- a bucket that has paid a cost
abbrev pub paid : ℕ → TokenBucket → TokenBucket
paid cost b = record b { credits = b.credits - cost }
