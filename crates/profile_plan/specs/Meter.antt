-- The rate of a meter's bucket.
use Rattle.std.specs.Prelude.{ℕ, ◌*◌, ◌/◌, ◌≤◌}
use Rattle.qos_base.specs.Divisor.{gcd_of}
use Rattle.profile_plan.specs.declared.meter.MeterRate.{MeterRate}
use Rattle.profile_plan.specs.declared.meter.MeterRate.TheVariants.{Periods, PerSecond}

-- the bytes, and the nanoseconds in which the bucket earns them
abbrev pub periods_of : MeterRate → ℕ × ℕ
periods_of (Periods bytes period) = (bytes, period)
periods_of (PerSecond rate) = (rate / gcd_of rate 1000000000, 1000000000 / gcd_of rate 1000000000)

-- the first rate is at most the second, as fractions of bytes over time
abbrev pub IsAtMost : ℕ × ℕ → ℕ × ℕ → Type 0
IsAtMost a b = a.0 * b.1 ≤ b.0 * a.1
