-- Tokens that drip at the pace of a rate, one for each byte. The standards have one every 1/CIR of a second; a rate here brings its bytes
-- at each multiple of its period, counted from time 0.
use Rattle.std.specs.Prelude.{◌==◌, ℕ, zero, suc, ◌+◌, ◌%◌, if◌then◌else◌}
use Rattle.profile_plan.specs.declared.meter.MeterRate.{MeterRate}
use Rattle.profile_plan.specs.Meter.{periods_of}

-- so many bytes for each period, in nanoseconds
pub record Rate : Type 0 where
  pub bytes : ℕ
  pub period : ℕ

abbrev pub rate_of : MeterRate → Rate
rate_of rate = record { bytes = (periods_of rate).0; period = (periods_of rate).1 }

-- the tokens that a rate brings at a moment
abbrev pub tokens_at : Rate → ℕ → ℕ
tokens_at rate moment = if moment % rate.period == 0 then rate.bytes else 0

-- two counts after n tokens, where `token` is what one token does to them
unfoldable pub one_by_one : (ℕ × ℕ → ℕ × ℕ) → ℕ → ℕ × ℕ → ℕ × ℕ
one_by_one token zero counts = counts
one_by_one token (suc n) counts = token (one_by_one token n counts)

-- the counts after the n nanoseconds that follow a moment
unfoldable pub dripped : (ℕ × ℕ → ℕ × ℕ) → Rate → ℕ → ℕ → ℕ × ℕ → ℕ × ℕ
dripped token rate moment zero counts = counts
dripped token rate moment (suc n) counts = one_by_one token (tokens_at rate (moment + suc n)) (dripped token rate moment n counts)
