-- The whole-period numbers of a shaping at a line (DPDK Programmer's Guide, chapter Quality of Service).
use Rattle.std.specs.Prelude.{ℕ, ◌*◌, ◌/◌, map}
use Rattle.qos_base.specs.Divisor.{gcd_of}
use Rattle.profile_plan.specs.declared.shaping.Shaping.{Shaping}
use Rattle.profile_plan.specs.declared.shaping.Shaping.TheVariants as shapings
use Rattle.profile_plan.specs.declared.shaping.Whole.{Whole}

-- the whole bytes that a rate in bytes per second makes in so many milliseconds
abbrev pub bytes_in : ℕ → ℕ → ℕ
bytes_in rate ms = rate * ms / 1000

-- a rate and the line's rate, both over their greatest common divisor, are the bucket's credits and period; a class
-- and the line itself have the whole bytes of a period
abbrev pub whole_of : Shaping → ℕ → Whole
whole_of (shapings.Whole whole) line = whole
whole_of (shapings.Rate rates) line =
    record {
      tb_credits = rates.tb_rate / gcd_of rates.tb_rate line;
      tb_period = line / gcd_of rates.tb_rate line;
      tb_size = rates.tb_size;
      tc_credits = map (λ rate. bytes_in rate rates.tc_period_ms) rates.tc_rates;
      tc_period = bytes_in line rates.tc_period_ms;
    }
