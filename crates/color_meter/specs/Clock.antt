-- The periods of a rate that are counted.
use Rattle.std.specs.Prelude.{◌==◌, ℕ, ◌+◌, ◌-◌, ◌*◌, ◌/◌, if◌then◌else◌}
use Rattle.color_meter.specs.declared.clock.Clock.{Clock}
use Rattle.color_meter.specs.Drip.{Rate}

abbrev pub rate_in : Clock → Rate
rate_in c = record { bytes = c.bytes; period = c.period }

-- the end of the last period at a moment; a rate of no bytes has none
abbrev pub whole_time : Rate → ℕ → ℕ
whole_time rate moment = if rate.bytes == 0 then 0 else rate.period * (moment / rate.period)

-- a clock that has counted the whole periods up to a moment since time 0
abbrev pub clock_of : Rate → ℕ → Clock
clock_of rate moment = record { bytes = rate.bytes; period = rate.period; time = whole_time rate moment }

-- a clock that has then counted those up to a moment
abbrev pub ticked : ℕ → Clock → Clock
ticked at c = record c { time = if c.bytes == 0 then c.time else c.time + (at - c.time) / c.period * c.period }
