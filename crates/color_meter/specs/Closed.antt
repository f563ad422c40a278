-- The counts of a meter in one sum for each bucket.
use Rattle.std.specs.Prelude.{ℕ, ◌+◌, ◌-◌, ◌*◌, ◌/◌, min}
use Rattle.profile_plan.specs.declared.meter.MeterKind.{MeterKind}
use Rattle.profile_plan.specs.declared.meter.MeterKind.TheVariants.{SrTcm, TrTcm, Rfc4115}
use Rattle.color_meter.specs.Drip.{Rate}
use Rattle.color_meter.specs.Setting.{Setting}

-- the tokens of a rate in (a, b]: its bytes for each multiple of its period there
abbrev pub tokens_between : Rate → ℕ → ℕ → ℕ
tokens_between rate a b = (b / rate.period - a / rate.period) * rate.bytes

-- n tokens fill C, and what C has no room for goes to E
abbrev pub overflowing : ℕ → ℕ → ℕ → ℕ × ℕ → ℕ × ℕ
overflowing cbs ebs n (tc, te) = (min cbs (tc + n), min ebs (te + (tc + n - cbs)))

-- n tokens fill C, and m the other bucket
abbrev pub apart : ℕ → ℕ → ℕ × ℕ → ℕ × ℕ → ℕ × ℕ
apart cbs size (n, m) (tc, t) = (min cbs (tc + n), min size (t + m))

-- the counts after the tokens of both rates; the single rate marker has one
abbrev pub filled_by : MeterKind → ℕ × ℕ → ℕ × ℕ → ℕ × ℕ → ℕ × ℕ
filled_by SrTcm (cbs, ebs) (n, m) counts = overflowing cbs ebs n counts
filled_by TrTcm (cbs, pbs) tokens counts = apart cbs pbs tokens counts
filled_by Rfc4115 (cbs, ebs) tokens counts = apart cbs ebs tokens counts

-- the counts at moment b of a meter that had its counts at moment a
abbrev pub counts_by : MeterKind → Setting → ℕ → ℕ → ℕ × ℕ → ℕ × ℕ
counts_by kind s a b counts = filled_by kind (s.cbs, s.other_size) (tokens_between s.cir a b, tokens_between s.other a b) counts
