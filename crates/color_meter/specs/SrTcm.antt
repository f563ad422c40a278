-- The single rate three color marker (RFC 2697). Its counts are Tc, at most CBS, and Te, at most EBS; B is a packet's length.
use Rattle.std.specs.Prelude.{ℕ, ◌+◌, ◌-◌, nat_lt, nat_le, if◌then◌else◌}
use Rattle.qos_base.specs.declared.packet.Colour.{Colour}
use Rattle.qos_base.specs.declared.packet.Colour.TheVariants.{Green, Yellow, Red}
use Rattle.color_meter.specs.Drip.{dripped}
use Rattle.color_meter.specs.Setting.{Setting}

-- a token (section 3): if Tc is less than CBS, Tc is incremented by one, else if Te is less than EBS, Te is, else neither
abbrev pub token : ℕ → ℕ → ℕ × ℕ → ℕ × ℕ
token cbs ebs (tc, te) =
    if nat_lt tc cbs then (tc + 1, te) else if nat_lt te ebs then (tc, te + 1) else (tc, te)

-- the counts after the n nanoseconds that follow a moment: tokens come at CIR (section 3)
abbrev pub dripped_at : Setting → ℕ → ℕ → ℕ × ℕ → ℕ × ℕ
dripped_at s moment n counts = let ebs = s.other_size in dripped (token s.cbs ebs) s.cir moment n counts

-- a packet in color-blind mode (section 3): green if Tc - B is not below 0, else yellow if Te - B is not below 0, else red
abbrev pub blind : ℕ → ℕ × ℕ → Colour × (ℕ × ℕ)
blind b (tc, te) =
    if nat_le b tc then (Green, (tc - b, te)) else if nat_le b te then (Yellow, (tc, te - b)) else (Red, (tc, te))

-- a packet in color-aware mode (section 3): green only if it was green before, yellow only if it was green or yellow
abbrev pub aware : Colour → ℕ → ℕ × ℕ → Colour × (ℕ × ℕ)
aware Green b (tc, te) =
    if nat_le b tc then (Green, (tc - b, te)) else if nat_le b te then (Yellow, (tc, te - b)) else (Red, (tc, te))
aware Yellow b (tc, te) = if nat_le b te then (Yellow, (tc, te - b)) else (Red, (tc, te))
aware Red b (tc, te) = (Red, (tc, te))
