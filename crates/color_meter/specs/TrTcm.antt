-- The two rate three color marker (RFC 2698). Its counts are Tc, at most CBS, and Tp, at most PBS; B is a packet's length.
use Rattle.std.specs.Prelude.{ℕ, ◌+◌, ◌-◌, nat_lt, if◌then◌else◌}
use Rattle.qos_base.specs.declared.packet.Colour.{Colour}
use Rattle.qos_base.specs.declared.packet.Colour.TheVariants.{Green, Yellow, Red}
use Rattle.color_meter.specs.Drip.{dripped}
use Rattle.color_meter.specs.Setting.{Setting}

-- a token of PIR (section 3): Tp is incremented by one up to PBS
abbrev pub peak_token : ℕ → ℕ × ℕ → ℕ × ℕ
peak_token pbs (tc, tp) = (tc, if nat_lt tp pbs then tp + 1 else tp)

-- a token of CIR (section 3): Tc is incremented by one up to CBS
abbrev pub committed_token : ℕ → ℕ × ℕ → ℕ × ℕ
committed_token cbs (tc, tp) = (if nat_lt tc cbs then tc + 1 else tc, tp)

-- the counts after the n nanoseconds that follow a moment: each rate fills its own bucket, so their order is free (section 3)
abbrev pub dripped_at : Setting → ℕ → ℕ → ℕ × ℕ → ℕ × ℕ
dripped_at s moment n counts =
    let pir = s.other in
    let pbs = s.other_size in
    dripped (committed_token s.cbs) s.cir moment n (dripped (peak_token pbs) pir moment n counts)

-- a packet in color-blind mode (section 3): red if Tp - B is below 0, else yellow if Tc - B is below 0, and Tp is decremented, else green,
-- and both are
abbrev pub blind : ℕ → ℕ × ℕ → Colour × (ℕ × ℕ)
blind b (tc, tp) =
    if nat_lt tp b then (Red, (tc, tp)) else if nat_lt tc b then (Yellow, (tc, tp - b)) else (Green, (tc - b, tp - b))

-- a packet in color-aware mode (section 3): one that was red is red, one that was yellow is not green
abbrev pub aware : Colour → ℕ → ℕ × ℕ → Colour × (ℕ × ℕ)
aware Red b (tc, tp) = (Red, (tc, tp))
aware Yellow b (tc, tp) = if nat_lt tp b then (Red, (tc, tp)) else (Yellow, (tc, tp - b))
aware Green b (tc, tp) =
    if nat_lt tp b then (Red, (tc, tp)) else if nat_lt tc b then (Yellow, (tc, tp - b)) else (Green, (tc - b, tp - b))
