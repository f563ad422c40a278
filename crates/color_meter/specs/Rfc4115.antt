-- The two rate three color marker of RFC 4115. Its counts are Tc, at most CBS, and Te, at most EBS; B is a packet's length. The RFC asks
-- for more tokens than B; here as many suffice, as in the other two.
use Rattle.std.specs.Prelude.{ℕ, ◌+◌, ◌-◌, nat_lt, nat_le, if◌then◌else◌}
use Rattle.qos_base.specs.declared.packet.Colour.{Colour}
use Rattle.qos_base.specs.declared.packet.Colour.TheVariants.{Green, Yellow, Red}
use Rattle.color_meter.specs.Drip.{dripped}
use Rattle.color_meter.specs.Setting.{Setting}

-- a token of CIR (section 3): Tc is incremented by one up to CBS
abbrev pub committed_token : ℕ → ℕ × ℕ → ℕ × ℕ
committed_token cbs (tc, te) = (if nat_lt tc cbs then tc + 1 else tc, te)

-- a token of EIR (section 3): Te is incremented by one up to EBS
abbrev pub excess_token : ℕ → ℕ × ℕ → ℕ × ℕ
excess_token ebs (tc, te) = (tc, if nat_lt te ebs then te + 1 else te)

-- the counts after the n nanoseconds that follow a moment: each rate fills its own bucket, so their order is free (section 3)
abbrev pub dripped_at : Setting → ℕ → ℕ → ℕ × ℕ → ℕ × ℕ
dripped_at s moment n counts =
    let eir = s.other in
    let ebs = s.other_size in
    dripped (committed_token s.cbs) s.cir moment n (dripped (excess_token ebs) eir moment n counts)

-- a packet in color-aware mode (section 3): a green one is green where C has B, and otherwise as a yellow one, which is yellow where E has
abbrev pub aware : Colour → ℕ → ℕ × ℕ → Colour × (ℕ × ℕ)
aware Green b (tc, te) =
    if nat_le b tc then (Green, (tc - b, te)) else if nat_le b te then (Yellow, (tc, te - b)) else (Red, (tc, te))
aware Yellow b (tc, te) = if nat_le b te then (Yellow, (tc, te - b)) else (Red, (tc, te))
aware Red b (tc, te) = (Red, (tc, te))

-- in color-blind mode all packets are assumed to be green (section 3)
abbrev pub blind : ℕ → ℕ × ℕ → Colour × (ℕ × ℕ)
blind b counts = aware Green b counts
