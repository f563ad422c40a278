-- A meter stays within its limits.
use Rattle.std.proofs.Common.{◌≤◌, ◌<◌, ℕ, ◌^◌, Bool, true, false, inl, inr, subst, sym, arith}
use Rattle.std.proofs.lemmas.Bool.{cases_lt}
use Rattle.std.proofs.lemmas.Grind.{common_steps}
use Rattle.qos_base.specs.declared.packet.Colour.{Colour}
use Rattle.qos_base.specs.declared.packet.Colour.TheVariants.{Green, Yellow, Red}
use Rattle.profile_plan.specs.declared.meter.MeterKind.{MeterKind}
use Rattle.profile_plan.specs.declared.meter.MeterKind.TheVariants.{SrTcm, TrTcm, Rfc4115}
use Rattle.color_meter.specs.Closed.{tokens_between, filled_by}
use Rattle.color_meter.specs.Meter.{MeterState, IsMeterState, later, drip, reply_by, reply, checked}
use Rattle.color_meter.proofs.Sums.{dripped_by-sum, drip-earlier, drip-later}

-- no bucket overflows
pub filled_by-within : (kind : MeterKind) (sizes tokens counts : ℕ × ℕ) →
    ((filled_by kind sizes tokens counts).0 ≤ sizes.0) × ((filled_by kind sizes tokens counts).1 ≤ sizes.1)
filled_by-within SrTcm sizes tokens counts = (omega arith, omega arith)
filled_by-within TrTcm sizes tokens counts = (omega arith, omega arith)
filled_by-within Rfc4115 sizes tokens counts = (omega arith, omega arith)

-- a reply only takes from the buckets
pub reply_by-within : (kind : MeterKind) (aware : Bool) (pre : Colour) (len : ℕ) (counts : ℕ × ℕ) →
    ((reply_by kind aware pre len counts).1.0 ≤ counts.0) × ((reply_by kind aware pre len counts).1.1 ≤ counts.1)
reply_by-within SrTcm true Green len counts = (grind (arith, common_steps), grind (arith, common_steps))
reply_by-within SrTcm true Yellow len counts = (grind (arith, common_steps), grind (arith, common_steps))
reply_by-within SrTcm true Red len counts = (grind (arith, common_steps), grind (arith, common_steps))
reply_by-within SrTcm false pre len counts = (grind (arith, common_steps), grind (arith, common_steps))
reply_by-within TrTcm true Green len counts = (grind (arith, common_steps), grind (arith, common_steps))
reply_by-within TrTcm true Yellow len counts = (grind (arith, common_steps), grind (arith, common_steps))
reply_by-within TrTcm true Red len counts = (grind (arith, common_steps), grind (arith, common_steps))
reply_by-within TrTcm false pre len counts = (grind (arith, common_steps), grind (arith, common_steps))
reply_by-within Rfc4115 true Green len counts = (grind (arith, common_steps), grind (arith, common_steps))
reply_by-within Rfc4115 true Yellow len counts = (grind (arith, common_steps), grind (arith, common_steps))
reply_by-within Rfc4115 true Red len counts = (grind (arith, common_steps), grind (arith, common_steps))
reply_by-within Rfc4115 false pre len counts = (grind (arith, common_steps), grind (arith, common_steps))

-- a reply leaves the limits as they are
reply-limits : (m : MeterState) (pre : Colour) (len : ℕ) → IsMeterState m → IsMeterState (reply pre len m).1
reply-limits m pre len ok =
    let within = reply_by-within m.setting.kind m.setting.aware pre len m.counts in
    record {
      cir = ok.cir;
      other = ok.other;
      cbs = ok.cbs;
      other_size = ok.other_size;
      committed = omega (arith, within.0);
      rest = omega (arith, within.1);
      high = ok.high;
    }

-- and so does a moment
later-limits : (m : MeterState) (at : ℕ) → IsMeterState m → m.high < at → at ≤ 2 ^ 50 → IsMeterState (later at m)
later-limits m at ok above limit =
    let s = m.setting in
    let sum = dripped_by-sum s.kind m at ok (omega arith) in
    let tokens : ℕ × ℕ = (tokens_between s.cir m.high at, tokens_between s.other m.high at) in
    let within = filled_by-within s.kind (s.cbs, s.other_size) tokens m.counts in
    record {
      cir = ok.cir;
      other = ok.other;
      cbs = ok.cbs;
      other_size = ok.other_size;
      committed = rw sum within.0;
      rest = rw sum within.1;
      high = limit;
    }

drip-limits : (m : MeterState) (at : ℕ) → IsMeterState m → at ≤ 2 ^ 50 → IsMeterState (drip at m)
drip-limits m at ok limit =
    elim (cases_lt m.high at) [
      | inl above ↦ subst IsMeterState (sym (drip-later m at above)) (later-limits m at ok above limit)
      | inr early ↦ subst IsMeterState (sym (drip-earlier m at early)) ok
    ]

pub checked-limits : (m : MeterState) (at len : ℕ) (pre : Colour) → IsMeterState m → at ≤ 2 ^ 50 →
    IsMeterState (checked at len pre m).1
checked-limits m at len pre ok limit = reply-limits (drip at m) pre len (drip-limits m at ok limit)
