-- What follows for meters from how their tokens drip and from what they reply.
use Rattle.std.specs.Prelude.{◌≡◌, ℕ, ◌^◌, ◌≤◌, true, false}
use Rattle.qos_base.specs.declared.packet.Colour.{Colour}
use Rattle.qos_base.specs.declared.packet.Colour.TheVariants.{Green, Yellow, Red}
use Rattle.profile_plan.specs.declared.meter.MeterKind.{MeterKind}
use Rattle.color_meter.specs.Closed.{counts_by}
use Rattle.color_meter.specs.Meter.{MeterState, IsMeterState, drip, reply_by, checked}

-- all tokens in one sum are the tokens one by one
abbrev pub SumIsDripping : Type 0
SumIsDripping =
    (m : MeterState) (at : ℕ) → IsMeterState m → m.high ≤ at →
    (drip at m).counts ≡ counts_by m.setting.kind m.setting m.high at m.counts

-- a moment that isn't above the meter's time earns nothing
abbrev pub EarlierEarnsNothing : Type 0
EarlierEarnsNothing = (m : MeterState) (at : ℕ) → at ≤ m.high → drip at m ≡ m

-- a meter's time is the greatest moment
abbrev pub TimeRises : Type 0
TimeRises = (m : MeterState) (at : ℕ) → (m.high ≤ (drip at m).high) × (at ≤ (drip at m).high)

abbrev pub precedence : Colour → ℕ
precedence Green = 0
precedence Yellow = 1
precedence Red = 2

-- a meter that is aware of a packet's colour gives it no better one
abbrev pub NoColourUpgraded : Type 0
NoColourUpgraded =
    (kind : MeterKind) (pre : Colour) (len : ℕ) (counts : ℕ × ℕ) → precedence pre ≤ precedence (reply_by kind true pre len counts).0

-- a blind meter takes each packet for a green one
abbrev pub BlindIsGreen : Type 0
BlindIsGreen =
    (kind : MeterKind) (pre : Colour) (len : ℕ) (counts : ℕ × ℕ) → reply_by kind false pre len counts ≡ reply_by kind true Green len counts

-- a meter's setting stays
abbrev pub SettingKept : Type 0
SettingKept = (m : MeterState) (at len : ℕ) (pre : Colour) → (checked at len pre m).1.setting ≡ m.setting

-- a meter stays within the limits
abbrev pub LimitsKept : Type 0
LimitsKept =
    (m : MeterState) (at len : ℕ) (pre : Colour) → IsMeterState m → at ≤ 2 ^ 50 → IsMeterState (checked at len pre m).1
