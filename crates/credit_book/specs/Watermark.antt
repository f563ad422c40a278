-- The watermark of a subport with oversubscription: how it falls, rises and stays within its bounds.
use Rattle.std.specs.Prelude.{ℕ, ◌+◌, ◌-◌, ◌/◌, ◌^◌, ◌≤◌, min, max, Bool, nat_lt, if◌then◌else◌}

-- the watermark and what it is moved by, in bytes: its least is the greatest packet's cost
pub record OversubscriptionWatermark : Type 0 where
  pub mtu_cost : ℕ
  pub max : ℕ
  pub be_credits : ℕ
  pub value : ℕ

-- a watermark within its bounds and the limits
pub record IsWatermark (w : OversubscriptionWatermark) : Type 0 where
  pub at_least : w.mtu_cost ≤ w.value
  pub at_most : w.value ≤ w.max
  pub max_at_most : w.max ≤ 2 ^ 48
  pub be_credits_at_most : w.be_credits ≤ 2 ^ 40

-- a new watermark stands at its greatest
abbrev pub new_watermark : ℕ → ℕ → ℕ → OversubscriptionWatermark
new_watermark mtu_cost max be_credits = record { mtu_cost = mtu_cost; max = max; be_credits = be_credits; value = max }

-- best effort has less than one greatest packet left of what the classes above it leave: in signed numbers
-- used_be + mtu_cost > be_credits - used_above, here with both sides raised by used_above, so that nothing is below 0
abbrev pub is_short : ℕ → ℕ → OversubscriptionWatermark → Bool
is_short used_above used_be w = nat_lt w.be_credits (used_be + w.mtu_cost + used_above)

-- lower by one part in 128, but not below the least
abbrev pub lowered : OversubscriptionWatermark → ℕ
lowered w = max w.mtu_cost (w.value - w.value / 128)

-- higher by one part in 128 and one byte, but not above the greatest
abbrev pub raised : OversubscriptionWatermark → ℕ
raised w = min w.max (w.value + w.value / 128 + 1)

-- the watermark after one step: lowered where best effort is short, and raised where it is not
abbrev pub stepped : ℕ → ℕ → OversubscriptionWatermark → OversubscriptionWatermark
stepped used_above used_be w = record w { value = if is_short used_above used_be w then lowered w else raised w }
