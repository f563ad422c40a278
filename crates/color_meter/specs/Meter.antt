-- A meter: the tokens that it has, how they grow with time and what it replies to a packet.
use Rattle.std.specs.Prelude.{ℕ, ◌-◌, ◌^◌, ◌≤◌, nat_le, Bool, if◌then◌else◌}
use Rattle.qos_base.specs.declared.packet.Colour.{Colour}
use Rattle.profile_plan.specs.declared.meter.MeterKind.{MeterKind}
use Rattle.profile_plan.specs.declared.meter.MeterKind.TheVariants as kinds
use Rattle.color_meter.specs.Drip.{Rate}
use Rattle.color_meter.specs.Setting.{Setting}
use Rattle.color_meter.specs.SrTcm as sr
use Rattle.color_meter.specs.TrTcm as tr
use Rattle.color_meter.specs.Rfc4115 as rfc4115

-- the counts are Tc, and Te or Tp; `high` is the greatest moment seen, in nanoseconds
pub record MeterState : Type 0 where
  pub setting : Setting
  pub counts : ℕ × ℕ
  pub high : ℕ

-- a meter at time 0: both buckets are full (section 3 of each RFC)
abbrev pub full : Setting → MeterState
full setting = record { setting = setting; counts = (setting.cbs, setting.other_size); high = 0 }

pub record IsRate (r : Rate) : Type 0 where
  pub bytes : r.bytes ≤ 2 ^ 40
  pub some_period : 1 ≤ r.period
  pub period : r.period ≤ 2 ^ 40

-- a meter within the limits
pub record IsMeterState (m : MeterState) : Type 0 where
  pub cir : IsRate m.setting.cir
  pub other : IsRate m.setting.other
  pub cbs : m.setting.cbs ≤ 2 ^ 40
  pub other_size : m.setting.other_size ≤ 2 ^ 40
  pub committed : m.counts.0 ≤ m.setting.cbs
  pub rest : m.counts.1 ≤ m.setting.other_size
  pub high : m.high ≤ 2 ^ 50

-- the counts after the n nanoseconds that follow a moment
abbrev pub dripped_by : MeterKind → Setting → ℕ → ℕ → ℕ × ℕ → ℕ × ℕ
dripped_by kinds.SrTcm s moment n counts = sr.dripped_at s moment n counts
dripped_by kinds.TrTcm s moment n counts = tr.dripped_at s moment n counts
dripped_by kinds.Rfc4115 s moment n counts = rfc4115.dripped_at s moment n counts

-- a meter brought up to a later moment
abbrev pub later : ℕ → MeterState → MeterState
later at m = record m { counts = dripped_by m.setting.kind m.setting m.high (at - m.high) m.counts; high = at }

-- a meter brought up to a moment; one that isn't above its time earns nothing
abbrev pub drip : ℕ → MeterState → MeterState
drip at m = if nat_le at m.high then m else later at m

-- the colour of a packet of so many bytes that had a colour before, and the counts that it leaves
abbrev pub reply_by : MeterKind → Bool → Colour → ℕ → ℕ × ℕ → Colour × (ℕ × ℕ)
reply_by kinds.SrTcm aware pre len counts = if aware then sr.aware pre len counts else sr.blind len counts
reply_by kinds.TrTcm aware pre len counts = if aware then tr.aware pre len counts else tr.blind len counts
reply_by kinds.Rfc4115 aware pre len counts = if aware then rfc4115.aware pre len counts else rfc4115.blind len counts

abbrev pub reply : Colour → ℕ → MeterState → Colour × MeterState
reply pre len m =
    let replied = reply_by m.setting.kind m.setting.aware pre len m.counts in (replied.0, record m { counts = replied.1 })

-- the colour of a packet at a moment, and the meter that it leaves
abbrev pub checked : ℕ → ℕ → Colour → MeterState → Colour × MeterState
checked at len pre m = reply pre len (drip at m)
