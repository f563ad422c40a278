-- The limits of the parts of a profile, each on its own.
use Rattle.std.specs.Prelude.{◌≡◌, ◌==◌, ℕ, ◌+◌, ◌*◌, ◌-◌, ◌%◌, ◌^◌, ◌<◌, ◌≤◌, nat_le, Bool, true, ◌&&◌, ◌||◌, length, All}
use Rattle.std.specs.List.{list_all}
use Rattle.code_table.specs.Entry.{IsValid}
use Rattle.profile_plan.specs.Meter.{periods_of, IsAtMost}
use Rattle.profile_plan.specs.declared.limits.TheConstants.{MAX_SLOTS, MAX_SLOT_BYTES, MAX_POOL_BYTES}
use Rattle.profile_plan.specs.declared.port.PoolPlan.{PoolPlan}
use Rattle.profile_plan.specs.declared.port.Span.{Span}
use Rattle.profile_plan.specs.declared.port.Span.TheVariants.{Bytes, Ms}
use Rattle.profile_plan.specs.declared.shaping.Shaping.{Shaping}
use Rattle.profile_plan.specs.declared.shaping.Shaping.TheVariants as shapings
use Rattle.profile_plan.specs.declared.shaping.Whole.{Whole}
use Rattle.profile_plan.specs.declared.shaping.Rates.{Rates}
use Rattle.profile_plan.specs.declared.shaping.PipeKind.{PipeKind}
use Rattle.profile_plan.specs.declared.meter.MeterKind.{MeterKind}
use Rattle.profile_plan.specs.declared.meter.MeterKind.TheVariants.{SrTcm, TrTcm, Rfc4115}
use Rattle.profile_plan.specs.declared.meter.MeterRate.{MeterRate}
use Rattle.profile_plan.specs.declared.meter.MeterRate.TheVariants.{Periods, PerSecond}
use Rattle.profile_plan.specs.declared.meter.MeterPlan.{MeterPlan}
use Rattle.profile_plan.specs.declared.rule.VlanTest.{VlanTest}
use Rattle.profile_plan.specs.declared.rule.VlanTest.TheVariants.{Any, Untagged, Id}
use Rattle.profile_plan.specs.declared.rule.Prefix.{Prefix}
use Rattle.profile_plan.specs.declared.rule.CodeChoice.{CodeChoice}
use Rattle.profile_plan.specs.declared.rule.CodeChoice.TheVariants.{Dscp, Fixed}

-- a number from the least to the greatest, both included
abbrev pub Within : ℕ → ℕ → ℕ → Type 0
Within least most n = (least ≤ n) × (n ≤ most)

-- the pool: its parts, and all its slots together
pub record IsPool (p : PoolPlan) : Type 0 where
  pub slots : Within 1 MAX_SLOTS p.slots
  pub slot_bytes : Within 64 MAX_SLOT_BYTES p.slot_bytes
  pub ring : Within 1 65536 p.ring
  pub product : p.slots * p.slot_bytes ≤ MAX_POOL_BYTES

-- a drain: byte times, or milliseconds
abbrev pub IsSpan : Span → Type 0
IsSpan (Bytes n) = n ≤ 2 ^ 40
IsSpan (Ms n) = n ≤ 100000

-- whole-period numbers of thirteen classes
pub record IsWhole (w : Whole) : Type 0 where
  pub tb_credits : Within 1 (2 ^ 40) w.tb_credits
  pub tb_period : Within 1 (2 ^ 40) w.tb_period
  pub tb_size : Within 1 (2 ^ 40) w.tb_size
  pub tc_credits : All (λ n. n ≤ 2 ^ 40) w.tc_credits
  pub tc_period : Within 1 (2 ^ 40) w.tc_period

-- rates of thirteen classes
pub record IsRates (r : Rates) : Type 0 where
  pub tb_rate : Within 1 12500000000 r.tb_rate
  pub tb_size : Within 1 (2 ^ 40) r.tb_size
  pub tc_rates : All (λ n. n ≤ 12500000000) r.tc_rates
  pub tc_period_ms : Within 1 10000 r.tc_period_ms

abbrev pub IsShaping : Shaping → Type 0
IsShaping (shapings.Whole w) = IsWhole w
IsShaping (shapings.Rate r) = IsRates r

-- a pipe profile
pub record IsPipeKind (k : PipeKind) : Type 0 where
  pub number : k.number ≤ 255
  pub shaping : IsShaping k.shaping
  pub weights : All (λ n. 1 ≤ n) k.weights
  pub ov_weight : 1 ≤ k.ov_weight

abbrev pub IsMeterRate : MeterRate → Type 0
IsMeterRate (Periods bytes period) = (bytes ≤ 2 ^ 40) × Within 1 (2 ^ 40) period
IsMeterRate (PerSecond rate) = rate ≤ 12500000000

-- what the meter's standard asks of its sizes and rates together (RFC 2697 section 2, RFC 2698 section 2)
abbrev pub IsLawful : MeterKind → MeterPlan → Type 0
IsLawful SrTcm m = (0 < m.cbs + m.other_size) × (m.other ≡ Periods 0 1)
IsLawful TrTcm m = (0 < m.cbs) × (0 < m.other_size) × IsAtMost (periods_of m.cir) (periods_of m.other)
IsLawful Rfc4115 m = Unit {0}

-- the characters of a name: a to z, 0 to 9 and `_`
abbrev pub is_name_byte : ℕ → Bool
is_name_byte b = (nat_le 97 b && nat_le b 122) || (nat_le 48 b && nat_le b 57) || b == 95

-- a meter
pub record IsMeter (m : MeterPlan) : Type 0 where
  pub name : Within 1 32 (length m.name)
  pub letters : list_all is_name_byte m.name ≡ true
  pub cir : IsMeterRate m.cir
  pub other : IsMeterRate m.other
  pub cbs : m.cbs ≤ 2 ^ 40
  pub other_size : m.other_size ≤ 2 ^ 40
  pub lawful : IsLawful m.kind m

abbrev pub IsVlan : VlanTest → Type 0
IsVlan Any = Unit {0}
IsVlan Untagged = Unit {0}
IsVlan (Id n) = n ≤ 4095

-- a prefix of at most 32 bits, with nothing behind them
pub record IsPrefix (p : Prefix) : Type 0 where
  pub bits : p.bits ≤ 32
  pub rest : p.addr % 2 ^ (32 - p.bits) ≡ 0

abbrev pub IsCode : CodeChoice → Type 0
IsCode Dscp = Unit {0}
IsCode (Fixed entry) = IsValid entry
