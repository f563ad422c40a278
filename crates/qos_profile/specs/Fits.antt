-- The numbers of the parts of a profile fit the program's types. This follows where sections have no fault.
use Rattle.std.specs.Prelude.{◌≡◌, ℕ, ◌<◌, ◌≤◌, true, List, length, All, Some, IfSome}
use Rattle.code_table.specs.Entry.{IsValid}
use Rattle.code_table.specs.declared.entry.Entry.{Entry}
use Rattle.profile_plan.specs.Limits.{IsPool, IsVlan}
use Rattle.profile_plan.specs.declared.limits.TheConstants.{MAX_MTU, MAX_SUBPORT_PIPES}
use Rattle.profile_plan.specs.declared.port.PortPlan.{PortPlan}
use Rattle.profile_plan.specs.declared.port.SubportPlan.{SubportPlan}
use Rattle.profile_plan.specs.declared.shaping.PipeKind.{PipeKind}
use Rattle.profile_plan.specs.declared.rule.PipeChoice.{PipeChoice}
use Rattle.profile_plan.specs.declared.rule.PipeChoice.TheVariants.{Fixed, Vlan, Host}
use Rattle.profile_plan.specs.declared.rule.RulePlan.{RulePlan}
use Rattle.qos_profile.specs.declared.value.Value.TheVariants as values
use Rattle.qos_profile.specs.declared.fact.Fact.{Fact}
use Rattle.qos_profile.specs.declared.head.Head.TheVariants as heads
use Rattle.qos_profile.specs.declared.section.Section.{Section}
use Rattle.qos_profile.specs.Lookups.{value_at, number_at, is_there, facts_at}
use Rattle.qos_profile.specs.Planned.{pool_of, pipe_kind_of, subport_of, port_of, port_count, rule_of}

-- a subport names profiles by their numbers
pub record FitsSubport (s : SubportPlan) : Type 0 where
  pub kind : s.kind ≤ 63
  pub count : length s.pipes ≤ MAX_SUBPORT_PIPES
  pub pipes : All (λ n. n ≤ 255) s.pipes

-- each subport of a port
abbrev pub FitSubports : List Section → ℕ → ℕ → Type 0
FitSubports sections port count = (k : ℕ) → k < count → FitsSubport (subport_of (facts_at sections (heads.Subport port k)))

-- a port's own numbers
pub record FitsPort (p : PortPlan) : Type 0 where
  pub overhead : p.overhead ≤ 255
  pub mtu : p.mtu ≤ MAX_MTU
  pub burst : p.burst ≤ 256

-- a pipe profile's weight fits a byte
abbrev pub FitsKind : PipeKind → Type 0
FitsKind kind = kind.ov_weight ≤ 255

-- a pipe that a rule names
abbrev pub FitsPipe : PipeChoice → Type 0
FitsPipe (Fixed n) = n ≤ 4095
FitsPipe Vlan = Unit {0}
FitsPipe Host = Unit {0}

-- a rule names a port, a subport and a pipe
pub record FitsRule (r : RulePlan) : Type 0 where
  pub input : IfSome r.input (λ n. n ≤ 15)
  pub vlan : IsVlan r.vlan
  pub port : r.port ≤ 15
  pub subport : r.subport ≤ 7
  pub pipe : FitsPipe r.pipe

-- each entry that a line gives
abbrev pub FitCodes : List Fact → Type 0
FitCodes facts = (code : ℕ) (entry : Entry) → value_at facts 0 code ≡ Some (values.Entry entry) → IsValid entry

-- a port with its subports, by the facts of its section
abbrev pub FitsWithSubports : List Section → ℕ → List Fact → Type 0
FitsWithSubports sections number facts =
    FitsPort (port_of sections number facts) × FitSubports sections number (number_at facts 1 0 0)

-- each port that is there
abbrev pub FitPorts : List Section → Type 0
FitPorts sections = (n : ℕ) → n < port_count sections → FitsWithSubports sections n (facts_at sections (heads.Port n))

-- each pipe profile that is there
abbrev pub FitKinds : List Section → Type 0
FitKinds sections = (n : ℕ) → is_there sections (heads.PipeKind n) ≡ true → FitsKind (pipe_kind_of n (facts_at sections (heads.PipeKind n)))

-- each rule that is there
abbrev pub FitRules : List Section → Type 0
FitRules sections = (n : ℕ) → is_there sections (heads.Rule n) ≡ true → FitsRule (rule_of sections n (facts_at sections (heads.Rule n)))

-- all parts
pub record FitSections (sections : List Section) : Type 0 where
  pub pool : IsPool (pool_of (facts_at sections heads.Pool))
  pub ports : FitPorts sections
  pub pipe_kinds : FitKinds sections
  pub codes : FitCodes (facts_at sections heads.Codes)
  pub rules : FitRules sections
