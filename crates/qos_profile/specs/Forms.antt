-- What a plan keeps beside its limits, so that its text can be read back: the lengths of its arrays and the ranges of its
-- integers, which the types of a profile's parts have.
use Rattle.std.specs.Prelude.{◌≡◌, ◌^◌, ◌<◌, ◌≤◌, length, All, IfSome}
use Rattle.profile_plan.specs.declared.port.PortPlan.{PortPlan}
use Rattle.profile_plan.specs.declared.shaping.Shaping.{Shaping}
use Rattle.profile_plan.specs.declared.shaping.Shaping.TheVariants as shapings
use Rattle.profile_plan.specs.declared.shaping.PipeKind.{PipeKind}
use Rattle.profile_plan.specs.declared.meter.MeterPlan.{MeterPlan}
use Rattle.profile_plan.specs.declared.rule.Prefix.{Prefix}
use Rattle.profile_plan.specs.declared.rule.RulePlan.{RulePlan}
use Rattle.profile_plan.specs.Profile.{Plan}

-- thirteen classes
abbrev pub HasClasses : Shaping → Type 0
HasClasses (shapings.Whole w) = length w.tc_credits ≡ 13
HasClasses (shapings.Rate r) = length r.tc_rates ≡ 13

-- thirteen sizes in each subport
abbrev pub HasSizes : PortPlan → Type 0
HasSizes port = All (λ s. length s.sizes ≡ 13) port.subports

pub record HasWeights (k : PipeKind) : Type 0 where
  pub classes : HasClasses k.shaping
  pub count : length k.weights ≡ 4
  pub weights : All (λ n. n ≤ 255) k.weights
  pub ov_weight : k.ov_weight ≤ 255

-- an action for each of the three colours
abbrev pub HasActions : MeterPlan → Type 0
HasActions m = length m.drops ≡ 3

abbrev pub IsAddress : Prefix → Type 0
IsAddress p = p.addr < 2 ^ 32

pub record HasAddresses (r : RulePlan) : Type 0 where
  pub src : IfSome r.src IsAddress
  pub dst : IfSome r.dst IsAddress

pub record KeepsForms (p : Plan) : Type 0 where
  pub ports : All HasSizes p.ports
  pub subport_kinds : All (λ k. HasClasses k.1) p.subport_kinds
  pub pipe_kinds : All HasWeights p.pipe_kinds
  pub meters : All HasActions p.meters
  pub rules : All HasAddresses p.rules
