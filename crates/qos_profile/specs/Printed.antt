-- The sections that the text of a plan has, written down directly.
use Rattle.std.specs.Prelude.{ℕ, ◌+◌, Bool, if◌then◌else◌, List, [], ◌∷◌, ◌++◌, length, map, slice_index_or, false, Option, None, Some}
use Rattle.code_table.specs.declared.entry.Entry.{Entry}
use Rattle.profile_plan.specs.declared.port.PoolPlan.{PoolPlan}
use Rattle.profile_plan.specs.declared.port.PortPlan.{PortPlan}
use Rattle.profile_plan.specs.declared.port.SubportPlan.{SubportPlan}
use Rattle.profile_plan.specs.declared.port.Span.{Span}
use Rattle.profile_plan.specs.declared.port.Span.TheVariants.{Bytes, Ms}
use Rattle.profile_plan.specs.declared.shaping.Shaping.{Shaping}
use Rattle.profile_plan.specs.declared.shaping.Shaping.TheVariants as shapings
use Rattle.profile_plan.specs.declared.shaping.Whole.{Whole}
use Rattle.profile_plan.specs.declared.shaping.Rates.{Rates}
use Rattle.profile_plan.specs.declared.shaping.PipeKind.{PipeKind}
use Rattle.profile_plan.specs.declared.meter.MeterKind.{MeterKind}
use Rattle.profile_plan.specs.declared.meter.MeterKind.TheVariants.{SrTcm, TrTcm, Rfc4115}
use Rattle.profile_plan.specs.declared.meter.MeterRate.{MeterRate}
use Rattle.profile_plan.specs.declared.meter.MeterRate.TheVariants.{Periods, PerSecond}
use Rattle.profile_plan.specs.declared.meter.MeterPlan.{MeterPlan}
use Rattle.profile_plan.specs.declared.rule.Proto.{Proto}
use Rattle.profile_plan.specs.declared.rule.Proto.TheVariants.{Ipv4, Ipv6, Mpls, Other}
use Rattle.profile_plan.specs.declared.rule.VlanTest.{VlanTest}
use Rattle.profile_plan.specs.declared.rule.VlanTest.TheVariants.{Any, Untagged, Id}
use Rattle.profile_plan.specs.declared.rule.Prefix.{Prefix}
use Rattle.profile_plan.specs.declared.rule.PipeChoice.{PipeChoice}
use Rattle.profile_plan.specs.declared.rule.PipeChoice.TheVariants as pipes
use Rattle.profile_plan.specs.declared.rule.CodeChoice.{CodeChoice}
use Rattle.profile_plan.specs.declared.rule.CodeChoice.TheVariants as choices
use Rattle.profile_plan.specs.declared.rule.RulePlan.{RulePlan}
use Rattle.profile_plan.specs.Profile.{Plan}
use Rattle.profile_print.specs.Written.{each, each_from}
use Rattle.profile_print.specs.Text.{name_of_meter}
use Rattle.qos_profile.specs.declared.value.Value.{Value}
use Rattle.qos_profile.specs.declared.value.Value.TheVariants as values
use Rattle.qos_profile.specs.declared.fact.Fact.{Fact}
use Rattle.qos_profile.specs.declared.head.Head.{Head}
use Rattle.qos_profile.specs.declared.head.Head.TheVariants as heads
use Rattle.qos_profile.specs.declared.section.Section.{Section}
use Rattle.qos_profile.specs.Values.{padded}

-- a section before its lines have numbers: what it is of, and what its keys give
pub record Part : Type 0 where
  pub head : Head
  pub facts : List Fact

-- a fact at a line
abbrev pub at_line : ℕ → Fact → Fact
at_line n fact = record { line = n; group = fact.group; first = fact.first; last = fact.last; told = fact.told; value = fact.value }

-- the sections of parts, whose first line is n: each key takes a line
abbrev pub sections_from : ℕ → List Part → List Section
sections_from n [] = []
sections_from n (part ∷ parts) =
    record { line = n; head = part.head; facts = each_from at_line (n + 1) part.facts }
    ∷ sections_from (n + 1 + length part.facts) parts

-- what slots of a group give, and what that tells of the section
abbrev pub gives : ℕ → ℕ → ℕ → Option ℕ → Value → Fact
gives group first last told value =
    record { line = 0; group = group; first = first; last = last; told = told; value = value }

abbrev pub value_fact : ℕ → Value → Fact
value_fact group value = gives group 0 0 None value

abbrev pub number_fact : ℕ → ℕ → Fact
number_fact group n = value_fact group (values.Number n)

abbrev pub word_fact : ℕ → ℕ → Fact
word_fact group n = value_fact group (values.Word n)

abbrev pub pool_part : PoolPlan → Part
pool_part p =
    record { head = heads.Pool; facts = number_fact 0 p.slots ∷ number_fact 1 p.slot_bytes ∷ number_fact 2 p.ring ∷ [] }

abbrev pub drain_fact : Span → Fact
drain_fact (Bytes n) = gives 6 0 1 None (values.Number n)
drain_fact (Ms n) = gives 6 1 2 None (values.Number n)

abbrev pub port_part : ℕ → PortPlan → Part
port_part n p =
    record {
      head = heads.Port n;
      facts =
          number_fact 0 p.line
          ∷ number_fact 1 (length p.subports)
          ∷ number_fact 2 p.overhead
          ∷ number_fact 3 p.mtu
          ∷ number_fact 4 p.burst
          ∷ number_fact 5 p.quantum
          ∷ drain_fact p.drain
          ∷ [];
    }

-- a class in a form
abbrev pub class_fact : ℕ → ℕ → ℕ → Fact
class_fact form class n = gives 3 class class (Some form) (values.Number n)

abbrev pub whole_facts : Whole → List Fact
whole_facts w =
    gives 0 0 0 (Some 0) (values.Number w.tb_credits)
    ∷ gives 1 0 0 (Some 0) (values.Number w.tb_period)
    ∷ number_fact 2 w.tb_size
    ∷ each (class_fact 0) w.tc_credits
    ++ number_fact 4 w.tc_period
    ∷ []

abbrev pub rate_facts : Rates → List Fact
rate_facts r =
    gives 0 0 0 (Some 1) (values.Number r.tb_rate)
    ∷ number_fact 2 r.tb_size
    ∷ each (class_fact 1) r.tc_rates
    ++ number_fact 4 r.tc_period_ms
    ∷ []

abbrev pub shaping_facts : Shaping → List Fact
shaping_facts (shapings.Whole w) = whole_facts w
shaping_facts (shapings.Rate r) = rate_facts r

abbrev pub subport_kind_part : ℕ × Shaping → Part
subport_kind_part k = record { head = heads.SubportKind k.0; facts = shaping_facts k.1 }

abbrev pub pipe_kind_part : PipeKind → Part
pipe_kind_part k =
    record {
      head = heads.PipeKind k.number;
      facts = shaping_facts k.shaping ++ value_fact 5 (values.Weights k.weights) ∷ number_fact 6 k.ov_weight ∷ [];
    }

abbrev pub pipe_fact : ℕ → ℕ → Fact
pipe_fact pipe kind = gives 3 pipe pipe None (values.Number kind)

abbrev pub subport_part : ℕ → ℕ → SubportPlan → Part
subport_part port n s =
    record {
      head = heads.Subport port n;
      facts =
          number_fact 0 s.kind
          ∷ number_fact 1 (length s.pipes)
          ∷ value_fact 2 (values.Sizes s.sizes)
          ∷ each pipe_fact s.pipes
          ++ word_fact 4 (if s.oversub then 1 else 0)
          ∷ [];
    }

abbrev pub subport_parts : ℕ → List PortPlan → List Part
subport_parts n [] = []
subport_parts n (port ∷ ports) = each (subport_part n) port.subports ++ subport_parts (n + 1) ports

abbrev pub code_fact : ℕ → Entry → Fact
code_fact code e = gives 0 code code None (values.Entry e)

abbrev pub codes_part : List Entry → Part
codes_part entries = record { head = heads.Codes; facts = each code_fact entries }

-- the number of a meter's kind
abbrev pub kind_number : MeterKind → ℕ
kind_number SrTcm = 0
kind_number TrTcm = 1
kind_number Rfc4115 = 2

-- a rate of a group, in a kind or in all
abbrev pub meter_rate_facts : ℕ → Option ℕ → MeterRate → List Fact
meter_rate_facts group told (Periods bytes period) =
    gives group 0 0 told (values.Number bytes) ∷ gives group 2 2 told (values.Number period) ∷ []
meter_rate_facts group told (PerSecond rate) = gives group 0 2 told (values.Number rate) ∷ []

abbrev pub other_rate_facts : MeterKind → MeterRate → List Fact
other_rate_facts SrTcm rate = []
other_rate_facts TrTcm rate = meter_rate_facts 3 (Some 1) rate
other_rate_facts Rfc4115 rate = meter_rate_facts 3 (Some 2) rate

-- `pbs` tells its kind, `ebs` does not
abbrev pub size_told : MeterKind → Option ℕ
size_told SrTcm = None
size_told TrTcm = Some 1
size_told Rfc4115 = None

abbrev pub action_fact : List Bool → ℕ → ℕ → Fact
action_fact drops group colour = word_fact group (if slice_index_or drops colour false then 1 else 0)

abbrev pub meter_part : MeterPlan → Part
meter_part m =
    record {
      head = heads.Meter (padded m.name);
      facts =
          gives 0 0 0 (Some (kind_number m.kind)) (values.Word (kind_number m.kind))
          ∷ word_fact 1 (if m.aware then 1 else 0)
          ∷ meter_rate_facts 2 None m.cir
          ++ other_rate_facts m.kind m.other
          ++ number_fact 4 m.cbs
          ∷ gives 5 0 0 (size_told m.kind) (values.Number m.other_size)
          ∷ action_fact m.drops 6 0
          ∷ action_fact m.drops 7 1
          ∷ action_fact m.drops 8 2
          ∷ [];
    }

abbrev pub input_value : Option ℕ → Value
input_value None = values.Word 0
input_value (Some n) = values.Number n

abbrev pub vlan_value : VlanTest → Value
vlan_value Any = values.Word 0
vlan_value Untagged = values.Word 1
vlan_value (Id n) = values.Number n

abbrev pub proto_value : Option Proto → Value
proto_value (Some Ipv4) = values.Word 0
proto_value (Some Ipv6) = values.Word 1
proto_value (Some Mpls) = values.Word 2
proto_value (Some Other) = values.Word 3
proto_value None = values.Word 4

abbrev pub prefix_value : Option Prefix → Value
prefix_value None = values.Word 0
prefix_value (Some p) = values.Prefix p

abbrev pub pipe_value : PipeChoice → Value
pipe_value (pipes.Fixed n) = values.Number n
pipe_value pipes.Vlan = values.Word 0
pipe_value pipes.Host = values.Word 1

abbrev pub code_value : CodeChoice → Value
code_value choices.Dscp = values.Word 0
code_value (choices.Fixed e) = values.Entry e

abbrev pub meter_facts : List MeterPlan → Option ℕ → List Fact
meter_facts meters None = []
meter_facts meters (Some n) = value_fact 9 (values.Name (padded (name_of_meter meters n))) ∷ []

abbrev pub rule_part : List MeterPlan → RulePlan → Part
rule_part meters r =
    record {
      head = heads.Rule r.number;
      facts =
          value_fact 0 (input_value r.input)
          ∷ value_fact 1 (vlan_value r.vlan)
          ∷ value_fact 2 (proto_value r.proto)
          ∷ value_fact 3 (prefix_value r.src)
          ∷ value_fact 4 (prefix_value r.dst)
          ∷ number_fact 5 r.port
          ∷ number_fact 6 r.subport
          ∷ value_fact 7 (pipe_value r.pipe)
          ∷ value_fact 8 (code_value r.code)
          ∷ meter_facts meters r.meter;
    }

abbrev pub parts_of : Plan → List Part
parts_of p =
    pool_part p.pool
    ∷ each port_part p.ports
    ++ map subport_kind_part p.subport_kinds
    ++ map pipe_kind_part p.pipe_kinds
    ++ subport_parts 0 p.ports
    ++ codes_part p.codes
    ∷ map meter_part p.meters
    ++ map (rule_part p.meters) p.rules

-- the sections of a plan's text
abbrev pub printed_sections : Plan → List Section
printed_sections p = sections_from 1 (parts_of p)
