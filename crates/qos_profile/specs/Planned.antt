-- The profile that sections say: each part from the lines that give its keys, or else from its defaults, in the order of the
-- table of keys. Sections of one kind stand in order of number, meters in the order of the text.
use Rattle.std.specs.Prelude.{◌==◌, ℕ, Bool, true, false, if◌then◌else◌, List, [], ◌∷◌, map, filter, take, replicate, fold, max, Option, None, Some}
use Rattle.std.specs.List.{position_or_len, range_with_len}
use Rattle.code_table.specs.declared.entry.Entry.{Entry}
use Rattle.code_table.specs.Dscp.{default_entry}
use Rattle.profile_plan.specs.declared.port.PoolPlan.{PoolPlan}
use Rattle.profile_plan.specs.declared.port.PortPlan.{PortPlan}
use Rattle.profile_plan.specs.declared.port.SubportPlan.{SubportPlan}
use Rattle.profile_plan.specs.declared.port.Span.{Span}
use Rattle.profile_plan.specs.declared.port.Span.TheVariants as spans
use Rattle.profile_plan.specs.declared.shaping.Shaping.{Shaping}
use Rattle.profile_plan.specs.declared.shaping.Shaping.TheVariants as shapings
use Rattle.profile_plan.specs.declared.shaping.Whole.{Whole}
use Rattle.profile_plan.specs.declared.shaping.Rates.{Rates}
use Rattle.profile_plan.specs.declared.shaping.PipeKind.{PipeKind}
use Rattle.profile_plan.specs.declared.meter.MeterKind.{MeterKind}
use Rattle.profile_plan.specs.declared.meter.MeterKind.TheVariants.{SrTcm, TrTcm, Rfc4115}
use Rattle.profile_plan.specs.declared.meter.MeterRate.{MeterRate}
use Rattle.profile_plan.specs.declared.meter.MeterRate.TheVariants.{Periods}
use Rattle.profile_plan.specs.declared.meter.MeterPlan.{MeterPlan}
use Rattle.profile_plan.specs.declared.rule.Proto.{Proto}
use Rattle.profile_plan.specs.declared.rule.Proto.TheVariants.{Ipv4, Ipv6, Mpls, Other}
use Rattle.profile_plan.specs.declared.rule.VlanTest.{VlanTest}
use Rattle.profile_plan.specs.declared.rule.VlanTest.TheVariants.{Any, Untagged, Id}
use Rattle.profile_plan.specs.declared.rule.Prefix.{Prefix}
use Rattle.profile_plan.specs.declared.rule.PipeChoice.{PipeChoice}
use Rattle.profile_plan.specs.declared.rule.PipeChoice.TheVariants as pipes
use Rattle.profile_plan.specs.declared.rule.CodeChoice.{CodeChoice}
use Rattle.profile_plan.specs.declared.rule.CodeChoice.TheVariants as choices
use Rattle.profile_plan.specs.declared.rule.RulePlan.{RulePlan}
use Rattle.profile_plan.specs.Profile.{Plan}
use Rattle.qos_profile.specs.declared.name.Name.{Name}
use Rattle.qos_profile.specs.declared.value.Value.{Value}
use Rattle.qos_profile.specs.declared.value.Value.TheVariants as values
use Rattle.qos_profile.specs.declared.fact.Fact.{Fact}
use Rattle.qos_profile.specs.declared.head.Head.{Head}
use Rattle.qos_profile.specs.declared.head.Head.TheVariants as heads
use Rattle.qos_profile.specs.declared.section.Section.{Section}
use Rattle.qos_profile.specs.Facts.{mode_of}
use Rattle.qos_profile.specs.Sections.{same_head, is_red, sections_of}
use Rattle.qos_profile.specs.Steps.{lines_of}
use Rattle.qos_profile.specs.Lookups.{value_at, has, number_at, is_there, facts_at}
use Rattle.qos_profile.specs.Missing.{is_rate, ports_to}
use Rattle.qos_profile.specs.Across.{rate_at}

-- the place of a word among those that may stand there, or another
abbrev pub word_or : ℕ → Option Value → ℕ
word_or other (Some (values.Word n)) = n
word_or other _ = other

-- the word that a key has, by its place, or another
abbrev pub choice_at : List Fact → ℕ → ℕ → ℕ
choice_at facts group other = word_or other (value_at facts group 0)

-- `slots`, `slot bytes`, `ring size`
unfoldable pub pool_of : List Fact → PoolPlan
pool_of facts =
    record { slots = number_at facts 0 0 65536; slot_bytes = number_at facts 1 0 2048; ring = number_at facts 2 0 8192 }

-- `drain`, or else `drain ms`
unfoldable pub drain_of : List Fact → Span
drain_of facts = if has facts 6 0 then spans.Bytes (number_at facts 6 0 0) else spans.Ms (number_at facts 6 2 1000)

-- thirteen classes, each with the number of its line
abbrev pub classes_of : List Fact → List ℕ
classes_of facts = map (λ class. number_at facts 3 class 0) (range_with_len 0 13)

-- `tb credits`, `tb period`, `tb size`, `tc A credits`, `tc period`
unfoldable pub whole_form_of : List Fact → Whole
whole_form_of facts =
    record {
      tb_credits = number_at facts 0 0 0;
      tb_period = number_at facts 1 0 0;
      tb_size = number_at facts 2 0 0;
      tc_credits = classes_of facts;
      tc_period = number_at facts 4 0 0;
    }

-- `tb rate`, `tb size`, `tc A rate`, `tc period`
unfoldable pub rate_form_of : List Fact → Rates
rate_form_of facts =
    record {
      tb_rate = number_at facts 0 0 0;
      tb_size = number_at facts 2 0 0;
      tc_rates = classes_of facts;
      tc_period_ms = number_at facts 4 0 0;
    }

-- a shaping in the form that its section tells
unfoldable pub shaping_of : List Fact → Shaping
shaping_of facts = if is_rate (mode_of facts) then shapings.Rate (rate_form_of facts) else shapings.Whole (whole_form_of facts)

-- four weights, or else 1 each
abbrev pub weights_or : Option Value → List ℕ
weights_or (Some (values.Weights weights)) = weights
weights_or _ = 1 ∷ 1 ∷ 1 ∷ 1 ∷ []

-- a pipe profile: its shaping, `tc 12 wrr weights`, `tc 12 oversubscription weight`
unfoldable pub pipe_kind_of : ℕ → List Fact → PipeKind
pipe_kind_of number facts =
    record { number = number; shaping = shaping_of facts; weights = weights_or (value_at facts 5 0); ov_weight = number_at facts 6 0 1 }

-- thirteen queue sizes
abbrev pub sizes_or : Option Value → List ℕ
sizes_or (Some (values.Sizes sizes)) = sizes
sizes_or _ = replicate 13 0

-- the pipe profile of each of so many `pipes`
abbrev pub pipes_of : List Fact → List ℕ
pipes_of facts = map (λ pipe. number_at facts 3 pipe 0) (range_with_len 0 (number_at facts 1 0 0))

-- a subport: `profile`, `queue sizes`, the profile of each of its `pipes`, `oversubscription`
unfoldable pub subport_of : List Fact → SubportPlan
subport_of facts =
    record {
      kind = number_at facts 0 0 0;
      sizes = sizes_or (value_at facts 2 0);
      pipes = pipes_of facts;
      oversub = choice_at facts 4 0 == 1;
    }

-- the subports of a port by number
abbrev pub subports_of : List Section → ℕ → ℕ → List SubportPlan
subports_of sections port count =
    map (λ subport. subport_of (facts_at sections (heads.Subport port subport))) (range_with_len 0 count)

-- a port: `line rate`, `frame overhead`, `mtu`, `burst`, `quantum`, its drain, and so many `subports`
unfoldable pub port_of : List Section → ℕ → List Fact → PortPlan
port_of sections number facts =
    record {
      line = number_at facts 0 0 0;
      overhead = number_at facts 2 0 24;
      mtu = number_at facts 3 0 1522;
      burst = number_at facts 4 0 32;
      quantum = number_at facts 5 0 65536;
      drain = drain_of facts;
      subports = subports_of sections number (number_at facts 1 0 0);
    }

-- one more than the greatest number of a port
abbrev pub port_count : List Section → ℕ
port_count sections = fold max 0 (map (λ s. ports_to s.head) sections)

-- the ports, by number
abbrev pub ports_of : List Section → List PortPlan
ports_of sections = map (λ n. port_of sections n (facts_at sections (heads.Port n))) (range_with_len 0 (port_count sections))

-- the numbers below a limit whose sections are there
abbrev pub numbers_there : List Section → (ℕ → Head) → ℕ → List ℕ
numbers_there sections head limit = filter (λ n. is_there sections (head n)) (range_with_len 0 limit)

-- the subport profiles, by number
abbrev pub subport_kinds_of : List Section → List (ℕ × Shaping)
subport_kinds_of sections =
    map (λ n. (n, shaping_of (facts_at sections (heads.SubportKind n)))) (numbers_there sections heads.SubportKind 64)

-- the pipe profiles, by number
abbrev pub pipe_kinds_of : List Section → List PipeKind
pipe_kinds_of sections =
    map (λ n. pipe_kind_of n (facts_at sections (heads.PipeKind n))) (numbers_there sections heads.PipeKind 256)

-- the entry that a line gives, or another
abbrev pub entry_or : Entry → Option Value → Entry
entry_or other (Some (values.Entry entry)) = entry
entry_or other _ = other

-- the entry of each code: that of its line, or else of the default table
unfoldable pub codes_of : List Fact → List Entry
codes_of facts = map (λ code. entry_or (default_entry code) (value_at facts 0 code)) (range_with_len 0 64)

-- a section is a meter
abbrev pub is_meter : Head → Bool
is_meter (heads.Meter name) = true
is_meter _ = false

-- the name in a meter's head
abbrev pub name_in : Head → List ℕ
name_in (heads.Meter name) = take name.length name.bytes
name_in _ = []

-- `kind`: srtcm, trtcm or rfc4115
abbrev pub meter_kind_of : Option ℕ → MeterKind
meter_kind_of (Some mode) = if mode == 0 then SrTcm else (if mode == 1 then TrTcm else Rfc4115)
meter_kind_of None = Rfc4115

-- the rate beside the committed one: srtcm has none
abbrev pub other_rate_of : MeterKind → List Fact → MeterRate
other_rate_of SrTcm facts = Periods 0 1
other_rate_of TrTcm facts = rate_at facts 3
other_rate_of Rfc4115 facts = rate_at facts 3

-- what `green`, `yellow` and `red` say: whether such packets are dropped
abbrev pub drops_of : List Fact → List Bool
drops_of facts = (choice_at facts 6 0 == 1) ∷ (choice_at facts 7 0 == 1) ∷ (choice_at facts 8 1 == 1) ∷ []

-- a meter: its name, `kind`, `mode`, its rates, `cbs`, `ebs` or `pbs`, and what it drops
unfoldable pub meter_of : Head → List Fact → MeterPlan
meter_of head facts =
    record {
      name = name_in head;
      kind = meter_kind_of (mode_of facts);
      aware = choice_at facts 1 0 == 1;
      cir = rate_at facts 2;
      other = other_rate_of (meter_kind_of (mode_of facts)) facts;
      cbs = number_at facts 4 0 0;
      other_size = number_at facts 5 0 0;
      drops = drops_of facts;
    }

-- the sections of meters
abbrev pub meter_sections : List Section → List Section
meter_sections sections = filter (λ s. is_meter s.head) sections

-- the meters, in the order of the text
abbrev pub meters_of : List Section → List MeterPlan
meters_of sections = map (λ s. meter_of s.head s.facts) (meter_sections sections)

-- the number of the meter of this name
abbrev pub meter_number : List Section → Name → ℕ
meter_number sections name = position_or_len (λ s. same_head s.head (heads.Meter name)) (meter_sections sections)

-- `input`: a number, or any
abbrev pub input_of : Option Value → Option ℕ
input_of (Some (values.Number n)) = Some n
input_of _ = None

-- `vlan`: a number, `none` or any
abbrev pub vlan_of : Option Value → VlanTest
vlan_of (Some (values.Number n)) = Id n
vlan_of (Some (values.Word n)) = if n == 1 then Untagged else Any
vlan_of _ = Any

-- `proto`: one of four, or any
abbrev pub proto_of : Option Value → Option Proto
proto_of (Some (values.Word n)) =
    if n == 0 then Some Ipv4 else (if n == 1 then Some Ipv6 else (if n == 2 then Some Mpls else (if n == 3 then Some Other else None)))
proto_of _ = None

-- `src` and `dst`: a prefix, or any
abbrev pub prefix_in : Option Value → Option Prefix
prefix_in (Some (values.Prefix prefix)) = Some prefix
prefix_in _ = None

-- `pipe`: a number, `vlan` or `host`
abbrev pub pipe_choice_of : Option Value → PipeChoice
pipe_choice_of (Some (values.Number n)) = pipes.Fixed n
pipe_choice_of (Some (values.Word n)) = if n == 0 then pipes.Vlan else pipes.Host
pipe_choice_of _ = pipes.Host

-- `code`: an entry, or `dscp`
abbrev pub code_choice_of : Option Value → CodeChoice
code_choice_of (Some (values.Entry entry)) = choices.Fixed entry
code_choice_of _ = choices.Dscp

-- `meter`: the number of the meter of a name, or none
abbrev pub meter_in : List Section → Option Value → Option ℕ
meter_in sections (Some (values.Name name)) = Some (meter_number sections name)
meter_in sections _ = None

-- a rule: `input`, `vlan`, `proto`, `src`, `dst`, `port`, `subport`, `pipe`, `code`, `meter`; a condition without a line is none
unfoldable pub rule_of : List Section → ℕ → List Fact → RulePlan
rule_of sections number facts =
    record {
      number = number;
      input = input_of (value_at facts 0 0);
      vlan = vlan_of (value_at facts 1 0);
      proto = proto_of (value_at facts 2 0);
      src = prefix_in (value_at facts 3 0);
      dst = prefix_in (value_at facts 4 0);
      port = number_at facts 5 0 0;
      subport = number_at facts 6 0 0;
      pipe = pipe_choice_of (value_at facts 7 0);
      code = code_choice_of (value_at facts 8 0);
      meter = meter_in sections (value_at facts 9 0);
    }

-- the rules, by number
abbrev pub rules_of : List Section → List RulePlan
rules_of sections = map (λ n. rule_of sections n (facts_at sections (heads.Rule n))) (numbers_there sections heads.Rule 256)

-- the lines of the sections that are skipped
abbrev pub skipped_of : List Section → List ℕ
skipped_of sections = map (λ s. s.line) (filter (λ s. is_red s.head) sections)

-- the profile that sections say
unfoldable pub plan_of : List Section → Plan
plan_of sections =
    record {
      pool = pool_of (facts_at sections heads.Pool);
      ports = ports_of sections;
      subport_kinds = subport_kinds_of sections;
      pipe_kinds = pipe_kinds_of sections;
      codes = codes_of (facts_at sections heads.Codes);
      meters = meters_of sections;
      rules = rules_of sections;
      skipped = skipped_of sections;
    }

-- the profile that a text says
unfoldable pub profile_of : List ℕ → Plan
profile_of text = plan_of (sections_of 1 (lines_of text))
