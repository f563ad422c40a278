-- The canonical text of a profile: every section and every key in the order of the manual, sections of one kind by number,
-- classes and pipes one a line.
use Rattle.std.specs.Prelude.{ℕ, ◌+◌, ◌/◌, ◌%◌, Bool, false, if◌then◌else◌, codes, List, [], ◌∷◌, ◌++◌, length, map, slice_get, slice_index_or, Option, None, Some}
use Rattle.std.specs.List.{flat_map}
use Rattle.std.specs.Option.{option_map_or}
use Rattle.std.specs.Fmt.{decimal}
use Rattle.qos_base.specs.declared.packet.Colour.{Colour}
use Rattle.qos_base.specs.declared.packet.Colour.TheVariants.{Green, Yellow, Red}
use Rattle.code_table.specs.declared.entry.Entry.{Entry}
use Rattle.profile_plan.specs.declared.port.PoolPlan.{PoolPlan}
use Rattle.profile_plan.specs.declared.port.PortPlan.{PortPlan}
use Rattle.profile_plan.specs.declared.port.SubportPlan.{SubportPlan}
use Rattle.profile_plan.specs.declared.port.Span.{Span}
use Rattle.profile_plan.specs.declared.port.Span.TheVariants.{Bytes, Ms}
use Rattle.profile_plan.specs.declared.shaping.Shaping.{Shaping}
use Rattle.profile_plan.specs.declared.shaping.Shaping.TheVariants as shapings
use Rattle.profile_plan.specs.declared.shaping.Whole.{Whole}
use Rattle.profile_plan.specs.declared.shaping.Rates.{Rates}
use Rattle.profile_plan.specs.declared.shaping.PipeKind.{PipeKind}
use Rattle.profile_plan.specs.declared.meter.MeterKind.{MeterKind}
use Rattle.profile_plan.specs.declared.meter.MeterKind.TheVariants.{SrTcm, TrTcm, Rfc4115}
use Rattle.profile_plan.specs.declared.meter.MeterRate.{MeterRate}
use Rattle.profile_plan.specs.declared.meter.MeterRate.TheVariants.{Periods, PerSecond}
use Rattle.profile_plan.specs.declared.meter.MeterPlan.{MeterPlan}
use Rattle.profile_plan.specs.declared.rule.Proto.{Proto}
use Rattle.profile_plan.specs.declared.rule.Proto.TheVariants.{Ipv4, Ipv6, Mpls, Other}
use Rattle.profile_plan.specs.declared.rule.VlanTest.{VlanTest}
use Rattle.profile_plan.specs.declared.rule.VlanTest.TheVariants.{Any, Untagged, Id}
use Rattle.profile_plan.specs.declared.rule.Prefix.{Prefix}
use Rattle.profile_plan.specs.declared.rule.PipeChoice.{PipeChoice}
use Rattle.profile_plan.specs.declared.rule.PipeChoice.TheVariants as pipes
use Rattle.profile_plan.specs.declared.rule.CodeChoice.{CodeChoice}
use Rattle.profile_plan.specs.declared.rule.CodeChoice.TheVariants as choices
use Rattle.profile_plan.specs.declared.rule.RulePlan.{RulePlan}
use Rattle.profile_plan.specs.Profile.{Plan}
use Rattle.profile_print.specs.Written.{Words, Key, Block, block_text, each}

-- `key = number`
abbrev pub number : Words → ℕ → Key
number words n = record { words = words; value = decimal n ∷ [] }

-- `key = word`
abbrev pub word : Words → List ℕ → Key
word words w = record { words = words; value = w ∷ [] }

-- `[pool]`
unfoldable pub pool_block : PoolPlan → Block
pool_block p =
    record {
      head = codes "pool" ∷ [];
      keys =
          number (codes "slots" ∷ []) p.slots
          ∷ number (codes "slot" ∷ codes "bytes" ∷ []) p.slot_bytes
          ∷ number (codes "ring" ∷ codes "size" ∷ []) p.ring
          ∷ [];
    }

-- a drain in byte times, or in milliseconds
abbrev pub drain_key : Span → Key
drain_key (Bytes n) = number (codes "drain" ∷ []) n
drain_key (Ms n) = number (codes "drain" ∷ codes "ms" ∷ []) n

-- a port's overhead and sizes
abbrev pub size_keys : PortPlan → List Key
size_keys p =
    number (codes "frame" ∷ codes "overhead" ∷ []) p.overhead
    ∷ number (codes "mtu" ∷ []) p.mtu
    ∷ number (codes "burst" ∷ []) p.burst
    ∷ number (codes "quantum" ∷ []) p.quantum
    ∷ []

-- `[port N]`
unfoldable pub port_block : ℕ → PortPlan → Block
port_block n p =
    record {
      head = codes "port" ∷ decimal n ∷ [];
      keys =
          number (codes "line" ∷ codes "rate" ∷ []) p.line
          ∷ number (codes "subports" ∷ []) (length p.subports)
          ∷ size_keys p
          ++ drain_key p.drain
          ∷ [];
    }

-- `tc A credits` or `tc A rate`
abbrev pub class_key : List ℕ → ℕ → ℕ → Key
class_key what class n = number (codes "tc" ∷ decimal class ∷ what ∷ []) n

-- a shaping in whole form
unfoldable pub whole_keys : Whole → List Key
whole_keys w =
    number (codes "tb" ∷ codes "credits" ∷ []) w.tb_credits
    ∷ number (codes "tb" ∷ codes "period" ∷ []) w.tb_period
    ∷ number (codes "tb" ∷ codes "size" ∷ []) w.tb_size
    ∷ each (class_key (codes "credits")) w.tc_credits
    ++ number (codes "tc" ∷ codes "period" ∷ []) w.tc_period
    ∷ []

-- a shaping in rate form
unfoldable pub rate_keys : Rates → List Key
rate_keys r =
    number (codes "tb" ∷ codes "rate" ∷ []) r.tb_rate
    ∷ number (codes "tb" ∷ codes "size" ∷ []) r.tb_size
    ∷ each (class_key (codes "rate")) r.tc_rates
    ++ number (codes "tc" ∷ codes "period" ∷ []) r.tc_period_ms
    ∷ []

-- a shaping in the form that it has
abbrev pub shaping_keys : Shaping → List Key
shaping_keys (shapings.Whole w) = whole_keys w
shaping_keys (shapings.Rate r) = rate_keys r

-- `[subport profile N]`
unfoldable pub subport_kind_block : ℕ × Shaping → Block
subport_kind_block k =
    record { head = codes "subport" ∷ codes "profile" ∷ decimal k.0 ∷ []; keys = shaping_keys k.1 }

-- `[pipe profile N]`
unfoldable pub pipe_kind_block : PipeKind → Block
pipe_kind_block k =
    record {
      head = codes "pipe" ∷ codes "profile" ∷ decimal k.number ∷ [];
      keys =
          shaping_keys k.shaping
          ++ record { words = codes "tc" ∷ codes "12" ∷ codes "wrr" ∷ codes "weights" ∷ []; value = map decimal k.weights }
          ∷ number (codes "tc" ∷ codes "12" ∷ codes "oversubscription" ∷ codes "weight" ∷ []) k.ov_weight
          ∷ [];
    }

-- `pipe A`
abbrev pub pipe_key : ℕ → ℕ → Key
pipe_key pipe kind = number (codes "pipe" ∷ decimal pipe ∷ []) kind

abbrev pub yes_word : Bool → List ℕ
yes_word on = if on then codes "yes" else codes "no"

-- a subport's queues, its pipes and whether it is oversubscribed
abbrev pub queue_keys : SubportPlan → List Key
queue_keys s =
    record { words = codes "queue" ∷ codes "sizes" ∷ []; value = map decimal s.sizes }
    ∷ each pipe_key s.pipes
    ++ word (codes "oversubscription" ∷ []) (yes_word s.oversub)
    ∷ []

-- `[subport P S]`
unfoldable pub subport_block : ℕ → ℕ → SubportPlan → Block
subport_block port n s =
    record {
      head = codes "subport" ∷ decimal port ∷ decimal n ∷ [];
      keys =
          number (codes "profile" ∷ []) s.kind
          ∷ number (codes "pipes" ∷ []) (length s.pipes)
          ∷ queue_keys s;
    }

-- the subports of ports, which are numbered from n on
abbrev pub subport_blocks : ℕ → List PortPlan → List Block
subport_blocks n [] = []
subport_blocks n (port ∷ ports) = each (subport_block n) port.subports ++ subport_blocks (n + 1) ports

abbrev pub colour_word : Colour → List ℕ
colour_word Green = codes "green"
colour_word Yellow = codes "yellow"
colour_word Red = codes "red"

-- `C Q COLOUR`
abbrev pub entry_words : Entry → Words
entry_words e = decimal e.class ∷ decimal e.queue ∷ colour_word e.colour ∷ []

-- `N = C Q COLOUR`
abbrev pub code_key : ℕ → Entry → Key
code_key code e = record { words = decimal code ∷ []; value = entry_words e }

-- `[codes dscp]`
unfoldable pub codes_block : List Entry → Block
codes_block entries = record { head = codes "codes" ∷ codes "dscp" ∷ []; keys = each code_key entries }

abbrev pub kind_word : MeterKind → List ℕ
kind_word SrTcm = codes "srtcm"
kind_word TrTcm = codes "trtcm"
kind_word Rfc4115 = codes "rfc4115"

abbrev pub mode_word : Bool → List ℕ
mode_word aware = if aware then codes "aware" else codes "blind"

-- a meter's rate in the way that it has: `cir bytes` and `cir period`, or `cir rate`
abbrev pub meter_rate_keys : List ℕ → MeterRate → List Key
meter_rate_keys name (Periods bytes period) =
    number (name ∷ codes "bytes" ∷ []) bytes ∷ number (name ∷ codes "period" ∷ []) period ∷ []
meter_rate_keys name (PerSecond rate) = number (name ∷ codes "rate" ∷ []) rate ∷ []

-- the second rate, which the single rate meter has not
abbrev pub other_rate_keys : MeterKind → MeterRate → List Key
other_rate_keys SrTcm rate = []
other_rate_keys TrTcm rate = meter_rate_keys (codes "pir") rate
other_rate_keys Rfc4115 rate = meter_rate_keys (codes "eir") rate

-- the second size
abbrev pub size_word : MeterKind → List ℕ
size_word SrTcm = codes "ebs"
size_word TrTcm = codes "pbs"
size_word Rfc4115 = codes "ebs"

-- whether packets of a colour are dropped, by the colour's number
abbrev pub action_word : List Bool → ℕ → List ℕ
action_word drops colour = if slice_index_or drops colour false then codes "drop" else codes "pass"

-- what becomes of packets of each colour
abbrev pub action_keys : List Bool → List Key
action_keys drops =
    word (codes "green" ∷ []) (action_word drops 0)
    ∷ word (codes "yellow" ∷ []) (action_word drops 1)
    ∷ word (codes "red" ∷ []) (action_word drops 2)
    ∷ []

-- a meter's kind, mode and rates
unfoldable pub front_keys : MeterPlan → List Key
front_keys m =
    word (codes "kind" ∷ []) (kind_word m.kind)
    ∷ word (codes "mode" ∷ []) (mode_word m.aware)
    ∷ meter_rate_keys (codes "cir") m.cir
    ++ other_rate_keys m.kind m.other

-- `[meter NAME]`
unfoldable pub meter_block : MeterPlan → Block
meter_block m =
    record {
      head = codes "meter" ∷ m.name ∷ [];
      keys =
          front_keys m
          ++ number (codes "cbs" ∷ []) m.cbs
          ∷ number (size_word m.kind ∷ []) m.other_size
          ∷ action_keys m.drops;
    }

abbrev pub input_word : Option ℕ → List ℕ
input_word None = codes "any"
input_word (Some n) = decimal n

abbrev pub vlan_word : VlanTest → List ℕ
vlan_word Any = codes "any"
vlan_word Untagged = codes "none"
vlan_word (Id n) = decimal n

abbrev pub proto_word : Option Proto → List ℕ
proto_word None = codes "any"
proto_word (Some Ipv4) = codes "ipv4"
proto_word (Some Ipv6) = codes "ipv6"
proto_word (Some Mpls) = codes "mpls"
proto_word (Some Other) = codes "other"

-- `a.b.c.d/n`
unfoldable pub prefix_word : Prefix → List ℕ
prefix_word p =
    decimal (p.addr / 16777216)
    ++ codes "." ++ decimal (p.addr / 65536 % 256)
    ++ codes "." ++ decimal (p.addr / 256 % 256)
    ++ codes "." ++ decimal (p.addr % 256)
    ++ codes "/" ++ decimal p.bits

abbrev pub prefix_or_any_word : Option Prefix → List ℕ
prefix_or_any_word None = codes "any"
prefix_or_any_word (Some p) = prefix_word p

abbrev pub pipe_word : PipeChoice → List ℕ
pipe_word (pipes.Fixed n) = decimal n
pipe_word pipes.Vlan = codes "vlan"
pipe_word pipes.Host = codes "host"

-- `dscp`, or `fixed C Q COLOUR`
abbrev pub code_words : CodeChoice → Words
code_words choices.Dscp = codes "dscp" ∷ []
code_words (choices.Fixed e) = codes "fixed" ∷ entry_words e

-- the name of a meter
abbrev pub name_of_meter : List MeterPlan → ℕ → List ℕ
name_of_meter meters n = option_map_or (λ m. m.name) (slice_get meters n) []

-- a rule without a meter has no such key
abbrev pub meter_keys : List MeterPlan → Option ℕ → List Key
meter_keys meters None = []
meter_keys meters (Some n) = word (codes "meter" ∷ []) (name_of_meter meters n) ∷ []

-- what a rule tests
abbrev pub test_keys : RulePlan → List Key
test_keys r =
    word (codes "input" ∷ []) (input_word r.input)
    ∷ word (codes "vlan" ∷ []) (vlan_word r.vlan)
    ∷ word (codes "proto" ∷ []) (proto_word r.proto)
    ∷ word (codes "src" ∷ []) (prefix_or_any_word r.src)
    ∷ word (codes "dst" ∷ []) (prefix_or_any_word r.dst)
    ∷ []

-- the port, the subport and the pipe that a rule names
abbrev pub target_keys : RulePlan → List Key
target_keys r =
    number (codes "port" ∷ []) r.port
    ∷ number (codes "subport" ∷ []) r.subport
    ∷ word (codes "pipe" ∷ []) (pipe_word r.pipe)
    ∷ []

-- `[rule N]`
unfoldable pub rule_block : List MeterPlan → RulePlan → Block
rule_block meters r =
    record {
      head = codes "rule" ∷ decimal r.number ∷ [];
      keys =
          test_keys r
          ++ target_keys r
          ++ record { words = codes "code" ∷ []; value = code_words r.code }
          ∷ meter_keys meters r.meter;
    }

-- all sections
abbrev pub blocks_of : Plan → List Block
blocks_of p =
    pool_block p.pool
    ∷ each port_block p.ports
    ++ map subport_kind_block p.subport_kinds
    ++ map pipe_kind_block p.pipe_kinds
    ++ subport_blocks 0 p.ports
    ++ codes_block p.codes
    ∷ map meter_block p.meters
    ++ map (rule_block p.meters) p.rules

-- the text of a profile
abbrev pub text_of : Plan → List ℕ
text_of p = flat_map block_text (blocks_of p)
