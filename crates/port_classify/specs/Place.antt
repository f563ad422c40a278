-- Where a frame of an input goes: which rules match it, and the place that a rule gives it.
use Rattle.std.specs.Prelude.{◌==◌, ℕ, ◌-◌, ◌/◌, ◌%◌, ◌^◌, ◌<◌, Bool, true, false, ◌&&◌, nat_lt, if◌then◌else◌, List, length, find, slice_get, Option, None, Some, is_none, is_some, IsSome, IfSome}
use Rattle.std.specs.Option.{option_map, option_map_or, option_and_then}
use Rattle.code_table.specs.Entry.{queue_number_of}
use Rattle.code_table.specs.declared.entry.Entry.{Entry}
use Rattle.profile_plan.specs.Profile.{Plan, subport_of}
use Rattle.profile_plan.specs.declared.rule.Proto.{Proto}
use Rattle.profile_plan.specs.declared.rule.Proto.TheVariants.{Ipv4, Ipv6, Mpls, Other}
use Rattle.profile_plan.specs.declared.rule.VlanTest.{VlanTest}
use Rattle.profile_plan.specs.declared.rule.VlanTest.TheVariants.{Any, Untagged, Id}
use Rattle.profile_plan.specs.declared.rule.Prefix.{Prefix}
use Rattle.profile_plan.specs.declared.rule.PipeChoice.{PipeChoice}
use Rattle.profile_plan.specs.declared.rule.PipeChoice.TheVariants as pipes
use Rattle.profile_plan.specs.declared.rule.CodeChoice.{CodeChoice}
use Rattle.profile_plan.specs.declared.rule.CodeChoice.TheVariants as codes
use Rattle.profile_plan.specs.declared.rule.RulePlan.{RulePlan}
use Rattle.port_classify.specs.declared.frame.Frame.{Frame}
use Rattle.port_classify.specs.declared.destination.Place.{Place}

-- a condition that is None asks nothing
abbrev pub passes : {X : Type 0} → (X → Bool) → Option X → Bool
passes test condition = option_map_or test condition true

abbrev pub is_same : Proto → Proto → Bool
is_same Ipv4 Ipv4 = true
is_same Ipv6 Ipv6 = true
is_same Mpls Mpls = true
is_same Other Other = true
is_same _ _ = false

-- the outer VLAN: any, no tag, or a tag of this id
abbrev pub vlan_passes : VlanTest → Option ℕ → Bool
vlan_passes Any vlan = true
vlan_passes Untagged vlan = is_none vlan
vlan_passes (Id id) vlan = option_map_or (λ v. v == id) vlan false

-- the first bits of an address are those of the prefix
abbrev pub begins_with : Prefix → ℕ → Bool
begins_with prefix address = address / 2 ^ (32 - prefix.bits) == prefix.addr / 2 ^ (32 - prefix.bits)

-- an IPv4 address has this prefix; no other protocol has one
abbrev pub address_passes : Proto → ℕ → Prefix → Bool
address_passes proto address prefix = is_same proto Ipv4 && begins_with prefix address

-- the pipes of a rule's subport
abbrev pub pipes_of : Plan → RulePlan → ℕ
pipes_of p r = option_map_or (λ s. length s.pipes) (subport_of p.ports r.port r.subport) 0

-- a number, if it is below the number of pipes
abbrev pub below : ℕ → ℕ → Option ℕ
below count pipe = if nat_lt pipe count then Some pipe else None

-- the pipe that a choice gives a frame, if it is there: the one named, the outer VLAN id, or the low twelve bits of the
-- IPv4 destination
abbrev pub pipe_by : PipeChoice → ℕ → Frame → Option ℕ
pipe_by (pipes.Fixed pipe) count f = Some pipe
pipe_by pipes.Vlan count f = option_and_then (below count) f.vlan
pipe_by pipes.Host count f = if is_same f.proto Ipv4 then below count (f.dst % 4096) else None

-- a frame of an input meets the conditions that a rule names
abbrev pub meets : ℕ → Frame → RulePlan → Bool
meets input f r =
    passes (λ n. n == input) r.input
    && vlan_passes r.vlan f.vlan
    && passes (is_same f.proto) r.proto
    && passes (address_passes f.proto f.src) r.src
    && passes (address_passes f.proto f.dst) r.dst

-- a rule matches a frame of an input that meets its conditions, where the pipe that it gives the frame is there
abbrev pub matches : Plan → ℕ → Frame → RulePlan → Bool
matches p input f r = meets input f r && is_some (pipe_by r.pipe (pipes_of p r) f)

-- class, queue and colour: the entry of the frame's code point, or the rule's own
abbrev pub entry_by : CodeChoice → List Entry → ℕ → Option Entry
entry_by codes.Dscp table code = slice_get table code
entry_by (codes.Fixed entry) table code = Some entry

-- the place in a pipe that a rule gives with an entry
abbrev pub place_with : RulePlan → ℕ → Entry → Place
place_with r pipe entry = record {
  port = r.port;
  subport = r.subport;
  pipe = pipe;
  queue = queue_number_of entry;
  pre = entry.colour;
  meter = r.meter;
}

-- the place that a rule gives a frame
abbrev pub place_by : Plan → Frame → RulePlan → Option Place
place_by p f r =
    option_and_then (λ pipe. option_map (place_with r pipe) (entry_by r.code p.codes f.dscp))
    (pipe_by r.pipe (pipes_of p r) f)

-- The place of a frame: that of the first rule that matches. Rules stand in order of their numbers.
abbrev pub place_of : Plan → ℕ → Frame → Option Place
place_of p input f = option_and_then (place_by p f) (find (matches p input f) p.rules)

-- a place that a profile has
pub record IsPlaceIn (p : Plan) (place : Place) : Type 0 where
  pub port : place.port < length p.ports
  pub subport : IsSome (subport_of p.ports place.port place.subport)
  pub pipe : IfSome (subport_of p.ports place.port place.subport) (λ s. place.pipe < length s.pipes)
  pub queue : place.queue < 16
  pub meter : IfSome place.meter (λ m. m < length p.meters)
