-- A profile as contracts see it, and all its limits.
use Rattle.std.specs.Prelude.{◌≡◌, ◌==◌, ℕ, ◌+◌, ◌*◌, ◌<◌, ◌≤◌, Bool, true, not, ◌&&◌, List, [], ◌∷◌, length, map, sum, find, slice_get, slice_index, All, Option, IsSome, IfSome}
use Rattle.std.specs.List.{sum_by, list_all}
use Rattle.std.specs.List.Sorted.{IsStrictlyIncreasing}
use Rattle.std.specs.Option.{option_map, option_and_then}
use Rattle.std.specs.Str.{bytes_eq}
use Rattle.code_table.specs.declared.entry.Entry.{Entry}
use Rattle.code_table.specs.Entry.{IsValid}
use Rattle.qos_base.specs.Time.{IsLineRate}
use Rattle.profile_plan.specs.Limits.{Within, IsPool, IsSpan, IsShaping, IsPipeKind, IsMeter, IsVlan, IsPrefix, IsCode}
use Rattle.profile_plan.specs.declared.limits.TheConstants.{MAX_MTU, MAX_QUEUE, MAX_QUEUED, MAX_SUBPORT_PIPES, MAX_PIPES, MAX_METERS}
use Rattle.profile_plan.specs.declared.port.PoolPlan.{PoolPlan}
use Rattle.profile_plan.specs.declared.port.PortPlan.{PortPlan}
use Rattle.profile_plan.specs.declared.port.SubportPlan.{SubportPlan}
use Rattle.profile_plan.specs.declared.shaping.Shaping.{Shaping}
use Rattle.profile_plan.specs.declared.shaping.PipeKind.{PipeKind}
use Rattle.profile_plan.specs.declared.meter.MeterPlan.{MeterPlan}
use Rattle.profile_plan.specs.declared.rule.RulePlan.{RulePlan}
use Rattle.profile_plan.specs.declared.rule.PipeChoice.{PipeChoice}
use Rattle.profile_plan.specs.declared.rule.PipeChoice.TheVariants.{Fixed, Vlan, Host}

-- the parts of a profile
pub record Plan : Type 0 where
  pub pool : PoolPlan
  pub ports : List PortPlan
  pub subport_kinds : List (ℕ × Shaping)
  pub pipe_kinds : List PipeKind
  pub codes : List Entry
  pub meters : List MeterPlan
  pub rules : List RulePlan
  pub skipped : List ℕ

-- the subport profile of a number, if there is one
abbrev pub subport_kind_of : List (ℕ × Shaping) → ℕ → Option Shaping
subport_kind_of kinds number = option_map (λ kind. kind.1) (find (λ kind. kind.0 == number) kinds)

-- the pipe profile of a number, if there is one
abbrev pub pipe_kind_of : List PipeKind → ℕ → Option PipeKind
pipe_kind_of kinds number = find (λ kind. kind.number == number) kinds

-- the subport of a port, if there is one
abbrev pub subport_of : List PortPlan → ℕ → ℕ → Option SubportPlan
subport_of ports port subport = option_and_then (λ p. slice_get p.subports subport) (slice_get ports port)

-- the packets that a pipe's sixteen queues hold together: the last size is that of four queues
abbrev pub pipe_room : List ℕ → ℕ
pipe_room sizes = sum sizes + 3 * slice_index sizes 12

-- the packets that all queues of a subport hold
abbrev pub subport_room : SubportPlan → ℕ
subport_room s = length s.pipes * pipe_room s.sizes

-- the packets that all queues hold
abbrev pub queue_total : List PortPlan → ℕ
queue_total ports = sum_by (λ port. sum_by subport_room port.subports) ports

-- how many pipes there are
abbrev pub pipe_total : List PortPlan → ℕ
pipe_total ports = sum_by (λ port. sum_by (λ s. length s.pipes) port.subports) ports

-- a subport: its profile and those of its pipes are there
pub record IsSubport (subport_kinds : List (ℕ × Shaping)) (pipe_kinds : List PipeKind) (s : SubportPlan) : Type 0 where
  pub kind : IsSome (subport_kind_of subport_kinds s.kind)
  pub sizes : All (λ n. n ≤ MAX_QUEUE) s.sizes
  pub pipes : Within 1 MAX_SUBPORT_PIPES (length s.pipes)
  pub each_pipe : All (λ n. IsSome (pipe_kind_of pipe_kinds n)) s.pipes

-- a port and its subports
pub record IsPort (subport_kinds : List (ℕ × Shaping)) (pipe_kinds : List PipeKind) (p : PortPlan) : Type 0 where
  pub line : IsLineRate p.line
  pub overhead : p.overhead ≤ 255
  pub mtu : Within 60 MAX_MTU p.mtu
  pub burst : Within 1 256 p.burst
  pub quantum : Within 1 1000000000 p.quantum
  pub drain : IsSpan p.drain
  pub subports : Within 1 8 (length p.subports)
  pub each : All (IsSubport subport_kinds pipe_kinds) p.subports

-- a pipe that a rule names is below the pipes of its subport
abbrev pub IsBelow : PipeChoice → ℕ → Type 0
IsBelow (Fixed pipe) pipes = pipe < pipes
IsBelow Vlan pipes = Unit {0}
IsBelow Host pipes = Unit {0}

-- a rule: its port, subport, pipe and meter are there
pub record IsRule (ports : List PortPlan) (meters : List MeterPlan) (r : RulePlan) : Type 0 where
  pub number : r.number ≤ 255
  pub input : IfSome r.input (λ n. n ≤ 15)
  pub vlan : IsVlan r.vlan
  pub src : IfSome r.src IsPrefix
  pub dst : IfSome r.dst IsPrefix
  pub subport : IsSome (subport_of ports r.port r.subport)
  pub pipe : IfSome (subport_of ports r.port r.subport) (λ s. IsBelow r.pipe (length s.pipes))
  pub code : IsCode r.code
  pub meter : IfSome r.meter (λ n. n < length meters)

-- no two meters have one name
abbrev pub have_names_apart : List MeterPlan → Bool
have_names_apart [] = true
have_names_apart (m ∷ ms) = list_all (λ other. not (bytes_eq m.name other.name)) ms && have_names_apart ms

-- all limits of a profile
pub record KeepsLimits (p : Plan) : Type 0 where
  pub pool : IsPool p.pool
  pub ports : Within 1 16 (length p.ports)
  pub each_port : All (IsPort p.subport_kinds p.pipe_kinds) p.ports
  pub pipes : pipe_total p.ports ≤ MAX_PIPES
  pub queues : queue_total p.ports ≤ MAX_QUEUED
  pub subport_kinds : All (λ kind. (kind.0 ≤ 63) × IsShaping kind.1) p.subport_kinds
  pub subport_kinds_order : IsStrictlyIncreasing (map (λ kind. kind.0) p.subport_kinds)
  pub pipe_kinds : All IsPipeKind p.pipe_kinds
  pub pipe_kinds_order : IsStrictlyIncreasing (map (λ kind. kind.number) p.pipe_kinds)
  pub codes : All IsValid p.codes
  pub code_count : length p.codes ≡ 64
  pub meters : All IsMeter p.meters
  pub meter_count : length p.meters ≤ MAX_METERS
  pub meter_names : have_names_apart p.meters ≡ true
  pub rules : All (IsRule p.ports p.meters) p.rules
  pub rules_order : IsStrictlyIncreasing (map (λ rule. rule.number) p.rules)
