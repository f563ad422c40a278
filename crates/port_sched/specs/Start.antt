-- How a port of a profile starts: time 0, every queue empty.
use Rattle.std.specs.Prelude.{ℕ, ◌+◌, List, map, filter_map, slice_get, Option}
use Rattle.std.specs.Option.{option_map}
use Rattle.profile_plan.specs.declared.port.PortPlan.{PortPlan}
use Rattle.profile_plan.specs.declared.port.SubportPlan.{SubportPlan}
use Rattle.profile_plan.specs.declared.shaping.Shaping.{Shaping}
use Rattle.profile_plan.specs.declared.shaping.PipeKind.{PipeKind}
use Rattle.profile_plan.specs.declared.shaping.Whole.{Whole}
use Rattle.profile_plan.specs.Whole.{whole_of}
use Rattle.profile_plan.specs.Profile.{Plan, subport_kind_of, pipe_kind_of}
use Rattle.port_sched.specs.Level.{level_start}
use Rattle.port_sched.specs.Pipe.{pipe_start}
use Rattle.port_sched.specs.Shares.{is_oversubscribed, watermark_start}
use Rattle.port_sched.specs.Subport.{Subport}
use Rattle.port_sched.specs.Port.{Port}

-- the kinds of a subport's pipes, in order
abbrev pub kinds_of : Plan → SubportPlan → List PipeKind
kinds_of profile s = filter_map (pipe_kind_of profile.pipe_kinds) s.pipes

-- their whole-period numbers on a line of this rate
abbrev pub plans_of : Plan → ℕ → SubportPlan → List Whole
plans_of profile line s = map (λ kind. whole_of kind.shaping line) (kinds_of profile s)

module _ {T : Type 0} where
  -- a subport of this shaping at a port
  abbrev pub subport_with : Plan → PortPlan → SubportPlan → Shaping → Subport T
  subport_with profile port s shaping =
      let plan = whole_of shaping port.line in
      record {
        level = level_start plan;
        oversub = s.oversub;
        oversubscribed = is_oversubscribed plan (plans_of profile port.line s);
        watermark = watermark_start (port.mtu + port.overhead) plan (plans_of profile port.line s);
        period = 0;
        cursor = 0;
        pipes = map (pipe_start port.line s.sizes) (kinds_of profile s);
      }

  abbrev pub subport_start : Plan → PortPlan → SubportPlan → Option (Subport T)
  subport_start profile port s = option_map (subport_with profile port s) (subport_kind_of profile.subport_kinds s.kind)

  -- a port of a profile at its start
  abbrev pub start_at : Plan → PortPlan → Port T
  start_at profile port = record {
    overhead = port.overhead;
    mtu = port.mtu;
    time = 0;
    ticked = 0;
    cursor = 0;
    subports = filter_map (subport_start profile port) port.subports;
  }

  -- the start of the port of a number, if the profile has it
  abbrev pub port_start : Plan → ℕ → Option (Port T)
  port_start profile port = option_map (start_at profile) (slice_get profile.ports port)
