-- What holds of a port of a profile at its start.
use Rattle.std.specs.Prelude.{◌≡◌, ℕ, [], length, All}
use Rattle.qos_base.specs.declared.packet.Pkt.{Pkt}
use Rattle.profile_plan.specs.declared.port.PortPlan.{PortPlan}
use Rattle.profile_plan.specs.Profile.{Plan, IsPort}
use Rattle.port_sched.specs.Port.{left_of}
use Rattle.port_sched.specs.Start.{start_at}
use Rattle.port_sched.specs.PortLaws.{seen_port}
use Rattle.port_sched.specs.Settings.{HasTokensWithin, IsPortWithin}

-- there is a size for each of the thirteen classes of every subport
abbrev pub HasAllSizes : PortPlan → Type 0
HasAllSizes port = All (λ s. length s.sizes ≡ 13) port.subports

module _ {T : Type 0} (packet : T → Pkt) where
  pub record StartLaws (profile : Plan) (port : PortPlan) : Type 0 where
    -- nothing waits
    pub none : left_of (start_at {T = T} profile port) ≡ []
    -- what will carry a packet has no part in it
    pub seen : seen_port packet (start_at profile port) ≡ start_at profile port
    -- a port that keeps its limits starts within its bounds
    pub within : IsPort profile.subport_kinds profile.pipe_kinds port → HasAllSizes port → IsPortWithin (start_at {T = T} profile port)
    pub tokens : (dearest : ℕ) → HasTokensWithin dearest (start_at {T = T} profile port)
