-- The place of a packet in a profile.
use Rattle.std.specs.Prelude.{ℕ, ◌<◌, ◌≤◌, length, slice_get, IsSome, IfSome}
use Rattle.std.specs.Option.{option_map_or}
use Rattle.qos_base.specs.declared.packet.Pkt.{Pkt}
use Rattle.profile_plan.specs.Profile.{Plan, subport_of}

-- the longest frame of the port of a number, in bytes
abbrev pub mtu_at : Plan → ℕ → ℕ
mtu_at p port = option_map_or (λ plan. plan.mtu) (slice_get p.ports port) 0

-- a packet has a place in a profile: its port, subport, pipe and queue are there, and it is no longer than the port's longest frame
pub record IsPlaced (p : Plan) (packet : Pkt) : Type 0 where
  pub port : packet.port < length p.ports
  pub subport : IsSome (subport_of p.ports packet.port packet.subport)
  pub pipe : IfSome (subport_of p.ports packet.port packet.subport) (λ s. packet.pipe < length s.pipes)
  pub queue : packet.queue < 16
  pub short : packet.wire ≤ mtu_at p packet.port
