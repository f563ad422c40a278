-- What a sender promises of its output.
use Rattle.std.specs.Prelude.{◌≡◌, ℕ, List, Option, None, Some, IsSome, IfSome, MatchOption}
use Rattle.qos_base.specs.declared.packet.Pkt.{Pkt}
use Rattle.qos_base.specs.declared.packet.Departure.{Departure}
use Rattle.qos_io.specs.declared.sink.Sink.{Ghosts}
use Rattle.qos_io.specs.declared.sink.PutFault.TheVariants.{Failed}
use Rattle.port_sched.specs.Parcels.{seen_send}
use Rattle.pkt_slots.specs.declared.mbuf.Mbuf.{Mbuf}
use Rattle.pkt_slots.specs.Mbuf.{packet_in}
use Rattle.port_egress.specs.declared.send.Sender.{Sender}
use Rattle.port_egress.specs.declared.stamps.Stamps.{Stamps}
use Rattle.port_egress.specs.Output.{Target, IsWhole, IsCut}

-- the name of the file that a sink writes, if there is a sink and it has one
abbrev pub name_in : {K : Type 0} → (K → Option (List ℕ)) → Option K → Option (List ℕ)
name_in name None = None
name_in name (Some k) = name k

-- a send, of which only the packet is looked at
abbrev pub seen : Departure Mbuf → Departure Pkt
seen d = seen_send packet_in d

-- how sends with these stamps are written
abbrev pub target_by : Stamps → (Pkt → List ℕ) → Target
target_by stamps body = record { origin = stamps.origin; line = stamps.line; body = body }

-- how a sender's sends are written
abbrev pub target_of : {K : Type 0} → Sender K → (Pkt → List ℕ) → Target
target_of s body = target_by s.stamps body

-- a sender with this sink, if there is one, which has put nothing
abbrev pub unbegun : {K : Type 0} → Option K → Stamps → Sender K
unbegun sink stamps = record { sink = sink; stamps = stamps; sent = 0; unwritten = 0; fault = None }

module _ {K : Type 0} (G : Ghosts K) where
  -- Its output stands where these sends have brought it, where these are the bodies of packets: a
  -- sink that tells what it holds has all of it, or was cut.
  pub record HasWritten (body : Pkt → List ℕ) (sends : List (Departure Pkt)) (s : Sender K) : Type 0 where
    pub told : (k : K) (text : List ℕ) → s.sink ≡ Some k → G.contents k ≡ Some text
        → MatchOption s.fault (IsWhole (target_of s body) sends s.sent text) (λ _. IsCut (target_of s body) sends s.sent text)
    -- nothing is written where there is no sink
    pub none : s.sink ≡ None → (s.sent ≡ 0) × IsSome s.fault

  -- no put has failed, and none will
  pub record IsFine (s : Sender K) : Type 0 where
    pub there : IsSome s.sink
    pub sure : IfSome s.sink G.IsSure
    pub none_failed : s.fault ≡ Some Failed → ⊥

  -- its sink tells what it holds, if there is one
  abbrev pub IsTold : Sender K → Type 0
  IsTold s = IfSome s.sink (λ k. IsSome (G.contents k))

  -- what no call of it changes
  pub record StaysSender (before after : Sender K) : Type 0 where
    pub stamps : after.stamps ≡ before.stamps
    pub name : name_in G.name after.sink ≡ name_in G.name before.sink
    pub there : IsSome before.sink → IsSome after.sink
    pub none : before.sink ≡ None → after.sink ≡ None
    pub told : IsTold before → IsTold after
    pub fine : IsFine before → IsFine after
