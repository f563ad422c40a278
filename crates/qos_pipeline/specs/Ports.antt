-- All ports of a profile, each with its egress.
use Rattle.std.specs.Prelude.{◌≡◌, ℕ, List, length, map, Some, slice_get}
use Rattle.qos_base.specs.declared.packet.Pkt.{Pkt}
use Rattle.qos_io.specs.declared.sink.Sink.{Ghosts}
use Rattle.profile_plan.specs.declared.port.PortPlan.{PortPlan}
use Rattle.profile_plan.specs.Profile.{Plan}
use Rattle.qos_pcap.specs.Format.{Record}
use Rattle.pkt_receive.specs.Fate.{body_at}
use Rattle.run_journal.specs.declared.entry.Entry.{Entry}
use Rattle.port_egress.specs.declared.egress.Egress.{Egress}
use Rattle.port_egress.specs.Run.{Setup}
use Rattle.port_egress.specs.Sender.{StaysSender}
use Rattle.port_egress.specs.Egress.{Carries}

abbrev pub setup_of : Plan → ℕ → PortPlan → Setup
setup_of p origin plan = record { profile = p; plan = plan; origin = origin }

-- what was captured of each packet of an input with these records
abbrev pub bodies_of : List Record → Pkt → List ℕ
bodies_of records packet = body_at records packet.index

module _ {K : Type 0} {G : Ghosts K} where
  abbrev pub journals_of : List (Egress K G) → List (List Entry)
  journals_of egresses = map (λ e. e.port.journal) egresses

  -- there is an egress for each port of a profile, and this is so of each, by the port's number
  pub record AtPorts (p : Plan) (origin : ℕ) (P : ℕ → Setup → Egress K G → Type 0) (egresses : List (Egress K G)) : Type 0 where
    pub count : length egresses ≡ length p.ports
    pub each : (n : ℕ) (plan : PortPlan) (e : Egress K G) → slice_get p.ports n ≡ Some plan → slice_get egresses n ≡ Some e
        → P n (setup_of p origin plan) e

-- all carry these bodies
abbrev pub AllCarry : {K : Type 0} (G : Ghosts K) → (Pkt → List ℕ) → List (Egress K G) → Type 0
AllCarry {K = K} G body egresses = (n : ℕ) (e : Egress K G) → slice_get egresses n ≡ Some e → Carries G body e

-- what no run changes of their senders
pub record SendersStay {K : Type 0} (G : Ghosts K) (before after : List (Egress K G)) : Type 0 where
  pub count : length after ≡ length before
  pub each : (n : ℕ) (e f : Egress K G) → slice_get before n ≡ Some e → slice_get after n ≡ Some f → StaysSender G e.sender f.sender
