use Rattle.std.proofs.Common.{◌≡◌, ℕ, List}
use Rattle.qos_base.specs.declared.packet.Pkt.{Pkt}
use Rattle.run_journal.specs.Advancing.{Advancing, steps_left}
use Rattle.port_egress.specs.Egress.{Carries}
use Rattle.port_egress.specs.Sender.{StaysSender}
use Rattle.port_egress.proofs.egress.Egress.advance.Given as goal

abbrev pub invariant-loop-now : goal.invariant-loop-now
invariant-loop-now g l = record {
  advancing : Advancing l.fn.self.port l.to l.self.port;
  carries : (body : Pkt → List ℕ) → Carries g.K.Sink body l.fn.self → Carries g.K.Sink body l.self;
  stays : StaysSender g.K.Sink l.fn.self.sender l.self.sender;
  slots : l.slots.slot_bytes ≡ l.fn.slots.slot_bytes;
}

abbrev pub decreases-loop-now : goal.decreases-loop-now
decreases-loop-now g l = steps_left l.to l.self.port
