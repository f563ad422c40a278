use Rattle.port_egress.proofs.Words.{◌≡◌, ◌+◌, ◌++◌, ℕ, List, take, map, All, Departure, Pkt, Mbuf, IsBodyIn, seen, HasWritten}
use Rattle.port_egress.proofs.Words.{StaysSender}
use Rattle.port_egress.proofs.send.Sender.send_all.Given as goal

-- the first sends were written
abbrev pub invariant-loop-departure : goal.invariant-loop-departure
invariant-loop-departure g l = record {
  written : (body : Pkt → List ℕ) (before : List (Departure Pkt)) → All (λ (d : Departure Mbuf). IsBodyIn body d.parcel) l.sends
      → HasWritten g.K.Sink body before l.initial.self
      → HasWritten g.K.Sink body (before ++ map seen (take l.departure-index l.sends)) l.self;
  counted : l.self.sent + l.self.unwritten ≡ l.initial.self.sent + l.initial.self.unwritten + l.departure-index;
  stays : StaysSender g.K.Sink l.initial.self l.self;
}
