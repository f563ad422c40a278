-- One turn after another.
use Rattle.std.proofs.Common.{List, sym}
use Rattle.qos_io.specs.declared.sink.Sink.{Ghosts as Sinks}
use Rattle.qos_io.specs.declared.source.Source.{Ghosts as Sources}
use Rattle.profile_plan.specs.Profile.{Plan}
use Rattle.pkt_receive.specs.declared.marker.Marker.{Marker}
use Rattle.pkt_receive.specs.declared.receive.Receiver.{Receiver}
use Rattle.port_egress.specs.declared.egress.Egress.{Egress}
use Rattle.qos_pipeline.specs.Turns.{Goes, GoesOn, Halts}
use Rattle.qos_pipeline.proofs.Stays.{StaysMarker-none, StaysMarker-then, StaysReceiver-none, StaysReceiver-then}
use Rattle.qos_pipeline.proofs.Stays.{SendersStay-none, SendersStay-then}

module _ {S K : Type 0} {F : Sources S} {G : Sinks K} {p : Plan} where
  pub goes_on-none : {rx : Receiver S F} {m : Marker} {es : List (Egress K G)} → Goes p rx m es → GoesOn p rx rx m m es es
  goes_on-none {rx} {m} {es} goes = record {
    goes = goes;
    come = λ records stop come. come;
    carries = λ records stop come all. all;
    senders = SendersStay-none G es;
    input = StaysReceiver-none F rx;
    stays = StaysMarker-none m;
  }

  pub goes_on-then : {a b c : Receiver S F} {l m n : Marker} {es fs gs : List (Egress K G)} → GoesOn p a b l m es fs
      → GoesOn p b c m n fs gs → GoesOn p a c l n es gs
  goes_on-then {a} {b} {c} {l} {m} {n} {es} {fs} {gs} first second = record {
    goes = second.goes;
    come = λ records stop come. second.come records stop (first.come records stop come);
    carries = λ records stop come all.
        second.carries records stop (first.come records stop come) (first.carries records stop come all);
    senders = SendersStay-then G es fs gs first.senders second.senders;
    input = StaysReceiver-then F a b c first.input second.input;
    stays = StaysMarker-then l m n first.stays second.stays;
  }

  pub halts-then : {a b : Receiver S F} {l m : Marker} {es fs gs : List (Egress K G)} → GoesOn p a b l m es fs
      → Halts p b m.marks.items fs gs → Halts p a l.marks.items es gs
  halts-then {a} {b} {l} {m} {es} {fs} {gs} first last = record {
    halted = λ records stop come.
        let stopped = last.halted records stop (first.come records stop come) in
        rw (sym first.input.origin, sym first.input.input) stopped;
    carries = λ records stop come all.
        last.carries records stop (first.come records stop come) (first.carries records stop come all);
    senders = SendersStay-then G es fs gs first.senders last.senders;
  }
