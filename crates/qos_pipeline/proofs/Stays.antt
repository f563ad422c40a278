-- What stays from one call to the next.
use Rattle.std.proofs.Common.{List, refl, sym, ap, ◌∙◌, subst}
use Rattle.qos_io.specs.declared.sink.Sink.{Ghosts as Sinks}
use Rattle.qos_io.specs.declared.source.Source.{Ghosts as Sources}
use Rattle.pkt_receive.specs.declared.receive.Receiver.{Receiver}
use Rattle.pkt_receive.specs.declared.marker.Marker.{Marker}
use Rattle.pkt_receive.specs.Marks.{StaysMarker}
use Rattle.pkt_receive.specs.Receiver.{StaysReceiver}
use Rattle.port_egress.specs.declared.egress.Egress.{Egress}
use Rattle.port_egress.specs.declared.send.Sender.{Sender}
use Rattle.port_egress.specs.Sender.{StaysSender}
use Rattle.qos_pipeline.specs.Ports.{SendersStay}
use Rattle.qos_pipeline.proofs.Changed.{some-same, there-too}

module _ {S : Type 0} (F : Sources S) where
  pub StaysReceiver-none : (rx : Receiver S F) → StaysReceiver F rx rx
  StaysReceiver-none rx = record { input = refl; origin = refl; fine = λ fine. fine; opened = λ is. (is, refl); still = λ _. refl }

  pub StaysReceiver-then : (a b c : Receiver S F) → StaysReceiver F a b → StaysReceiver F b c → StaysReceiver F a c
  StaysReceiver-then a b c first second = record {
    input = second.input ∙ first.input;
    origin = second.origin ∙ first.origin;
    fine = λ fine. second.fine (first.fine fine);
    opened = λ is. let late = second.opened is in let early = first.opened late.0 in (early.0, late.1 ∙ early.1);
    still = λ none. let same = first.still none in second.still (ap (λ (x : Receiver S F). x.head) same ∙ none) ∙ same;
  }

pub StaysMarker-none : (m : Marker) → StaysMarker m m
StaysMarker-none m = record { table = refl; origin = refl; parts = λ meter. refl }

pub StaysMarker-then : (a b c : Marker) → StaysMarker a b → StaysMarker b c → StaysMarker a c
StaysMarker-then a b c first second = record {
  table = second.table ∙ first.table;
  origin = second.origin ∙ first.origin;
  parts = λ meter. second.parts meter ∙ first.parts meter;
}

module _ {K : Type 0} (G : Sinks K) where
  pub StaysSender-none : (a : Sender K) → StaysSender G a a
  StaysSender-none a = record { stamps = refl; name = refl; there = λ is. is; none = λ is. is; told = λ is. is; fine = λ fine. fine }

  StaysSender-then : (a b c : Sender K) → StaysSender G a b → StaysSender G b c → StaysSender G a c
  StaysSender-then a b c first second = record {
    stamps = second.stamps ∙ first.stamps;
    name = second.name ∙ first.name;
    there = λ is. second.there (first.there is);
    none = λ is. second.none (first.none is);
    told = λ is. second.told (first.told is);
    fine = λ fine. second.fine (first.fine fine);
  }

  pub SendersStay-none : (es : List (Egress K G)) → SendersStay G es es
  SendersStay-none es = record {
    count = refl;
    each = λ n e f was is.
        subst (λ (x : Egress K G). StaysSender G e.sender x.sender) (some-same (sym was ∙ is)) (StaysSender-none e.sender);
  }

  pub SendersStay-then : (es fs gs : List (Egress K G)) → SendersStay G es fs → SendersStay G fs gs → SendersStay G es gs
  SendersStay-then es fs gs first second = record {
    count = second.count ∙ first.count;
    each = λ n e g was is.
        let between = there-too fs gs n g second.count is in
        StaysSender-then e.sender between.0.sender g.sender (first.each n e between.0 was between.1)
        (second.each n between.0 g between.1 is);
  }
