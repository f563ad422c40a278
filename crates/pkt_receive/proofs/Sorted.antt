-- What was received of a record, by what became of it.
use Rattle.std.proofs.Common.{◌≡◌, ℕ, ◌+◌, ◌<◌, ◌≤◌, List, [], ◌∷◌, ◌++◌, length, take, Option, None, Some, Result, Ok, Err, subst, sym, ap, ◌∙◌, append-nil, arith, length-append}
use Rattle.std.specs.Option.{option_map_or}
use Rattle.std.specs.Result.{IfOk, IsErrAnd, MatchResult}
use Rattle.std.proofs.lemmas.Bool.{lt-ltb}
use Rattle.std.proofs.lemmas.List.{length-map}
use Rattle.qos_base.specs.declared.packet.Colour.{Colour}
use Rattle.qos_base.specs.declared.packet.Pkt.{Pkt}
use Rattle.qos_base.specs.declared.reason.Reason.{Reason}
use Rattle.qos_base.specs.declared.reason.Reason.TheVariants.{TooLong}
use Rattle.qos_pcap.specs.declared.head.Head.{Head}
use Rattle.qos_pcap.specs.Format.{Record}
use Rattle.qos_pcap.specs.Heads.{recorded}
use Rattle.profile_plan.specs.Profile.{Plan}
use Rattle.port_classify.specs.declared.destination.Place.{Place}
use Rattle.meter_table.specs.declared.mark.Mark.{Mark}
use Rattle.meter_table.specs.Asked.{request_in}
use Rattle.pkt_slots.specs.declared.mbuf.Mbuf.{Mbuf}
use Rattle.pkt_receive.specs.declared.fate.Fate.{Fate}
use Rattle.pkt_receive.specs.declared.fate.Fate.TheVariants.{Admitted, Lost}
use Rattle.pkt_receive.specs.declared.classify.Classified.{Classified}
use Rattle.pkt_receive.specs.declared.marker.Marker.{Marker}
use Rattle.pkt_receive.specs.declared.receive.Received.{Received}
use Rattle.pkt_receive.specs.declared.receive.Received.TheVariants.{Admitted as Packet, Lost as Gone}
use Rattle.pkt_receive.specs.Classes.{class_of}
use Rattle.pkt_receive.specs.Fate.{fate_by, packet_if, packet_of}
use Rattle.pkt_receive.specs.Marks.{IsFateOf, asked_by, request_of, requests_by}
use Rattle.pkt_receive.specs.Receiver.{IsReceived, IsSorted}

-- what became of a record whose body is the front of some bytes
pub fate-of-bytes : (p : Plan) (origin input : ℕ) (head : Head) (held bytes : List ℕ) (made : List Mark) (fate : Fate)
    → held ≡ bytes → IsFateOf p origin input head.index (recorded head (take head.cap held)) made fate
    → IsFateOf p origin input head.index (recorded head (take head.cap bytes)) made fate
fate-of-bytes p origin input head held bytes made fate same is =
    subst (λ (b : List ℕ). IsFateOf p origin input head.index (recorded head (take head.cap b)) made fate) same is

pub received-lost : (p : Plan) (origin input index : ℕ) (r : Record) (made : List Mark) (fate : Fate) (reason : Reason)
    → fate ≡ Lost reason → IsFateOf p origin input index r made fate
    → IsReceived p origin input index r made (Gone reason)
received-lost p origin input index r made fate reason lost is = record {
  asked = is.asked;
  record_is = λ colours agrees. is.fate_is colours agrees ∙ lost;
}

pub received-packet : (p : Plan) (origin input index : ℕ) (r : Record) (made : List Mark) (fate : Fate)
    → (place : Place) (colour : Colour) (m : Mbuf)
    → fate ≡ Admitted place colour → m.pkt ≡ packet_of input index r place colour → take r.cap m.bytes.items ≡ r.body
    → IsFateOf p origin input index r made fate → IsReceived p origin input index r made (Packet m)
received-packet p origin input index r made fate place colour m admitted packet body is = record {
  asked = is.asked;
  record_is = λ colours agrees. (
    ap (packet_if input index r) (is.fate_is colours agrees ∙ admitted)
        ∙ ap (λ (packet : Pkt). packet ∷ []) (sym packet),
    ap (λ (packet : Pkt). take packet.cap m.bytes.items) packet ∙ body,
  );
}

-- one of which more was captured than a slot holds, for which no meter is asked
pub received-long : (p : Plan) (origin input index : ℕ) (r : Record)
    → p.pool.slot_bytes < r.cap → IsReceived p origin input index r [] (Gone TooLong)
received-long p origin input index r long =
    let is : class_of p input r ≡ Err TooLong = rw (lt-ltb p.pool.slot_bytes r.cap long) in
    record {
      asked = sym (ap (requests_by origin input index r) is);
      record_is = λ colours agrees. ap (fate_by p (λ meter. colours meter input index)) is;
    }

-- what was received of a record, where a marker was `before` and is `after`, as a pair
abbrev pub IsMade : Plan → Marker → Marker → ℕ → ℕ → Record → Received → Type 0
IsMade p before after input index r received =
    (made : List Mark) × (after.marks.items ≡ before.marks.items ++ made)
    × IsReceived p before.origin input index r made received

pub sorted : (p : Plan) (before after : Marker) (input index : ℕ) (r : Record) (received : Received)
    → IsMade p before after input index r received → IsSorted p before after input index r received
sorted p before after input index r received is = record { made = is.0; marks = is.1; is = is.2 }

pub sorted-long : (p : Plan) (marker : Marker) (input index : ℕ) (r : Record)
    → p.pool.slot_bytes < r.cap → IsSorted p marker marker input index r (Gone TooLong)
sorted-long p marker input index r long = record {
  made = [];
  marks = sym (append-nil marker.marks.items);
  is = received-long p marker.origin input index r long;
}

-- a record asks one meter at most
asked-meter : (origin input index stamp : ℕ) (class : Classified) (meter : Option ℕ)
    → length (option_map_or (λ m. request_of origin input index stamp class m ∷ []) meter []) ≤ 1
asked-meter origin input index stamp class None = omega arith
asked-meter origin input index stamp class (Some m) = omega arith

asked-class : (origin input index : ℕ) (r : Record) (class : Result Classified Reason)
    → length (requests_by origin input index r class) ≤ 1
asked-class origin input index r (Err reason) = omega arith
asked-class origin input index r (Ok class) = asked-meter origin input index r.stamp class class.place.meter

-- so one mark is made for it at most
pub made-few : (p : Plan) (before after : Marker) (input index : ℕ) (r : Record) (received : Received)
    → IsMade p before after input index r received → length after.marks.items ≤ length before.marks.items + 1
made-few p before after input index r received is =
    let asked = asked_by p before.origin input index r in
    let few : length asked ≤ 1 = asked-class before.origin input index r (class_of p input r) in
    let same : length is.0 ≡ length asked = sym (length-map is.0 request_in) ∙ ap length is.2.asked in
    omega (arith, few, same, ap length is.1, length-append before.marks.items is.0)

-- what holds of an Ok holds of it under another error
pub if-ok : {T E F : Type 0} {P Q : T → Type 0} (R : E → F → Type 0) (before : Result T E) (after : Result T F)
    → MatchResult before (λ x. after ≡ Ok x) (λ e. IsErrAnd after (R e)) → IfOk before P → ((x : T) → P x → Q x)
    → IfOk after Q
if-ok R (Ok x) after is holds then = rw is (then x holds)
if-ok R (Err e) (Ok y) is holds then = absurd is
if-ok R (Err e) (Err f) is holds then = tt
