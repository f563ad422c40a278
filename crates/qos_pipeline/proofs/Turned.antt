-- A turn of all ports.
use Rattle.std.proofs.Common.{◌≡◌, ◌≢◌, ℕ, ◌+◌, List, [], ◌∷◌, ◌++◌, length, Some, Result, Ok, Err}
use Rattle.std.proofs.Common.{refl, sym, ap, ◌∙◌, subst, arith, length-append, map, All}
use Rattle.std.specs.Prelude.{IsTrue}
use Rattle.std.specs.List.{slice_get, sum_by}
use Rattle.std.proofs.lemmas.List.{append-nil, map-append}
use Rattle.std.proofs.lemmas.List.Elements.{All-cons, All-head, All-nil, All-tail}
use Rattle.qos_base.specs.declared.memory.NoMemory.{NoMemory}
use Rattle.qos_base.specs.declared.packet.Pkt.{Pkt}
use Rattle.qos_base.specs.declared.reason.Reason.{Reason}
use Rattle.qos_io.specs.declared.sink.Sink.{Ghosts as Sinks}
use Rattle.qos_io.specs.declared.source.Source.{Ghosts as Sources}
use Rattle.qos_pcap.specs.declared.fault.Stop.{Stop}
use Rattle.qos_pcap.specs.Format.{Record}
use Rattle.profile_plan.specs.declared.port.PortPlan.{PortPlan}
use Rattle.profile_plan.specs.Profile.{Plan, KeepsLimits}
use Rattle.port_sched.specs.Port.{Port, has_place}
use Rattle.pkt_receive.specs.declared.losses.Losses.{Losses}
use Rattle.pkt_slots.specs.declared.mbuf.Mbuf.{Mbuf}
use Rattle.pkt_receive.specs.declared.receive.Received.TheVariants.{Admitted as Packet, Lost as Gone, Stopped as Nothing}
use Rattle.pkt_receive.specs.declared.receive.Receiver.{Receiver}
use Rattle.pkt_receive.specs.declared.marker.Marker.{Marker}
use Rattle.pkt_receive.specs.declared.receive.Received.{Received}
use Rattle.pkt_receive.specs.Classes.{IsLoss}
use Rattle.pkt_receive.specs.Colours.{Agrees, Colours, colours_by}
use Rattle.pkt_receive.specs.Fate.{admitted, fate_of, packet_if, to_port}
use Rattle.pkt_receive.specs.Laws.{MarksAgree}
use Rattle.pkt_receive.specs.Losses.{counted, losses_of, lost_total}
use Rattle.pkt_receive.specs.Marks.{IsMarking, StaysMarker, asked_by, asked_of}
use Rattle.pkt_receive.specs.Receiver.{Counted, Gives, IsReading, IsRecord, IsSorted, StaysReceiver, ToCome}
use Rattle.pkt_slots.specs.Mbuf.{IsBodyIn}
use Rattle.pkt_slots.specs.Placed.{IsPlaced}
use Rattle.meter_table.specs.Asked.{request_in}
use Rattle.run_journal.specs.Schedule.{arrivals_of}
use Rattle.port_egress.specs.declared.egress.Egress.{Egress}
use Rattle.port_egress.specs.Egress.{Carries, HasHalted, IsOpen, IsReady}
use Rattle.port_egress.specs.Run.{PlacesAreThere}
use Rattle.port_egress.specs.Sender.{StaysSender}
use Rattle.qos_pipeline.specs.Changes.{ChangesAt}
use Rattle.qos_pipeline.specs.Ports.{AllCarry, AtPorts, SendersStay, bodies_of, journals_of, setup_of}
use Rattle.qos_pipeline.specs.Took.{HasStopped, IsTaken}
use Rattle.qos_pipeline.specs.Turns.{Goes, GoesOn, Halts, HasComeTo, HasTaken, MayTake}
use Rattle.qos_pipeline.proofs.Changed.{there-too, at-least, changes-count, changes-from, changes-each, changes-all, changes-sum, sum-seen}
use Rattle.qos_pipeline.proofs.Given.{to_port-push, losses-push, to_port-here, to_port-other, counted-admitted, counted-lost, parts-push}
use Rattle.qos_pipeline.proofs.Given.{asked-push, body-next, packet-index}
use Rattle.qos_pipeline.proofs.Places.{from-map, map-there}
use Rattle.qos_pipeline.proofs.Halted.{Steps, halted-open}
use Rattle.qos_pipeline.proofs.Stays.{StaysSender-none, SendersStay-none}

-- how many packets arrived in an egress's journal
abbrev pub arrived : {K : Type 0} {G : Sinks K} → Egress K G → ℕ
arrived e = length (arrivals_of e.port.journal)

-- and in those of all
pub sum-arrived : {K : Type 0} {G : Sinks K} (es : List (Egress K G))
    → sum_by (λ journal. length (arrivals_of journal)) (journals_of es) ≡ sum_by (λ e. arrived e) es
sum-arrived {K = K} {G = G} es = sum-seen (λ (e : Egress K G). e.port.journal) (λ journal. length (arrivals_of journal)) es

-- what holds of each element of two lists together holds of each element of both
all-parts : {X : Type 0} (P : X → Type 0) (xs ys : List X) → All P (xs ++ ys) → All P xs × All P ys
all-parts P [] ys all = (All-nil P, all)
all-parts P (x ∷ xs) ys all =
    let rest = all-parts P xs ys (All-tail P x (xs ++ ys) all) in
    (All-cons P x xs (All-head P x (xs ++ ys) all) rest.0, rest.1)

-- what arrived at each port, by its egress and by its journal
module _ {S K : Type 0} {F : Sources S} {G : Sinks K} {p : Plan} {colours : Colours} {given : List Record} {rx : Receiver S F}
    (es : List (Egress K G)) where
  pub merge-at : IsTaken p colours given rx (journals_of es) → (n : ℕ) (e : Egress K G) → slice_get es n ≡ Some e
      → arrivals_of e.port.journal ≡ to_port n (admitted p colours rx.input given)
  merge-at taken n e is = taken.merge n e.port.journal (map-there (λ (e : Egress K G). e.port.journal) es n e is)

  pub taken-by : rx.losses ≡ losses_of p colours rx.input given
      → ((n : ℕ) (e : Egress K G) → slice_get es n ≡ Some e
      → arrivals_of e.port.journal ≡ to_port n (admitted p colours rx.input given))
      → IsTaken p colours given rx (journals_of es)
  taken-by losses merge = record {
    losses = losses;
    merge = λ n journal is.
        let e = from-map (λ (e : Egress K G). e.port.journal) es n journal is in ap arrivals_of (sym e.2) ∙ merge n e.0 e.1;
  }

-- what a turn has made of an input and of its marker, whatever was received
pub record HasTurned {S : Type 0} {F : Sources S} (p : Plan) (rx next : Receiver S F) (marker marked : Marker) : Type 0 where
  pub reading : IsReading F next
  pub marking : IsMarking p next.read marked
  pub input_stays : StaysReceiver F rx next
  pub marker_stays : StaysMarker marker marked

pub has-turned : {S : Type 0} {F : Sources S} {p : Plan} {rx next : Receiver S F} {marker marked : Marker} → IsReading F next
    → IsMarking p next.read marked → StaysReceiver F rx next → StaysMarker marker marked → HasTurned p rx next marker marked
has-turned reading marking input marker =
    record { reading = reading; marking = marking; input_stays = input; marker_stays = marker }

module _ {S K : Type 0} {F : Sources S} {G : Sinks K} {p : Plan} {rx next : Receiver S F} {marker marked : Marker}
    {es : List (Egress K G)} (goes : Goes p rx marker es) (turned : HasTurned p rx next marker marked) where
  -- the packet that was received may arrive at its port
  pub may-take : next.read ≡ rx.read + 1 → KeepsLimits p → PlacesAreThere p → (packet : Pkt) → IsPlaced p packet → (e : Egress K G)
      → slice_get es packet.port ≡ Some e → MayTake packet e
  may-take read limits places packet placed e is =
      let plan = there-too p.ports es packet.port e goes.opened.count is in
      let port = goes.opened.each packet.port plan.0 e plan.1 is in
      let start = port.0.serves.start in
      record {
        ready = port.1;
        place = subst (λ (x : Port Pkt). IsTrue (has_place packet x)) (sym start) (places packet plan.0 limits placed plan.1);
        few = omega (
          arith,
          goes.summed,
          turned.reading.few,
          read,
          sum-arrived es,
          at-least (λ (x : Egress K G). arrived x) es packet.port e is,
        );
      }

  origin-stays : marked.origin ≡ next.origin
  origin-stays = turned.marker_stays.origin ∙ goes.origin ∙ sym turned.input_stays.origin

  -- a turn in which nothing arrived
  goes-on : next.read + lost_total rx.losses ≡ rx.read + lost_total next.losses → Goes p next marked es
  goes-on summed = record {
    reading = turned.reading;
    marking = turned.marking;
    origin = origin-stays;
    opened = record {
      count = goes.opened.count;
      each = λ n plan e port is. rw turned.input_stays.origin (goes.opened.each n plan e port is);
    };
    summed = omega (arith, goes.summed, summed);
  }

  -- nothing more was given
  pub stopped-goes_on : Counted rx next Nothing
      → ((rs : List Record) (st : Stop) → ToCome F rx rs st → Gives F p marker marked next Nothing rx.read rs st)
      → GoesOn p rx next marker marked es es
  stopped-goes_on now gives = record {
    goes = goes-on (rw (now.0, now.1) refl);
    come = λ records stop come.
        let g = gives come.rest stop come.to_come in
        record {
          given = come.given;
          rest = come.rest;
          parts = come.parts;
          to_come = g.1;
          read = now.0 ∙ come.read;
          asked = rw (g.0, turned.input_stays.origin, turned.input_stays.input) come.asked;
          taken = λ colours agree.
              let was = come.taken colours (subst (Agrees colours) g.0 agree) in
              record {
                losses = rw turned.input_stays.input (now.1 ∙ was.losses);
                merge = λ n journal is. rw turned.input_stays.input (was.merge n journal is);
              };
        };
    carries = λ records stop come all. all;
    senders = SendersStay-none G es;
    input = turned.input_stays;
    stays = turned.marker_stays;
  }

  module _ (records : List Record) (stop : Stop) (come : HasComeTo p records stop rx marker.marks.items es) where
    -- the next record was received
    module _ (received : Received) (r : Record) (rest : List Record) (next_is : come.rest ≡ r ∷ rest)
        (sorted : IsSorted p marker marked next.input rx.read r received) where
      abbrev given : List Record
      given = come.given ++ r ∷ []

      made-is : map request_in sorted.made ≡ asked_by p rx.origin rx.input (length come.given) r
      made-is = rw (← goes.origin, ← turned.input_stays.input, ← come.read) sorted.is.asked

      -- the marks are those of the records that were taken
      asked-more : map request_in marked.marks.items ≡ asked_of p rx.origin rx.input given
      asked-more =
          ap (map request_in) sorted.marks ∙ map-append request_in marker.marks.items sorted.made
          ∙ ap (λ qs. qs ++ map request_in sorted.made) come.asked
          ∙ ap (λ qs. asked_of p rx.origin rx.input come.given ++ qs) made-is
          ∙ sym (asked-push p rx.origin rx.input come.given r)

      -- they have colours of their own
      own-agrees : MarksAgree → Agrees (colours_by marked.marks.items) marked.marks.items
      own-agrees law = law p rx.origin rx.input given marked.marks.items asked-more

      module _ (colours : Colours) (agree : Agrees colours marked.marks.items) where
        agree-parts : Agrees colours marker.marks.items × Agrees colours sorted.made
        agree-parts =
            all-parts (λ mark. colours mark.meter mark.input mark.index ≡ mark.colour) marker.marks.items sorted.made
            (subst (Agrees colours) sorted.marks agree)

        were-taken : IsTaken p colours come.given rx (journals_of es)
        were-taken = come.taken colours agree-parts.0

        record-is : IsRecord p colours rx.input (length come.given) r received
        record-is = rw (← turned.input_stays.input, ← come.read) (sorted.is.record_is colours agree-parts.1)

      -- so one record more was taken
      come-more : (fs : List (Egress K G)) → ToCome F next rest stop → next.read ≡ rx.read + 1
          → ((colours : Colours) → Agrees colours marked.marks.items
          → next.losses ≡ counted rx.losses (fate_of p colours rx.input (length come.given) r))
          → ((colours : Colours) → Agrees colours marked.marks.items → (n : ℕ) (f : Egress K G) → slice_get fs n ≡ Some f
          → arrivals_of f.port.journal ≡ to_port n (admitted p colours rx.input given))
          → HasComeTo p records stop next marked.marks.items fs
      come-more fs to_come read losses merge = record {
        given = given;
        rest = rest;
        parts = parts-push records come.given come.rest rest r come.parts next_is;
        to_come = to_come;
        read = omega (arith, read, come.read, length-append come.given (r ∷ []));
        asked = rw (turned.input_stays.origin, turned.input_stays.input) asked-more;
        taken = λ colours agree.
            taken-by fs
            (rw turned.input_stays.input (losses colours agree
            ∙ ap (λ (l : Losses). counted l (fate_of p colours rx.input (length come.given) r)) (were-taken colours agree).losses
            ∙ sym (losses-push p colours rx.input come.given r)))
            (λ n f is. rw turned.input_stays.input (merge colours agree n f is));
      }

    -- it was lost
    come-lost : (reason : Reason) → Counted rx next (Gone reason)
        → ((rs : List Record) (st : Stop) → ToCome F rx rs st → Gives F p marker marked next (Gone reason) rx.read rs st)
        → HasComeTo p records stop next marked.marks.items es
    come-lost reason now gives =
        let g = gives come.rest stop come.to_come in
        let fate = record-is (Gone reason) g.0 g.1 g.2 g.3 in
        come-more (Gone reason) g.0 g.1 g.2 g.3 es g.4 now.0
        (λ colours agree. now.1 ∙ ap (counted rx.losses) (sym (fate colours agree)))
        (λ colours agree n e is.
        let were = to_port n (admitted p colours rx.input come.given) in
        let at = length come.given in
        let none : to_port n (packet_if rx.input at g.0 (fate_of p colours rx.input at g.0)) ≡ [] =
        ap (λ f. to_port n (packet_if rx.input at g.0 f)) (fate colours agree) in
        merge-at es (were-taken (Gone reason) g.0 g.1 g.2 g.3 colours agree) n e is
        ∙ sym (to_port-push p colours rx.input n come.given g.0 ∙ ap (λ ps. were ++ ps) none ∙ append-nil were))

    -- its packet was admitted
    module _ (m : Mbuf) (r : Record) (rest : List Record) (next_is : come.rest ≡ r ∷ rest)
        (sorted : IsSorted p marker marked next.input rx.read r (Packet m)) where
      module _ (colours : Colours) (agree : Agrees colours marked.marks.items) where
        abbrev taken : List Pkt
        taken = admitted p colours rx.input (come.given ++ r ∷ [])

        abbrev were : ℕ → List Pkt
        were n = to_port n (admitted p colours rx.input come.given)

        packet-is : packet_if rx.input (length come.given) r (fate_of p colours rx.input (length come.given) r) ≡ m.pkt ∷ []
        packet-is = (record-is (Packet m) r rest next_is sorted colours agree).0

        packets : (n : ℕ) → to_port n taken ≡ were n ++ to_port n (m.pkt ∷ [])
        packets n = to_port-push p colours rx.input n come.given r ∙ ap (λ ps. were n ++ to_port n ps) packet-is

        merge-old : (n : ℕ) (e : Egress K G) → slice_get es n ≡ Some e → arrivals_of e.port.journal ≡ were n
        merge-old = merge-at es (were-taken (Packet m) r rest next_is sorted colours agree)

        merge-here : (e : Egress K G) → slice_get es m.pkt.port ≡ Some e
            → arrivals_of e.port.journal ++ m.pkt ∷ [] ≡ to_port m.pkt.port taken
        merge-here e there =
            ap (λ ps. ps ++ m.pkt ∷ []) (merge-old m.pkt.port e there)
            ∙ ap (λ ps. were m.pkt.port ++ ps) (sym (to_port-here m.pkt)) ∙ sym (packets m.pkt.port)

        merge-other : (n : ℕ) (e : Egress K G) → n ≢ m.pkt.port → slice_get es n ≡ Some e
            → arrivals_of e.port.journal ≡ to_port n taken
        merge-other n e other there =
            merge-old n e there ∙ sym (append-nil (were n))
            ∙ ap (λ ps. were n ++ ps) (sym (to_port-other n m.pkt other)) ∙ sym (packets n)

        -- it lies in its slot with its body
        body-by : IsBodyIn (bodies_of records) m
        body-by =
            let index =
            packet-index (fate_of p colours rx.input (length come.given) r) rx.input (length come.given) r m.pkt packet-is in
            (record-is (Packet m) r rest next_is sorted colours agree).1
            ∙ sym (body-next records come.given rest r m.pkt.index (come.parts ∙ ap (λ rs. come.given ++ rs) next_is) index)

      module _ (law : MarksAgree) where
        carries-more : (result : Result (Unit {0}) NoMemory) (fs : List (Egress K G)) → ChangesAt (HasTaken result m) m.pkt.port es fs
            → AllCarry G (bodies_of records) es → AllCarry G (bodies_of records) fs
        carries-more result fs c all =
            let body = body-by (colours_by marked.marks.items) (own-agrees (Packet m) r rest next_is sorted law) in
            changes-all (HasTaken result m) m.pkt.port es fs c (λ n (f : Egress K G). Carries G (bodies_of records) f)
            (c.changed.carries (bodies_of records) body (all m.pkt.port c.from (changes-from (HasTaken result m) m.pkt.port es fs c)))
            (λ n x other there. all n x there)

        -- memory was refused while it arrived
        halted-arriving : (x : NoMemory) (fs : List (Egress K G)) → Steps → ChangesAt (HasTaken (Err x) m) m.pkt.port es fs
            → AtPorts p rx.origin (HasStopped rx.input records) fs
        halted-arriving x fs steps c =
            let R = HasTaken {K = K} {G = G} (Err x) m in
            let from = changes-from R m.pkt.port es fs c in
            let own = colours_by marked.marks.items in
            let agree = own-agrees (Packet m) r rest next_is sorted law in
            let stopped : (n : ℕ) (plan : PortPlan) (f : Egress K G)
            → HasHalted (setup_of p rx.origin plan) (to_port n (admitted p own rx.input (come.given ++ r ∷ []))) f
            → HasStopped rx.input records n (setup_of p rx.origin plan) f =
            λ n plan f halted. record {
              given = come.given ++ r ∷ [];
              rest = rest;
              parts = parts-push records come.given come.rest rest r come.parts next_is;
              colours = own;
              halted = halted;
            } in
            let each = changes-all R m.pkt.port es fs c
            (λ n (f : Egress K G). (plan : PortPlan) → slice_get p.ports n ≡ Some plan
            → HasStopped rx.input records n (setup_of p rx.origin plan) f)
            (λ plan port. stopped m.pkt.port plan c.to
            (subst (λ ps. HasHalted (setup_of p rx.origin plan) ps c.to) (merge-here own agree c.from from)
            (c.changed.halted (setup_of p rx.origin plan) (goes.opened.each m.pkt.port plan c.from port from).0)))
            (λ n e other there plan port. stopped n plan e
            (subst (λ ps. HasHalted (setup_of p rx.origin plan) ps e) (merge-other own agree n e other there)
            (halted-open (setup_of p rx.origin plan) e steps (goes.opened.each n plan e port there).0))) in
            record {
              count = changes-count R m.pkt.port es fs c ∙ goes.opened.count;
              each = λ n plan f port is. each n f is plan port;
            }

      come-admitted : (u : Unit {0}) (fs : List (Egress K G)) → ChangesAt (HasTaken (Ok u) m) m.pkt.port es fs
          → Counted rx next (Packet m) → ToCome F next rest stop → HasComeTo p records stop next marked.marks.items fs
      come-admitted u fs c now to_come =
          let R = HasTaken {K = K} {G = G} (Ok u) m in
          let from = changes-from R m.pkt.port es fs c in
          come-more (Packet m) r rest next_is sorted fs to_come now.0
          (λ colours agree.
          now.1
          ∙ sym (counted-admitted rx.losses (fate_of p colours rx.input (length come.given) r) rx.input (length come.given) r
          m.pkt (packet-is colours agree)))
          (λ colours agree.
          changes-all R m.pkt.port es fs c
          (λ n (f : Egress K G). arrivals_of f.port.journal ≡ to_port n (admitted p colours rx.input (come.given ++ r ∷ [])))
          (c.changed.arrivals ∙ merge-here colours agree c.from from) (merge-other colours agree))

  -- a record was lost
  pub lost-goes_on : (reason : Reason) → IsLoss reason → Counted rx next (Gone reason)
      → ((rs : List Record) (st : Stop) → ToCome F rx rs st → Gives F p marker marked next (Gone reason) rx.read rs st)
      → GoesOn p rx next marker marked es es
  lost-goes_on reason loss now gives = record {
    goes = goes-on (omega (arith, now.0, ap lost_total now.1, counted-lost rx.losses reason loss));
    come = λ records stop come. come-lost records stop come reason now gives;
    carries = λ records stop come all. all;
    senders = SendersStay-none G es;
    input = turned.input_stays;
    stays = turned.marker_stays;
  }

  module _ (law : MarksAgree) (m : Mbuf) (result : Result (Unit {0}) NoMemory) (fs : List (Egress K G))
      (c : ChangesAt (HasTaken result m) m.pkt.port es fs)
      (gives : (rs : List Record) (st : Stop) → ToCome F rx rs st → Gives F p marker marked next (Packet m) rx.read rs st) where
    senders-taken : SendersStay G es fs
    senders-taken = record {
      count = changes-count (HasTaken result m) m.pkt.port es fs c;
      each = changes-each (HasTaken result m) m.pkt.port es fs c (λ n (e f : Egress K G). StaysSender G e.sender f.sender)
          c.changed.stays (λ n e other there. StaysSender-none G e.sender);
    }

    carries-taken : (records : List Record) (stop : Stop) → HasComeTo p records stop rx marker.marks.items es
        → AllCarry G (bodies_of records) es → AllCarry G (bodies_of records) fs
    carries-taken records stop come =
        let g = gives come.rest stop come.to_come in
        carries-more records stop come m g.0 g.1 g.2 g.3 law result fs c

  -- a packet was admitted and has arrived
  pub admitted-goes_on : MarksAgree → (m : Mbuf) (u : Unit {0}) (fs : List (Egress K G)) → ChangesAt (HasTaken (Ok u) m) m.pkt.port es fs
      → Counted rx next (Packet m)
      → ((rs : List Record) (st : Stop) → ToCome F rx rs st → Gives F p marker marked next (Packet m) rx.read rs st)
      → GoesOn p rx next marker marked es fs
  admitted-goes_on law m u fs c now gives =
      let R = HasTaken {K = K} {G = G} (Ok u) m in
      let from = changes-from R m.pkt.port es fs c in
      let each = changes-all R m.pkt.port es fs c
      (λ n (f : Egress K G). (plan : PortPlan) → slice_get p.ports n ≡ Some plan → IsOpen (setup_of p rx.origin plan) f × IsReady f)
      (λ plan port. (c.changed.opened (setup_of p rx.origin plan) (goes.opened.each m.pkt.port plan c.from port from).0, c.changed.ready))
      (λ n e other there plan port. goes.opened.each n plan e port there) in
      record {
        goes = record {
          reading = turned.reading;
          marking = turned.marking;
          origin = origin-stays;
          opened = record {
            count = changes-count R m.pkt.port es fs c ∙ goes.opened.count;
            each = λ n plan f port is. rw turned.input_stays.origin (each n f is plan port);
          };
          summed = omega (
            arith,
            goes.summed,
            now.0,
            ap lost_total now.1,
            sum-arrived es,
            sum-arrived fs,
            changes-sum R m.pkt.port es fs c (λ (e : Egress K G). arrived e) 1
                (ap length c.changed.arrivals ∙ length-append (arrivals_of c.from.port.journal) (m.pkt ∷ [])),
          );
        };
        come = λ records stop come.
            let g = gives come.rest stop come.to_come in
            come-admitted records stop come m g.0 g.1 g.2 g.3 u fs c now g.4;
        carries = carries-taken law m (Ok u) fs c gives;
        senders = senders-taken law m (Ok u) fs c gives;
        input = turned.input_stays;
        stays = turned.marker_stays;
      }

  -- memory was refused while it arrived
  pub halts-arriving : MarksAgree → Steps → (m : Mbuf) (x : NoMemory) (fs : List (Egress K G))
      → ChangesAt (HasTaken (Err x) m) m.pkt.port es fs
      → ((rs : List Record) (st : Stop) → ToCome F rx rs st → Gives F p marker marked next (Packet m) rx.read rs st)
      → Halts p rx marker.marks.items es fs
  halts-arriving law steps m x fs c gives = record {
    halted = λ records stop come.
        let g = gives come.rest stop come.to_come in
        halted-arriving records stop come m g.0 g.1 g.2 g.3 law x fs steps c;
    carries = carries-taken law m (Err x) fs c gives;
    senders = senders-taken law m (Err x) fs c gives;
  }

-- memory was refused between two turns
pub halts-between : {S K : Type 0} {F : Sources S} {G : Sinks K} {p : Plan} {rx : Receiver S F} {marker : Marker}
    {es : List (Egress K G)} → MarksAgree → Steps → Goes p rx marker es → Halts p rx marker.marks.items es es
halts-between {G = G} {p = p} {rx = rx} {marker = marker} {es = es} law steps goes = record {
  halted = λ records stop come.
      let own = colours_by marker.marks.items in
      let agree = law p rx.origin rx.input come.given marker.marks.items come.asked in
      record {
        count = goes.opened.count;
        each = λ n plan e port is. record {
          given = come.given;
          rest = come.rest;
          parts = come.parts;
          colours = own;
          halted = subst (λ ps. HasHalted (setup_of p rx.origin plan) ps e) (merge-at es (come.taken own agree) n e is)
              (halted-open (setup_of p rx.origin plan) e steps (goes.opened.each n plan e port is).0);
        };
      };
  carries = λ records stop come all. all;
  senders = SendersStay-none G es;
}
