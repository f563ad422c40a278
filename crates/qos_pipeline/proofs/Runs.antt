-- A run over all ports, from an input that was opened to the drain.
use Rattle.std.proofs.Common.{◌≡◌, ℕ, suc, List, [], ◌∷◌, length, None, Some, Result, Ok, Err, OnOk, OnErr}
use Rattle.std.proofs.Common.{refl, ap, ◌∙◌, subst, arith}
use Rattle.std.specs.List.{slice_get, sum_by}
use Rattle.std.proofs.lemmas.List.Sums.{sum_by-cons}
use Rattle.qos_base.specs.declared.memory.NoMemory.{NoMemory}
use Rattle.qos_io.specs.declared.sink.Sink.{Ghosts as Sinks}
use Rattle.qos_io.specs.declared.source.Source.{Ghosts as Sources}
use Rattle.qos_pcap.specs.declared.fault.Stop.{Stop}
use Rattle.qos_pcap.specs.Format.{Record}
use Rattle.profile_plan.specs.Profile.{Plan}
use Rattle.pkt_receive.specs.declared.receive.Receiver.{Receiver}
use Rattle.pkt_receive.specs.declared.marker.Marker.{Marker}
use Rattle.pkt_receive.specs.Colours.{colours_by}
use Rattle.pkt_receive.specs.Fate.{admitted, to_port}
use Rattle.pkt_receive.specs.Laws.{MarksAgree}
use Rattle.pkt_receive.specs.Marks.{IsMarking}
use Rattle.pkt_receive.specs.Receiver.{IsFresh, IsReading, ToCome}
use Rattle.meter_table.specs.declared.mark.Mark.{Mark}
use Rattle.run_journal.specs.Schedule.{arrivals_of}
use Rattle.port_egress.specs.declared.egress.Egress.{Egress}
use Rattle.port_egress.specs.Egress.{HasHalted, IsDrained}
use Rattle.qos_pipeline.specs.Ports.{AllCarry, AtPorts, SendersStay, bodies_of, journals_of, setup_of}
use Rattle.qos_pipeline.specs.Took.{HasBegun, HasStopped, IsSummed, TookBy}
use Rattle.qos_pipeline.specs.Turns.{Goes, GoesOn, Halts, HasComeTo, HaveDrained}
use Rattle.qos_pipeline.proofs.Changed.{there-too}
use Rattle.qos_pipeline.proofs.Stays.{SendersStay-then}
use Rattle.qos_pipeline.proofs.Places.{nothing-left}
use Rattle.qos_pipeline.proofs.Turned.{arrived, merge-at, sum-arrived, taken-by}

module _ {X : Type 0} where
  -- a sum of nothing
  sum-none : (size : X → ℕ) (xs : List X) → ((n : ℕ) (x : X) → slice_get xs n ≡ Some x → size x ≡ 0) → sum_by size xs ≡ 0
  sum-none size [] none = refl
  sum-none size (x ∷ xs) none =
      omega (arith, sum_by-cons size x xs, none 0 x refl, sum-none size xs (λ n y is. none (suc n) y is))

  -- the same sum
  sum-same : (size : X → ℕ) (xs ys : List X) → length ys ≡ length xs
      → ((n : ℕ) (x y : X) → slice_get xs n ≡ Some x → slice_get ys n ≡ Some y → size y ≡ size x) → sum_by size ys ≡ sum_by size xs
  sum-same size [] [] count same = refl
  sum-same size [] (y ∷ ys) count same = absurd (omega arith)
  sum-same size (x ∷ xs) [] count same = absurd (omega arith)
  sum-same size (x ∷ xs) (y ∷ ys) count same = omega (
    arith,
    sum_by-cons size x xs,
    sum_by-cons size y ys,
    same 0 x y refl refl,
    sum-same size xs ys (omega arith) (λ n a b was is. same (suc n) a b was is),
  )

module _ {S K : Type 0} {F : Sources S} {G : Sinks K} {p : Plan} where
  -- an input that was opened, with no marks, and ports that have begun
  module _ {rx : Receiver S F} {marker : Marker} {es : List (Egress K G)} (fresh : IsFresh 0 rx) (marking : IsMarking p 0 marker)
      (begun : AtPorts p rx.origin HasBegun es) where
    none-arrived : (n : ℕ) (e : Egress K G) → slice_get es n ≡ Some e → arrivals_of e.port.journal ≡ []
    none-arrived n e is =
        let plan = there-too p.ports es n e begun.count is in
        ap arrivals_of (begun.each n plan.0 e plan.1 is).none

    none-marked : marker.marks.items ≡ []
    none-marked = nothing-left marker.marks.items (omega (arith, marking.few))

    pub goes-start : marker.origin ≡ rx.origin → IsReading F rx → Goes p rx marker es
    goes-start origin reading = record {
      reading = reading;
      marking = record { settings = marking.settings; few = rw fresh.read_is marking.few };
      origin = origin;
      opened = record {
        count = begun.count;
        each = λ n plan e port is. ((begun.each n plan e port is).opened, (begun.each n plan e port is).ready);
      };
      summed = rw (fresh.read_is, fresh.losses_is) (omega (
        arith,
        sum-arrived es,
        sum-none (λ (e : Egress K G). arrived e) es (λ n e is. ap length (none-arrived n e is)),
      ));
    }

    come-start : (records : List Record) (stop : Stop) → ToCome F rx records stop
        → HasComeTo p records stop rx marker.marks.items es
    come-start records stop to_come = record {
      given = [];
      rest = records;
      parts = refl;
      to_come = to_come;
      read = fresh.read_is;
      asked = rw none-marked refl;
      taken = λ colours agree. taken-by es fresh.losses_is none-arrived;
    }

    -- memory was refused in a turn
    pub halted-turning : {fs : List (Egress K G)} → Halts p rx marker.marks.items es fs → (records : List Record) (stop : Stop)
        → ToCome F rx records stop → AtPorts p rx.origin (HasStopped 0 records) fs
    halted-turning halts records stop to_come =
        rw (← fresh.input_is) (halts.halted records stop (come-start records stop to_come))

    pub carries-turning : {fs : List (Egress K G)} → Halts p rx marker.marks.items es fs → (records : List Record) (stop : Stop)
        → ToCome F rx records stop → AllCarry G (bodies_of records) es → AllCarry G (bodies_of records) fs
    carries-turning halts records stop to_come all = halts.carries records stop (come-start records stop to_come) all

    -- the turns have come to their end, and the ports are drained
    module _ {last : Receiver S F} {marked : Marker} {fs gs : List (Egress K G)} (goes_on : GoesOn p rx last marker marked es fs)
        {result : Result (Unit {0}) NoMemory} (drained : HaveDrained result fs gs) where
      pub summed-drained : IsSummed last (journals_of gs)
      summed-drained = omega (
        arith,
        goes_on.goes.summed,
        sum-arrived fs,
        sum-arrived gs,
        sum-same (λ (e : Egress K G). arrived e) fs gs drained.count (λ n e f was is. ap length (drained.each n e f was is).arrivals),
      )

      pub took-drained : last.head ≡ None → (records : List Record) (stop : Stop) → ToCome F rx records stop
          → TookBy p records stop last marked.marks.items (journals_of gs)
      took-drained none records stop to_come =
          let come = goes_on.come records stop (come-start records stop to_come) in
          record {
            given = come.given;
            rest = come.rest;
            parts = come.parts;
            stopped = rw none at come.to_come;
            read = come.read;
            asked = come.asked;
            taken = λ colours agree.
                let was = come.taken colours agree in
                taken-by gs was.losses (λ n g is.
                let f = there-too fs gs n g drained.count is in
                (drained.each n f.0 g f.1 is).arrivals ∙ merge-at fs was n f.0 f.1);
          }

      pub carries-drained : (records : List Record) (stop : Stop) → ToCome F rx records stop
          → AllCarry G (bodies_of records) es → AllCarry G (bodies_of records) gs
      carries-drained records stop to_come all n g is =
          let was = there-too fs gs n g drained.count is in
          (drained.each n was.0 g was.1 is).carries (bodies_of records)
          (goes_on.carries records stop (come-start records stop to_come) all n was.0 was.1)

      pub senders-drained : SendersStay G es gs
      senders-drained = SendersStay-then G es fs gs goes_on.senders
          (record { count = drained.count; each = λ n e f was is. (drained.each n e f was is).stays })

    pub ports-drained : {last : Receiver S F} {marked : Marker} {fs gs : List (Egress K G)} → GoesOn p rx last marker marked es fs
        → (result : Result (Unit {0}) NoMemory) → HaveDrained result fs gs
        → OnOk result (AtPorts p rx.origin (λ n s e. IsDrained s e) gs)
    ports-drained {fs = fs} {gs = gs} goes_on (Err x) drained = tt
    ports-drained {fs = fs} {gs = gs} goes_on (Ok u) drained = record {
      count = drained.count ∙ goes_on.goes.opened.count;
      each = λ n plan g port is.
          let was = there-too fs gs n g drained.count is in
          (drained.each n was.0 g was.1 is).drained (setup_of p rx.origin plan)
          (rw (← goes_on.input.origin) (goes_on.goes.opened.each n plan was.0 port was.1).0);
    }

    pub ports-halted : MarksAgree → {last : Receiver S F} {marked : Marker} {fs gs : List (Egress K G)}
        → GoesOn p rx last marker marked es fs → (result : Result (Unit {0}) NoMemory) → HaveDrained result fs gs
        → OnErr result ((records : List Record) (stop : Stop) → ToCome F rx records stop
        → AtPorts p rx.origin (HasStopped 0 records) gs)
    ports-halted law {last = last} {marked = marked} {fs = fs} {gs = gs} goes_on (Ok u) drained = tt
    ports-halted law {last = last} {marked = marked} {fs = fs} {gs = gs} goes_on (Err x) drained = λ records stop to_come.
        let come = goes_on.come records stop (come-start records stop to_come) in
        let zero_is : last.input ≡ 0 = goes_on.input.input ∙ fresh.input_is in
        let marks : List Mark = marked.marks.items in
        let own = colours_by marks in
        let agree = law p last.origin last.input come.given marks come.asked in
        record {
          count = drained.count ∙ goes_on.goes.opened.count;
          each = λ n plan g port is.
              let was = there-too fs gs n g drained.count is in
              let opened = (goes_on.goes.opened.each n plan was.0 port was.1).0 in
              record {
                given = come.given;
                rest = come.rest;
                parts = come.parts;
                colours = own;
                halted = subst (λ ps. HasHalted (setup_of p rx.origin plan) ps g)
                    (merge-at fs (come.taken own agree) n was.0 was.1 ∙ ap (λ i. to_port n (admitted p own i come.given)) zero_is)
                    ((drained.each n was.0 g was.1 is).halted (setup_of p rx.origin plan) (rw (← goes_on.input.origin) opened));
              };
        }
