-- A run with outputs, from the creation of its outputs to their closing.
use Rattle.std.proofs.Common.{◌≡◌, ◌<◌, ◌∙◌, [], ℕ, Bool, true, List, length, map, Option, None, Some, IsSome, IfSome}
use Rattle.std.proofs.Common.{Result, Ok, Err, OnErr, String, string_bytes, inl, inr, refl, sym, ap, subst, arith}
use Rattle.std.specs.List.{slice_get}
use Rattle.std.proofs.lemmas.List.{append-nil, length-map}
use Rattle.std.proofs.lemmas.List.FromFn.{get_or-map-range_with_len, length-map-range_with_len}
use Rattle.std.proofs.lemmas.Option.{slice_get-get_or, slice_get_within}
use Rattle.qos_base.specs.declared.packet.Pkt.{Pkt}
use Rattle.qos_io.specs.declared.shelf.Shelf.{Ghosts as Shelves}
use Rattle.qos_io.specs.declared.sink.Sink.{Ghosts as Sinks}
use Rattle.qos_io.specs.declared.source.Source.{Ghosts as Sources}
use Rattle.qos_pcap.specs.declared.fault.Stop.{Stop}
use Rattle.qos_pcap.specs.Format.{Record}
use Rattle.profile_plan.specs.declared.port.PortPlan.{PortPlan}
use Rattle.profile_plan.specs.Profile.{Plan}
use Rattle.pkt_receive.specs.declared.receive.Receiver.{Receiver}
use Rattle.pkt_receive.specs.Colours.{colours_by}
use Rattle.pkt_receive.specs.Fate.{admitted, to_port}
use Rattle.pkt_receive.specs.Laws.{MarksAgree}
use Rattle.meter_table.specs.declared.mark.Mark.{Mark}
use Rattle.run_journal.specs.declared.ended.PortEnd.{PortEnd}
use Rattle.run_journal.specs.PortRun.{HasCounts}
use Rattle.run_journal.specs.Schedule.{arrivals_of, schedule_from}
use Rattle.run_journal.specs.Laws.{AreAccounted}
use Rattle.port_sched.specs.Port.{Port}
use Rattle.port_egress.specs.declared.egress.Egress.{Egress}
use Rattle.port_egress.specs.Egress.{IsDrained, IsUnbegun}
use Rattle.port_egress.specs.Run.{Setup, paced_journal}
use Rattle.port_egress.specs.Sender.{IsFine}
use Rattle.port_files.specs.Among.{AreApart, ChangesAmong, ChangesAmong-then}
use Rattle.port_files.specs.Change.{FileChange, change_of}
use Rattle.port_files.specs.Outs.{AllTell, AreNamed, IsCreated}
use Rattle.qos_words.specs.Names.{NamesApart, output_name, output_names}
use Rattle.qos_pipeline.specs.Outputs.{AreEndings, AreShut, HaveBegunWith, HaveEnded, IsDropped, IsEndOf, sinks_of}
use Rattle.qos_pipeline.specs.PortEnds.{AreLeft, ArePortEnds, AreWritten, IsPortEnd}
use Rattle.qos_pipeline.specs.Ports.{AllCarry, AtPorts, SendersStay, bodies_of, journals_of, setup_of}
use Rattle.qos_pipeline.specs.Took.{HasStopped, TookBy}
use Rattle.qos_pipeline.specs.Written.{IsLeft}
use Rattle.qos_pipeline.proofs.Endings.{HasEnded, has-ended, left-halted, written-end}
use Rattle.qos_pipeline.proofs.Lives.{Life, all-carry, life, life-at, sinks-named, sinks-tell, stays}
use Rattle.qos_pipeline.proofs.Places.{from-some, one-there, there}
use Rattle.qos_pipeline.proofs.Turned.{merge-at}

-- what holds anyway holds of a failure
pub on-err : {A E P : Type 0} (r : Result A E) → P → OnErr r P
on-err (Ok x) p = tt
on-err (Err e) p = p

-- the names of outputs, by their ports
module _ (prefix : List ℕ) (count : ℕ) where
  name-length : length (output_names prefix count) ≡ count
  name-length = length-map-range_with_len (output_name prefix) 0 count

  pub name-at : (n : ℕ) → n < count → slice_get (output_names prefix count) n ≡ Some (output_name prefix n)
  name-at n below =
      slice_get-get_or (output_names prefix count) n [] (omega (arith, below, name-length))
      ∙ ap Some (get_or-map-range_with_len (output_name prefix) 0 count n n [] below (omega arith))

  from-name : (n : ℕ) (name : List ℕ) → slice_get (output_names prefix count) n ≡ Some name → (n < count) × (output_name prefix n ≡ name)
  from-name n name is =
      let below : n < count = omega (arith, name-length, slice_get_within (output_names prefix count) n name is) in
      (below, one-there (output_names prefix count) n (output_name prefix n) name (name-at n below) is)

  pub names-apart : NamesApart prefix count → AreApart (output_names prefix count)
  names-apart differ i j name is too =
      let first = from-name i name is in
      let second = from-name j name too in
      differ.apart i j first.0 second.0 (first.1 ∙ sym second.1)

  pub names-count : {A : Type 0} (names : List (String A)) → map string_bytes names ≡ output_names prefix count → length names ≡ count
  names-count names is = sym (length-map names string_bytes) ∙ ap length is ∙ name-length

-- what is left where memory was refused while outputs were created
pub dropped-left : (s : Setup) (n input : ℕ) (records : List Record) (c : FileChange) → IsDropped c → IsLeft s n input records c
dropped-left s n input records c (inl untouched) = inl untouched
dropped-left s n input records c (inr closed) =
    inr (record {
      given = [];
      rest = records;
      parts = refl;
      colours = colours_by [];
      count = 0;
      held = [];
      is = refl;
      closed = closed;
    })

-- what each port ended with
module _ {K : Type 0} {G : Sinks K} (p : Plan) (origin : ℕ) (ran : List (Egress K G))
    (drained : AtPorts p origin (λ n s e. IsDrained s e) ran) where
  port-end : (s : Setup) (e : Egress K G) (end : PortEnd) → IsDrained s e → IsEndOf e end → IsPortEnd s end
  port-end s e end drained is = record {
    pacing = rw is.journal drained.journal;
    counts = rw is.journal
        (subst (λ (start : Port _). HasCounts e.port.journal (schedule_from start e.port.journal) end.counts)
        drained.serves.start is.counts);
    account = rw is.journal
        (subst (λ (start : Port _). AreAccounted (arrivals_of e.port.journal) (schedule_from start e.port.journal))
        drained.serves.start is.account);
  }

  pub port-ends : (ends : List PortEnd) → HaveEnded ran ends → ArePortEnds p origin ends
  port-ends ends ended n plan end at is =
      let e = there ran n (omega (arith, ended.count, slice_get_within ends n end is)) in
      port-end (setup_of p origin plan) e.0 end (drained.each n plan e.0 at e.1) (ended.each n e.0 end e.1 is)

  -- one that was drained has come to the end of some first of the records
  drained-stopped : MarksAgree → {S : Type 0} {F : Sources S} (records : List Record) (stop : Stop) (rx : Receiver S F)
      (marks : List Mark) → rx.input ≡ 0 → TookBy p records stop rx marks (journals_of ran)
      → AtPorts p origin (HasStopped 0 records) ran
  drained-stopped law records stop rx marks input took =
      let own = colours_by marks in
      let taken = took.taken own (law p rx.origin rx.input took.given marks took.asked) in
      record {
        count = drained.count;
        each = λ n plan e at is.
            let s = setup_of p origin plan in
            let done = drained.each n plan e at is in
            let arrived : arrivals_of e.port.journal ≡ to_port n (admitted p own 0 took.given) =
            merge-at ran taken n e is ∙ ap (λ i. to_port n (admitted p own i took.given)) input in
            record {
              given = took.given;
              rest = took.rest;
              parts = took.parts;
              colours = own;
              halted = record {
                serves = done.serves;
                begins = ([], sym (append-nil e.port.journal ∙ done.journal ∙ ap (paced_journal s) arrived));
              };
            };
      }

-- the names of the outputs of a profile
abbrev names-of : Plan → List ℕ → List (List ℕ)
names-of p prefix = output_names prefix (length p.ports)

-- outputs were created, begun, written and closed
pub record IsRun {H In Out : Type 0} (F : Shelves H In Out) (G : Sinks Out) (p : Plan) (prefix : List ℕ) (origin : ℕ)
    (outs : List (Option Out)) (unopened opened ran : List (Egress Out G)) (old mid new : H) : Type 0 where
  pub prepared : AtPorts p origin (λ n s e. IsUnbegun s e) unopened
  pub apart : AreApart (names-of p prefix)
  pub count : length outs ≡ length p.ports
  pub named : AreNamed G (names-of p prefix) outs
  pub created : F.Tells old → (n : ℕ) (name : List ℕ) → slice_get (names-of p prefix) n ≡ Some name
      → IfSome (slice_get outs n) (IsCreated G (change_of F name old mid))
  pub made : ChangesAmong F (names-of p prefix) old mid
  pub begins : HaveBegunWith outs unopened opened
  pub stay : SendersStay G opened ran
  pub shut : F.Tells mid → AllTell G (sinks_of ran) → AreShut G F mid new ran
  pub others : (some : List (List ℕ)) → AreNamed G some (sinks_of ran) → (F.Tells mid → AllTell G (sinks_of ran))
      → ChangesAmong F some mid new

module _ {H In Out : Type 0} {F : Shelves H In Out} {G : Sinks Out} {p : Plan} {prefix : List ℕ} {origin : ℕ} {outs : List (Option Out)}
    {unopened opened ran : List (Egress Out G)} {old mid new : H} where
  -- by the texts of the names
  pub run-is : {A : Type 0} (texts : List (String A)) → map string_bytes texts ≡ names-of p prefix → NamesApart prefix (length p.ports)
      → AtPorts p origin (λ n s e. IsUnbegun s e) unopened → length outs ≡ length texts → AreNamed G (map string_bytes texts) outs
      → (F.Tells old → (n : ℕ) (name : List ℕ) → slice_get (map string_bytes texts) n ≡ Some name
      → IfSome (slice_get outs n) (IsCreated G (change_of F name old mid)))
      → ChangesAmong F (map string_bytes texts) old mid → HaveBegunWith outs unopened opened → SendersStay G opened ran
      → (F.Tells mid → AllTell G (sinks_of ran) → AreShut G F mid new ran)
      → ((some : List (List ℕ)) → AreNamed G some (sinks_of ran) → (F.Tells mid → AllTell G (sinks_of ran))
      → ChangesAmong F some mid new)
      → IsRun F G p prefix origin outs unopened opened ran old mid new
  run-is texts is differ prepared count named created made begins stay shut others = record {
    prepared = prepared;
    apart = names-apart prefix (length p.ports) differ;
    count = count ∙ names-count prefix (length p.ports) texts is;
    named = subst (λ ns. AreNamed G ns outs) is named;
    created = λ tells n name at. created tells n name (ap (λ ns. slice_get ns n) is ∙ at);
    made = subst (λ ns. ChangesAmong F ns old mid) is made;
    begins = begins;
    stay = stay;
    shut = shut;
    others = others;
  }

  module _ (r : IsRun F G p prefix origin outs unopened opened ran old mid new) where
    sinks-are-named : AreNamed G (names-of p prefix) (sinks_of ran)
    sinks-are-named = sinks-named G p origin outs unopened opened ran r.prepared r.begins r.count r.stay (names-of p prefix) r.named

    created-at : F.Tells old → (n : ℕ) (out : Option Out) → n < length p.ports → slice_get outs n ≡ Some out
        → IsCreated G (change_of F (output_name prefix n) old mid) out
    created-at tells n out below at =
        from-some (IsCreated G (change_of F (output_name prefix n) old mid)) (slice_get outs n) out at
        (r.created tells n (output_name prefix n) (name-at prefix (length p.ports) n below))

    pub all-tell : F.Tells old → AllTell G (sinks_of ran)
    all-tell tells =
        sinks-tell G p origin outs unopened opened ran r.prepared r.begins r.count r.stay
        (λ n k at.
        let made = created-at tells n (Some k) (omega (arith, r.count, slice_get_within outs n (Some k) at)) at in
        subst IsSome (sym made.1.1) refl)

    closed : ChangesAmong F (names-of p prefix) mid new
    closed = r.others (names-of p prefix) sinks-are-named (λ tells. all-tell (r.made.tells.0 tells))

    -- what else changed
    pub all-others : ChangesAmong F (names-of p prefix) old new
    all-others = ChangesAmong-then r.made closed

    port-life : (n : ℕ) (plan : PortPlan) → slice_get p.ports n ≡ Some plan → Life G p origin outs unopened opened ran n plan
    port-life = life G p origin outs unopened opened ran r.prepared r.begins r.count r.stay

    ended-at : F.Tells old → (n : ℕ) (plan : PortPlan) (e : Egress Out G) → slice_get p.ports n ≡ Some plan → slice_get ran n ≡ Some e
        → HasEnded G (change_of F (output_name prefix n) old new) e.sender
    ended-at tells n plan e at is =
        let l = port-life n plan at in
        let below = slice_get_within p.ports n plan at in
        let name = name-at prefix (length p.ports) n below in
        let last =
        r.shut (r.made.tells.1 tells) (all-tell tells) (names-of p prefix) sinks-are-named r.apart n (output_name prefix n) l.last name
        l.last_at in
        subst (λ (e : Egress Out G). HasEnded G (change_of F (output_name prefix n) old new) e.sender)
        (one-there ran n l.last e l.last_at is)
        (has-ended F G (output_name prefix n) old mid new r.made.never_falls closed.never_falls l.out l.first.sender.stamps l.last.sender
        (created-at tells n l.out below l.out_at) (stays G p origin outs unopened opened ran n plan l) last)

    -- the outputs of a run that came to its end
    pub all-written : F.Tells old → (records : List Record) → AllCarry G (bodies_of records) ran
        → AtPorts p origin (λ n s e. IsDrained s e) ran
        → (ends : List PortEnd) (faults : List Bool) → HaveEnded ran ends → AreEndings G F mid new ran faults
        → AreWritten p origin records (λ n. change_of F (output_name prefix n) old new) ends faults
    all-written tells records carry drained ends faults ended endings n plan end fault at is wrong =
        let e = there ran n (omega (arith, ended.count, slice_get_within ends n end is)) in
        let name = name-at prefix (length p.ports) n (slice_get_within p.ports n plan at) in
        written-end F G (output_name prefix n) old mid new r.made.never_falls closed.never_falls (setup_of p origin plan) records e.0
        (drained.each n plan e.0 at e.1).serves (carry n e.0 e.1) (ended-at tells n plan e.0 at e.1) end fault (ended.each n e.0 end e.1 is)
        (endings (names-of p prefix) sinks-are-named r.apart n (output_name prefix n) e.0 fault name e.1 wrong)

    -- and of one that was refused memory
    pub all-left : F.Tells old → (records : List Record) → AllCarry G (bodies_of records) ran → AtPorts p origin (HasStopped 0 records) ran
        → AreLeft p origin 0 records (λ n. change_of F (output_name prefix n) old new)
    all-left tells records carry stopped n plan at =
        let e = there ran n (omega (arith, stopped.count, slice_get_within p.ports n plan at)) in
        let stop = stopped.each n plan e.0 at e.1 in
        left-halted F G (output_name prefix n) old mid new r.made.never_falls closed.never_falls (setup_of p origin plan) records e.0
        stop.halted.serves (carry n e.0 e.1) (ended-at tells n plan e.0 at e.1) stop.colours n 0 stop.given stop.rest stop.parts stop.halted.begins

    -- as where memory was refused after the ports were drained
    pub drained-left : F.Tells old → MarksAgree → AtPorts p origin (λ n s e. IsDrained s e) ran → {S : Type 0} {I : Sources S}
        (records : List Record) (stop : Stop) (rx : Receiver S I) (marks : List Mark) → rx.input ≡ 0
        → TookBy p records stop rx marks (journals_of ran) → AllCarry G (bodies_of records) ran
        → AreLeft p origin 0 records (λ n. change_of F (output_name prefix n) old new)
    drained-left tells law drained records stop rx marks input took carry =
        all-left tells records carry (drained-stopped p origin ran drained law records stop rx marks input took)

    -- each output was begun with an empty sink
    empty-sinks : F.Tells old → (n : ℕ) → n < length p.ports → IfSome (slice_get outs n) (λ out. IfSome out (λ k. G.contents k ≡ Some []))
    empty-sinks tells n below = each (slice_get outs n) refl where
      each : (o : Option (Option Out)) → slice_get outs n ≡ o → IfSome o (λ out. IfSome out (λ k. G.contents k ≡ Some []))
      each None is = tt
      each (Some None) is = tt
      each (Some (Some k)) is = (created-at tells n (Some k) below is).1.1

    -- so each carries whatever comes
    pub begun-carry : F.Tells old → (body : Pkt → List ℕ) → AllCarry G body opened
    begun-carry tells = all-carry G p origin outs unopened opened ran r.prepared r.begins r.count (empty-sinks tells)

    -- an output that is sure to be written has no fault
    pub all-sure : (faults : List Bool)
        → ((n : ℕ) (name : List ℕ) → slice_get (names-of p prefix) n ≡ Some name → F.IsSureToWrite old name
        → IfSome (slice_get outs n) (λ out. IsSome out × IfSome out G.IsSure))
        → length faults ≡ length ran
        → ((n : ℕ) (e : Egress Out G) → slice_get ran n ≡ Some e → IsFine G e.sender → slice_get faults n ≡ Some true → ⊥)
        → (n : ℕ) → F.IsSureToWrite old (output_name prefix n) → slice_get faults n ≡ Some true → ⊥
    all-sure faults sure count fine n is wrong =
        let e = there ran n (omega (arith, count, slice_get_within faults n true wrong)) in
        let of = life-at G p origin outs unopened opened ran r.prepared r.begins r.count r.stay n e.0 e.1 in
        let l = of.1 in
        let below : n < length p.ports = omega (arith, r.count, slice_get_within outs n l.out l.out_at) in
        let out = from-some (λ out. IsSome out × IfSome out G.IsSure) (slice_get outs n) l.out l.out_at
        (sure n (output_name prefix n) (name-at prefix (length p.ports) n below) is) in
        fine n l.last l.last_at
        ((stays G p origin outs unopened opened ran n of.0 l).fine
        (record { there = out.0; sure = out.1; none_failed = λ no. let not : ⊥ = cc in not }))
        wrong
