-- Each port of a run, from the creation of its output to the end of the run.
use Rattle.std.proofs.Common.{◌≡◌, ◌<◌, ◌∙◌, [], ℕ, List, length, Option, None, Some, IsSome, IfSome, refl, sym, ap, subst, arith}
use Rattle.std.specs.List.{slice_get}
use Rattle.std.proofs.lemmas.Option.{slice_get_within}
use Rattle.qos_base.specs.declared.packet.Pkt.{Pkt}
use Rattle.qos_io.specs.declared.sink.Sink.{Ghosts as Sinks}
use Rattle.profile_plan.specs.declared.port.PortPlan.{PortPlan}
use Rattle.profile_plan.specs.Profile.{Plan}
use Rattle.pkt_slots.specs.declared.mbuf.Mbuf.{Mbuf}
use Rattle.run_journal.specs.PortRun.{RunState}
use Rattle.port_egress.specs.declared.egress.Egress.{Egress}
use Rattle.port_egress.specs.Egress.{IsUnbegun}
use Rattle.port_egress.specs.Sender.{StaysSender, name_in, unbegun}
use Rattle.port_files.specs.Outs.{AllTell, AreNamed}
use Rattle.qos_pipeline.specs.Outputs.{HasBegunWith, HaveBegunWith, sinks_of}
use Rattle.qos_pipeline.specs.Ports.{AllCarry, AtPorts, SendersStay, setup_of}
use Rattle.qos_pipeline.specs.Took.{HasBegun}
use Rattle.qos_pipeline.proofs.Places.{from-map, one-there, there}

module _ {K : Type 0} (G : Sinks K) (p : Plan) (origin : ℕ) (outs : List (Option K)) (unopened opened ran : List (Egress K G)) where
  -- a port of a number: before its output was begun, then, and after its run
  pub record Life (n : ℕ) (plan : PortPlan) : Type 0 where
    pub out : Option K
    pub first : Egress K G
    pub begun : Egress K G
    pub last : Egress K G
    pub out_at : slice_get outs n ≡ Some out
    pub last_at : slice_get ran n ≡ Some last
    pub begun_at : slice_get opened n ≡ Some begun
    pub unbegun : IsUnbegun (setup_of p origin plan) first
    pub begins : HasBegunWith out first begun
    pub goes_on : StaysSender G begun.sender last.sender

  module _ (prepared : AtPorts p origin (λ n s e. IsUnbegun s e) unopened) (begins : HaveBegunWith outs unopened opened)
      (all : length outs ≡ length p.ports) where
    -- each is begun
    pub all-begun : AtPorts p origin HasBegun opened
    all-begun = record {
      count = begins.count ∙ prepared.count;
      each = λ n plan f at is.
          let within = slice_get_within p.ports n plan at in
          let first = there unopened n (omega (arith, prepared.count, within)) in
          let out = there outs n (omega (arith, all, within)) in
          let was = prepared.each n plan first.0 at first.1 in
          let begun = begins.each n out.0 first.0 f out.1 first.1 is in
          record {
            opened = begun.opened (setup_of p origin plan) was;
            ready = begun.ready (setup_of p origin plan) was;
            none = ap (λ (r : RunState Mbuf). r.journal) (begun.port ∙ was.run);
          };
    }

    -- and carries whatever comes, where its sink is empty
    pub all-carry : ((n : ℕ) → n < length p.ports → IfSome (slice_get outs n) (λ out. IfSome out (λ k. G.contents k ≡ Some [])))
        → (body : Pkt → List ℕ) → AllCarry G body opened
    all-carry empty body n f is =
        let within : n < length p.ports = omega (arith, begins.count, prepared.count, slice_get_within opened n f is) in
        let plan = there p.ports n within in
        let first = there unopened n (omega (arith, prepared.count, within)) in
        let out = there outs n (omega (arith, all, within)) in
        (begins.each n out.0 first.0 f out.1 first.1 is).carries
        (subst (λ (o : Option (Option K)). IfSome o (λ out. IfSome out (λ k. G.contents k ≡ Some []))) out.1 (empty n within))
        (setup_of p origin plan.0) (prepared.each n plan.0 first.0 plan.1 first.1) body

    module _ (stay : SendersStay G opened ran) where
      pub life : (n : ℕ) (plan : PortPlan) → slice_get p.ports n ≡ Some plan → Life n plan
      life n plan at =
          let within = slice_get_within p.ports n plan at in
          let first = there unopened n (omega (arith, prepared.count, within)) in
          let begun = there opened n (omega (arith, begins.count, prepared.count, within)) in
          let last = there ran n (omega (arith, stay.count, begins.count, prepared.count, within)) in
          let out = there outs n (omega (arith, all, within)) in
          record {
            out = out.0;
            first = first.0;
            begun = begun.0;
            last = last.0;
            out_at = out.1;
            last_at = last.1;
            begun_at = begun.1;
            unbegun = prepared.each n plan first.0 at first.1;
            begins = begins.each n out.0 first.0 begun.0 out.1 first.1 begun.1;
            goes_on = stay.each n begun.0 last.0 begun.1 last.1;
          }

      pub life-at : (n : ℕ) (e : Egress K G) → slice_get ran n ≡ Some e → (plan : PortPlan) × Life n plan
      life-at n e is =
          let plan = there p.ports n (omega (arith, stay.count, begins.count, prepared.count, slice_get_within ran n e is)) in
          (plan.0, life n plan.0 plan.1)

-- what stays of a sender from its begin on
module _ {K : Type 0} (G : Sinks K) (p : Plan) (origin : ℕ) (outs : List (Option K)) (unopened opened ran : List (Egress K G)) (n : ℕ)
    (plan : PortPlan) (l : Life G p origin outs unopened opened ran n plan) where
  pub stays : StaysSender G (unbegun l.out l.first.sender.stamps) l.last.sender
  stays =
      let before = l.begins.stays in
      let after = l.goes_on in
      record {
        stamps = after.stamps ∙ before.stamps;
        name = after.name ∙ before.name;
        there = λ is. after.there (before.there is);
        none = λ is. after.none (before.none is);
        told = λ is. after.told (before.told is);
        fine = λ is. after.fine (before.fine is);
      }

  -- its sink, if there is one, is that of a sink that was created
  pub sink-from : (k : K) → l.last.sender.sink ≡ Some k → (first : K) × (l.out ≡ Some first) × (G.name k ≡ G.name first)
      × (IsSome (G.contents first) → IsSome (G.contents k))
  sink-from k is = from l.out refl where
    from : (out : Option K) → l.out ≡ out → (first : K) × (l.out ≡ Some first) × (G.name k ≡ G.name first)
        × (IsSome (G.contents first) → IsSome (G.contents k))
    from None none = absurd (let gone = stays.none none in let not : ⊥ = cc in not)
    from (Some first) some = (
      first,
      some,
      sym (ap (name_in G.name) is) ∙ stays.name ∙ ap (name_in G.name) some,
      (λ tells. subst (λ (o : Option K). IfSome o (λ j. IsSome (G.contents j))) is
          (stays.told (subst (λ (o : Option K). IfSome o (λ j. IsSome (G.contents j))) (sym some) tells))),
    )

module _ {K : Type 0} (G : Sinks K) (p : Plan) (origin : ℕ) (outs : List (Option K)) (unopened opened ran : List (Egress K G))
    (prepared : AtPorts p origin (λ n s e. IsUnbegun s e) unopened) (begins : HaveBegunWith outs unopened opened)
    (all : length outs ≡ length p.ports) (stay : SendersStay G opened ran) where
  created-sink : (n : ℕ) (k : K) → slice_get (sinks_of ran) n ≡ Some (Some k) → (first : K) × (slice_get outs n ≡ Some (Some first))
      × (G.name k ≡ G.name first) × (IsSome (G.contents first) → IsSome (G.contents k))
  created-sink n k is =
      let e = from-map (λ (e : Egress K G). e.sender.sink) ran n (Some k) is in
      let of = life-at G p origin outs unopened opened ran prepared begins all stay n e.0 e.1 in
      let l = of.1 in
      let same = one-there ran n e.0 l.last e.1 l.last_at in
      let from = sink-from G p origin outs unopened opened ran n of.0 l k (sym (ap (λ (e : Egress K G). e.sender.sink) same) ∙ e.2) in
      (from.0, l.out_at ∙ ap Some from.1, from.2, from.3)

  -- the sinks have the names of those that were created
  pub sinks-named : (names : List (List ℕ)) → AreNamed G names outs → AreNamed G names (sinks_of ran)
  sinks-named names named n k is =
      let from = created-sink n k is in
      let name = named n from.0 from.1 in
      (name.0, name.1, from.2 ∙ name.2)

  -- and tell what they hold, where those did
  pub sinks-tell : AllTell G outs → AllTell G (sinks_of ran)
  sinks-tell tell n k is = let from = created-sink n k is in from.3 (tell n from.0 from.1)
