-- The ports are drained, one after another.
use Rattle.std.proofs.Common.{◌≡◌, ◌<◌, ◌≤◌, ℕ, ◌+◌, List, length, Some, Result, Ok, Err, IsErr, refl, sym, ◌∙◌, subst, arith, ⊎_elim}
use Rattle.std.specs.List.{slice_get}
use Rattle.std.proofs.lemmas.Bool.{cases_lt}
use Rattle.std.proofs.lemmas.Option.{slice_get_within}
use Rattle.qos_base.specs.declared.memory.NoMemory.{NoMemory}
use Rattle.qos_io.specs.declared.sink.Sink.{Ghosts as Sinks}
use Rattle.port_egress.specs.declared.egress.Egress.{Egress}
use Rattle.port_egress.specs.Egress.{HasHalted, IsReady}
use Rattle.qos_pipeline.specs.Changes.{ChangesAt}
use Rattle.qos_pipeline.specs.Turns.{HasDrained, HaveDrained}
use Rattle.qos_pipeline.proofs.Changed.{some-same, changes-count, changes-each, there-too}
use Rattle.qos_pipeline.proofs.Halted.{Steps, halted-drained, halted-open}
use Rattle.qos_pipeline.proofs.Stays.{StaysSender-none}

module _ {K : Type 0} {G : Sinks K} where
  -- those below an index are drained, and the others are as they were
  pub record DrainedBelow (i : ℕ) (before after : List (Egress K G)) : Type 0 where
    pub count : length after ≡ length before
    pub each : (n : ℕ) (e f : Egress K G) → slice_get before n ≡ Some e → slice_get after n ≡ Some f
        → (n < i → HasDrained (Ok tt) e f) × (i ≤ n → f ≡ e)

  -- none yet
  pub drained-none : (es : List (Egress K G)) → DrainedBelow 0 es es
  drained-none es = record {
    count = refl;
    each = λ n e f was is. ((λ below. absurd (omega arith)), (λ above. some-same (sym is ∙ was)));
  }

  -- one that had yet to be drained has halted, as it is
  halted-same : Steps → (x : NoMemory) (e : Egress K G) → HasDrained (Err x) e e
  halted-same steps x e = record {
    drained = tt;
    halted = λ s opened. halted-open s e steps opened;
    arrivals = refl;
    carries = λ body carries. carries;
    stays = StaysSender-none G e.sender;
  }

  -- and one that was drained has halted as well
  halted-all : (x : NoMemory) (e f : Egress K G) → HasDrained (Ok tt) e f → HasDrained (Err x) e f
  halted-all x e f d = record {
    drained = tt;
    halted = λ s opened. subst (λ ps. HasHalted s ps f) d.arrivals (halted-drained s f (d.drained s opened));
    arrivals = d.arrivals;
    carries = d.carries;
    stays = d.stays;
  }

  module _ (i : ℕ) (es fs gs : List (Egress K G)) (below : DrainedBelow i es fs) where
    -- one more
    pub drained-more : ChangesAt (HasDrained (Ok tt)) i fs gs → DrainedBelow (i + 1) es gs
    drained-more c = record {
      count = changes-count (HasDrained (Ok tt)) i fs gs c ∙ below.count;
      each = λ n e g was is.
          let between = there-too fs gs n g (changes-count (HasDrained (Ok tt)) i fs gs c) is in
          changes-each (HasDrained (Ok tt)) i fs gs c
          (λ n (f g : Egress K G). (e : Egress K G) → slice_get es n ≡ Some e → slice_get fs n ≡ Some f
          → (n < i + 1 → HasDrained (Ok tt) e g) × (i + 1 ≤ n → g ≡ e))
          (λ e was now.
          let same = (below.each i e c.from was now).1 (omega arith) in (
            (λ _. subst (λ x. HasDrained (Ok tt) x c.to) same c.changed),
            (λ above. absurd (omega arith)),
          ))
          (λ n f other now e was _.
          let so_far = below.each n e f was now in (
            (λ early. so_far.0 (omega (arith, other))),
            (λ late. so_far.1 (omega arith)),
          ))
          n between.0 g between.1 is e was between.1;
    }

    -- memory was refused at this one
    pub drained-halted : Steps → (x : NoMemory) → ChangesAt (HasDrained (Err x)) i fs gs → HaveDrained (Err x) es gs
    drained-halted steps x c = record {
      count = changes-count (HasDrained (Err x)) i fs gs c ∙ below.count;
      each = λ n e g was is.
          let between = there-too fs gs n g (changes-count (HasDrained (Err x)) i fs gs c) is in
          changes-each (HasDrained (Err x)) i fs gs c
          (λ n (f g : Egress K G). (e : Egress K G) → slice_get es n ≡ Some e → slice_get fs n ≡ Some f → HasDrained (Err x) e g)
          (λ e was now.
          subst (λ y. HasDrained (Err x) y c.to) ((below.each i e c.from was now).1 (omega arith)) c.changed)
          (λ n f other now e was _.
          let so_far = below.each n e f was now in
          ⊎_elim (λ (early : n < i). halted-all x e f (so_far.0 early))
          (λ (late : i ≤ n). subst (λ y. HasDrained (Err x) e y) (sym (so_far.1 late)) (halted-same steps x e)) (cases_lt n i))
          n between.0 g between.1 is e was between.1;
    }

  -- whatever a refusal answers
  pub refused-any : (r : Result (Unit {0}) NoMemory) (x : NoMemory) (es fs : List (Egress K G)) → IsErr r
      → HaveDrained (Err x) es fs → HaveDrained r es fs
  refused-any (Ok u) x es fs is all = absurd (let impossible : ⊥ = cc in impossible)
  refused-any (Err y) x es fs is all = record {
    count = all.count;
    each = λ n e f was now.
        let d = all.each n e f was now in
        record { drained = tt; halted = d.halted; arrivals = d.arrivals; carries = d.carries; stays = d.stays };
  }

  -- all
  pub drained-all : (i : ℕ) (es fs : List (Egress K G)) → DrainedBelow i es fs → length fs ≤ i → HaveDrained (Ok tt) es fs
  drained-all i es fs below all = record {
    count = below.count;
    each = λ n e f was is. (below.each n e f was is).0 (omega (arith, all, slice_get_within fs n f is));
  }

  -- one that is yet to be drained is ready
  pub ready-next : (i : ℕ) (es fs : List (Egress K G)) (f : Egress K G) → DrainedBelow i es fs
      → ((n : ℕ) (e : Egress K G) → slice_get es n ≡ Some e → IsReady e) → slice_get fs i ≡ Some f → IsReady f
  ready-next i es fs f below ready is =
      let was = there-too es fs i f below.count is in
      subst (λ (x : Egress K G). IsReady x) (sym ((below.each i was.0 f was.1 is).1 (omega arith))) (ready i was.0 was.1)
