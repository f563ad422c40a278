-- Outputs are begun, one after another.
use Rattle.std.proofs.Common.{◌≡◌, ◌≢◌, ◌<◌, ◌≤◌, ℕ, ◌+◌, List, length, set, Some, refl, sym, ◌∙◌, subst, arith}
use Rattle.std.specs.List.{slice_get}
use Rattle.std.proofs.lemmas.Bool.{cases_eq}
use Rattle.std.proofs.lemmas.List.{length-set}
use Rattle.std.proofs.lemmas.Option.{slice_get_within}
use Rattle.std.proofs.Common.{Option, inl, inr, ◌++◌, ◌∷◌, []}
use Rattle.profile_plan.specs.declared.port.PortPlan.{PortPlan}
use Rattle.profile_plan.specs.Profile.{Plan}
use Rattle.port_egress.specs.Egress.{IsUnbegun}
use Rattle.qos_pipeline.specs.Ports.{setup_of}
use Rattle.qos_io.specs.declared.sink.Sink.{Ghosts as Sinks}
use Rattle.port_egress.specs.declared.egress.Egress.{Egress}
use Rattle.qos_pipeline.specs.Outputs.{HasBegunWith, HaveBegunWith}
use Rattle.qos_pipeline.proofs.Places.{get-push, one-there, set-here, set-other}

module _ {K : Type 0} {G : Sinks K} (outs : List (Option K)) (before : List (Egress K G)) where
  -- those below an index are begun, and the others are as they were
  pub record BegunBelow (i : ℕ) (after : List (Egress K G)) : Type 0 where
    pub count : length after ≡ length before
    pub each : (n : ℕ) (out : Option K) (e f : Egress K G) → n < i → slice_get outs n ≡ Some out → slice_get before n ≡ Some e
        → slice_get after n ≡ Some f → HasBegunWith out e f
    pub same : (n : ℕ) → i ≤ n → slice_get after n ≡ slice_get before n

  -- none yet
  pub begun-none : BegunBelow 0 before
  begun-none = record { count = refl; each = λ n out e f below. absurd (omega arith); same = λ n above. refl }

  -- one more
  pub begun-more : (i : ℕ) (after : List (Egress K G)) (out : Option K) (e f : Egress K G) → BegunBelow i after → slice_get outs i ≡ Some out
      → slice_get after i ≡ Some e → HasBegunWith out e f → BegunBelow (i + 1) (set after i f)
  begun-more i after out e f below here is begun = record {
    count = length-set after i f ∙ below.count;
    each = λ n o d g early at was now. elim (cases_eq n i) [
      | inl same ↦
          let out_is : out ≡ o = one-there outs n out o (rw same here) at in
          let e_is : e ≡ d = one-there before n e d (rw same (sym (below.same i (omega arith)) ∙ is)) was in
          let f_is : f ≡ g = one-there (set after i f) n f g (rw same (set-here after i f (slice_get_within after i e is))) now in
          rw (← out_is, ← e_is, ← f_is) begun
      | inr other ↦ below.each n o d g (omega (arith, other)) at was (sym (set-other after i n f other) ∙ now)
    ];
    same = λ n above. let other : n ≢ i = omega arith in set-other after i n f other ∙ below.same n (omega arith);
  }

  -- all
  pub begun-all : (i : ℕ) (after : List (Egress K G)) → BegunBelow i after → length after ≤ i → HaveBegunWith outs before after
  begun-all i after below all = record {
    count = below.count;
    each = λ n out e f at was now. below.each n out e f (omega (arith, all, slice_get_within after n f now)) at was now;
  }

-- the egresses of ports, and that of one port more
pub unbegun-more : {K : Type 0} {G : Sinks K} (p : Plan) (origin : ℕ) (es : List (Egress K G)) (f : Egress K G)
    → ((n : ℕ) (plan : PortPlan) (e : Egress K G) → slice_get p.ports n ≡ Some plan → slice_get es n ≡ Some e → IsUnbegun (setup_of p origin plan) e)
    → ((plan : PortPlan) → slice_get p.ports (length es) ≡ Some plan → IsUnbegun (setup_of p origin plan) f)
    → (n : ℕ) (plan : PortPlan) (e : Egress K G) → slice_get p.ports n ≡ Some plan → slice_get (es ++ f ∷ []) n ≡ Some e
    → IsUnbegun (setup_of p origin plan) e
unbegun-more {K = K} {G = G} p origin es f so one n plan e at is = elim (get-push es f e n is) [
  | inl early ↦ so n plan e at early
  | inr last ↦ subst (λ (x : Egress K G). IsUnbegun (setup_of p origin plan) x) last.1
      (one plan (subst (λ (i : ℕ). slice_get p.ports i ≡ Some plan) last.0 at))
]
