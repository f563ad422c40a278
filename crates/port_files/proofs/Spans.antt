-- What became of the file of a name over two spans of calls, of which one kept it.
use Rattle.std.proofs.Common.{◌≤◌, ◌∙◌, ◌++◌, ◌∷◌, [], ℕ, List, Option, None, Some, Bool, true, false, inl, inr, sym, ap, subst}
use Rattle.std.specs.List.{Contains}
use Rattle.std.proofs.Math.Nat.{lt_of_lt_of_le}
use Rattle.qos_io.specs.declared.shelf.Shelf.{Ghosts}
use Rattle.qos_io.specs.declared.sink.Sink.{Ghosts as Sinks}
use Rattle.qos_io.specs.Fault.{HasRisen-late}
use Rattle.qos_io.specs.Bytes.{HoldsPrefix}
use Rattle.port_files.specs.Change.{Rose, IsKept, change_of}
use Rattle.port_files.specs.Among.{ChangesAmong}
use Rattle.port_files.specs.Outs.{IsCreated, IsShut, IsTold}

module _ {H In Out : Type 0} (G : Ghosts H In Out) (name : List ℕ) where
  -- calls kept the file of the name, and the count of faults did not fall
  pub record Passes (a b : H) : Type 0 where
    pub kept : IsKept (change_of G name a b)
    pub never_falls : G.faults a ≤ G.faults b

  -- calls for other names pass it
  pub passes : {names : List (List ℕ)} {a b : H} → ChangesAmong G names a b → G.Tells a → (Contains names name → ⊥) → Passes a b
  passes changes tells apart = record {
    kept = record { file = changes.files name apart; closed = changes.closed tells name apart };
    never_falls = changes.never_falls;
  }

  module _ (a b c : H) where
    pub kept-then : IsKept (change_of G name a b) → IsKept (change_of G name b c) → IsKept (change_of G name a c)
    kept-then first second = record { file = second.file ∙ first.file; closed = second.closed ∙ first.closed }

    rose-early : Passes b c → Rose (change_of G name a b) → Rose (change_of G name a c)
    rose-early pass (inl more) = inl (lt_of_lt_of_le more pass.never_falls)
    rose-early pass (inr last) = inr last

    rose-late : Passes a b → G.faults b ≤ G.faults c → Rose (change_of G name b c) → Rose (change_of G name a c)
    rose-late pass on rose = HasRisen-late (G.faults a) (G.faults b) (G.faults c) pass.never_falls on rose

    module _ (K : Sinks Out) where
      -- created, and then passed
      pub created-early : (out : Option Out) → Passes b c → IsCreated K (change_of G name a b) out → IsCreated K (change_of G name a c) out
      created-early None pass is = (
        pass.kept.closed ∙ is.0,
        (rose-early pass is.1.0, elim is.1.1 [ inl same ↦ inl (pass.kept.file ∙ same) | inr empty ↦ inr (pass.kept.file ∙ empty) ]),
      )
      created-early (Some k) pass is = (pass.kept.closed ∙ is.0, is.1)

      -- passed, and then created
      pub created-late : (out : Option Out) → Passes a b → G.faults b ≤ G.faults c → IsCreated K (change_of G name b c) out
          → IsCreated K (change_of G name a c) out
      created-late None pass on is = (
        is.0 ∙ pass.kept.closed,
        (rose-late pass on is.1.0, elim is.1.1 [ inl same ↦ inl (same ∙ pass.kept.file) | inr empty ↦ inr empty ]),
      )
      created-late (Some k) pass on is = (is.0 ∙ pass.kept.closed, is.1)

      -- closed, and then passed
      pub shut-early : (out : Option Out) → Passes b c → IsShut K (change_of G name a b) out → IsShut K (change_of G name a c) out
      shut-early None pass is = kept-then is pass.kept
      shut-early (Some k) pass is = λ held holds.
          let shut = is held holds in
          record { closed = pass.kept.closed ∙ shut.closed; file = subst (HoldsPrefix held) (sym pass.kept.file) shut.file }

      -- passed, and then closed
      pub shut-late : (out : Option Out) → Passes a b → IsShut K (change_of G name b c) out → IsShut K (change_of G name a c) out
      shut-late None pass is = kept-then pass.kept is
      shut-late (Some k) pass is = λ held holds.
          let shut = is held holds in
          record { closed = shut.closed ∙ ap (λ cs. cs ++ held ∷ []) pass.kept.closed; file = shut.file }

      pub told-early : (out : Option Out) (failed : Bool) → Passes b c → IsTold K (change_of G name a b) out failed
          → IsTold K (change_of G name a c) out failed
      told-early out true pass is = rose-early pass is
      told-early None false pass is = tt
      told-early (Some k) false pass is = λ held holds. pass.kept.file ∙ is held holds

      pub told-late : (out : Option Out) (failed : Bool) → Passes a b → G.faults b ≤ G.faults c → IsTold K (change_of G name b c) out failed
          → IsTold K (change_of G name a c) out failed
      told-late out true pass on is = rose-late pass on is
      told-late None false pass on is = tt
      told-late (Some k) false pass on is = is
