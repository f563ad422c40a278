-- One creation after others, for names of which each stands once.
use Rattle.std.proofs.Common.{◌≡◌, ◌≤◌, ◌++◌, ◌∷◌, [], ℕ, List, Option, None, Some, IsSome, IfSome}
use Rattle.std.proofs.Common.{length, slice_get, inl, inr, sym, subst, arith}
use Rattle.std.specs.List.{Contains}
use Rattle.std.proofs.lemmas.Bool.{cases_eq}
use Rattle.std.proofs.lemmas.Option.{slice_get_past, same_Some}
use Rattle.qos_io.specs.declared.shelf.Shelf.{Ghosts}
use Rattle.qos_io.specs.declared.sink.Sink.{Ghosts as Sinks}
use Rattle.port_files.specs.Change.{IsKept, change_of}
use Rattle.port_files.specs.Among.{AreApart, ChangesAmong, ChangesAmong-then, ChangesAmong-wider}
use Rattle.port_files.specs.Outs.{AreNamed, IsCreated, IsCreatedIf}
use Rattle.port_files.proofs.Places.{among-names, each-push, names-differ, only-one, same-name}
use Rattle.port_files.proofs.Spans.{Passes, passes, kept-then, created-early, created-late}

module _ {H In Out : Type 0} (G : Ghosts H In Out) (names : List (List ℕ)) where
  -- the name at a place was tried
  pub record IsTry (at : ℕ) (name : List ℕ) (b c : H) : Type 0 where
    pub differ : AreApart names
    pub here : slice_get names at ≡ Some name
    pub changes : ChangesAmong G (name ∷ []) b c
    pub tells : G.Tells b

  -- each that is sure to be written has a sink that is sure, where it was tried
  abbrev pub AreSure : Sinks Out → H → List (Option Out) → Type 0
  AreSure K a outs = (n : ℕ) (name : List ℕ) → slice_get names n ≡ Some name → G.IsSureToWrite a name
      → IfSome (slice_get outs n) (λ out. IsSome out × IfSome out K.IsSure)

  -- what else changed
  pub others-more : (at : ℕ) (name : List ℕ) → slice_get names at ≡ Some name → {a b c : H} → ChangesAmong G names a b
      → ChangesAmong G (name ∷ []) b c → ChangesAmong G names a c
  others-more at name here first second =
      ChangesAmong-then first (ChangesAmong-wider (λ n only. subst (Contains names) (only-one name n only)
      (among-names names at name here)) second)

  module _ (K : Sinks Out) where
    module _ (outs : List (Option Out)) (name : List ℕ) (here : slice_get names (length outs) ≡ Some name) (out : Option Out) where
      -- each sink has its name
      pub named-more : AreNamed K names outs → IfSome out (λ k. K.name k ≡ Some name) → AreNamed K names (outs ++ out ∷ [])
      named-more so named n k =
          each-push outs out (λ o. o ≡ Some (Some k) → (of : List ℕ) × (slice_get names n ≡ Some of) × (K.name k ≡ Some of)) n
          (λ e is. (
            name,
            subst (λ (i : ℕ). slice_get names i ≡ Some name) (sym e) here,
            subst (λ o. IfSome o (λ s. K.name s ≡ Some name)) (same_Some out (Some k) is) named,
          ))
          (λ apart. so n k)

      -- each that is sure has a sink that is sure
      pub sure-more : (a : H) → AreSure K a outs → (G.IsSureToWrite a name → IsSome out × IfSome out K.IsSure)
          → AreSure K a (outs ++ out ∷ [])
      sure-more a so sure n of at =
          each-push outs out (λ o. G.IsSureToWrite a of → IfSome o (λ s. IsSome s × IfSome s K.IsSure)) n
          (λ e is. sure (subst (G.IsSureToWrite a) (same-name names (length outs) n name of here at e) is)) (λ apart. so n of at)

    -- what became of each name
    abbrev pub AreTried : H → H → List (Option Out) → Type 0
    AreTried a b outs = (n : ℕ) (name : List ℕ) → slice_get names n ≡ Some name → IsCreatedIf K (change_of G name a b) (slice_get outs n)

    module _ (a b c : H) (outs : List (Option Out)) (name : List ℕ) (try : IsTry (length outs) name b c) (so : AreTried a b outs) where
      if_early : (n : List ℕ) (tried : Option (Option Out)) → Passes G n b c → IsCreatedIf K (change_of G n a b) tried
          → IsCreatedIf K (change_of G n a c) tried
      if_early n None pass is = kept-then G n a b c is pass.kept
      if_early n (Some out) pass is = created-early G n a b c K out pass is

      -- the others stay as they were
      other : (n : ℕ) (of : List ℕ) → slice_get names n ≡ Some of → (n ≡ length outs → ⊥)
          → IsCreatedIf K (change_of G of a c) (slice_get outs n)
      other n of at apart =
          if_early of (slice_get outs n)
          (passes G of try.changes try.tells (λ only. names-differ names try.differ (length outs) n name of try.here at apart
          (only-one name of only)))
          (so n of at)

      untried : (of : List ℕ) → slice_get names (length outs) ≡ Some of → IsKept (change_of G of a b)
      untried of at = subst (IsCreatedIf K (change_of G of a b)) (slice_get_past outs (length outs) (omega arith)) (so (length outs) of at)

      -- memory was refused
      pub tried-refused : IsKept (change_of G name b c) → AreTried a c outs
      tried-refused kept n of at = elim (cases_eq n (length outs)) [
        | inl e ↦ subst (λ (t : Option (Option Out)). IsCreatedIf K (change_of G of a c) t) (sym (slice_get_past outs n (omega arith)))
            (subst (λ (x : List ℕ). IsKept (change_of G x a c)) (sym (same-name names (length outs) n name of try.here at e))
            (kept-then G name a b c (untried name try.here) kept))
        | inr apart ↦ other n of at apart
      ]

      -- the creation was tried
      pub tried-more : (out : Option Out) → G.faults a ≤ G.faults b → IsCreated K (change_of G name b c) out
          → AreTried a c (outs ++ out ∷ [])
      tried-more out on made n of at =
          each-push outs out (IsCreatedIf K (change_of G of a c)) n
          (λ e. subst (λ (x : List ℕ). IsCreated K (change_of G x a c) out) (sym (same-name names (length outs) n name of try.here at e))
          (created-late G name a b c K out (record { kept = untried name try.here; never_falls = on }) try.changes.never_falls made))
          (other n of at)
