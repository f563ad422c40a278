-- One closing after others, for names of which each stands once.
use Rattle.std.proofs.Common.{◌≡◌, ◌++◌, ◌∷◌, ◌∙◌, ◌⊎◌, [], ℕ, Bool, true, false, List, Option, None, Some, IsSome, IfSome, MatchOption}
use Rattle.std.proofs.Common.{length, slice_get, inl, inr, refl, sym, ap, subst, arith}
use Rattle.std.proofs.Common.{Result, IfOk, OnOk, Ok, Err}
use Rattle.std.specs.Bool.{beq}
use Rattle.std.specs.List.{Contains}
use Rattle.std.specs.Result.{result_and, result_eq}
use Rattle.std.proofs.lemmas.Result.{on_ok_weaker}
use Rattle.std.proofs.lemmas.Option.{slice_get_past, same_Some}
use Rattle.qos_base.specs.declared.memory.NoMemory.{NoMemory}
use Rattle.qos_io.specs.declared.shelf.Shelf.{Ghosts}
use Rattle.qos_io.specs.declared.sink.Sink.{Ghosts as Sinks}
use Rattle.port_files.specs.Change.{IsKept, change_of}
use Rattle.port_files.specs.Among.{AreApart, ChangesAmong, ChangesAmong-then}
use Rattle.port_files.specs.Outs.{AllTell, AreNamed, IsShut, IsTold}
use Rattle.port_files.proofs.Places.{among-names, each-push, each-push-both, get-front, get-last}
use Rattle.port_files.proofs.Places.{names-differ, none-of, only-one}
use Rattle.port_files.proofs.Spans.{Passes, passes, kept-then, shut-early, shut-late, told-early, told-late}

-- where there is no sink no closing failed
abbrev pub AreNone : {Out : Type 0} → List (Option Out) → List Bool → Type 0
AreNone outs failed = (n : ℕ) → slice_get outs n ≡ Some None → slice_get failed n ≡ Some false

-- no closing of a sink that is sure failed
abbrev pub AreFine : {Out : Type 0} → Sinks Out → List (Option Out) → List Bool → Type 0
AreFine K outs failed = (n : ℕ) → IfSome (slice_get outs n) (λ out. IfSome out K.IsSure → slice_get failed n ≡ Some true → ⊥)

module _ {H In Out : Type 0} (G : Ghosts H In Out) (K : Sinks Out) (a b : H) where
  -- what became of each name
  abbrev pub AreShut : List (Option Out) → Type 0
  AreShut outs = (names : List (List ℕ)) → AreNamed K names outs → AreApart names → (n : ℕ) (name : List ℕ) → slice_get names n ≡ Some name
      → MatchOption (slice_get outs n) (IsKept (change_of G name a b)) (IsShut K (change_of G name a b))

  -- and what was told of it
  abbrev pub AreToldOf : List (Option Out) → List Bool → Type 0
  AreToldOf outs failed = (names : List (List ℕ)) → AreNamed K names outs → AreApart names → (n : ℕ) (name : List ℕ)
      → slice_get names n ≡ Some name → IfSome (slice_get outs n) (λ out. IfSome (slice_get failed n) (IsTold K (change_of G name a b) out))

-- what is kept where there is no sink is left out
pub of-sinks : {X : Type 0} (o : Option X) (P : Type 0) (Q : X → Type 0) → MatchOption o P Q → IfSome o Q
of-sinks None P Q is = tt
of-sinks (Some x) P Q is = is

-- whether a closing failed, by what it answered
abbrev pub IsFailure : Result Bool NoMemory → Bool → Type 0
IsFailure closed fails = (closed ≡ Ok fails) ⊎ ((e : NoMemory) × (closed ≡ Err e) × (fails ≡ false))

pub failure-by : (same : NoMemory → NoMemory → Bool) (closed : Result Bool NoMemory) (fails : Bool)
    → fails ≡ result_eq beq same closed (Ok true) → IsFailure closed fails
failure-by same (Ok true) fails is = inl (ap Ok (sym is))
failure-by same (Ok false) fails is = inl (ap Ok (sym is))
failure-by same (Err e) fails is = inr (e, refl, is)

-- none failed where it answered that
pub failure-none : (closed : Result Bool NoMemory) (fails : Bool) → IsFailure closed fails → closed ≡ Ok false → fails ≡ false
failure-none closed fails (inl is) none = cc
failure-none closed fails (inr (e, is, fine)) none = fine

pub failure-some : (closed : Result Bool NoMemory) (fails : Bool) → IsFailure closed fails → fails ≡ true → closed ≡ Ok true
failure-some closed fails (inl is) some = cc
failure-some closed fails (inr (e, is, fine)) some = absurd (let not : ⊥ = cc in not)

-- one more place of the two lists
pub none-more : {Out : Type 0} (outs : List (Option Out)) (out : Option Out) (failed : List Bool) (fails : Bool)
    → length failed ≡ length outs
    → (out ≡ None → fails ≡ false) → AreNone outs failed → AreNone (outs ++ out ∷ []) (failed ++ fails ∷ [])
none-more outs out failed fails same none so n =
    each-push-both outs out failed fails same (λ o f. o ≡ Some None → f ≡ Some false) n
    (λ e is. ap Some (none (same_Some out None is))) (λ apart. so n)

pub fine-more : {Out : Type 0} (K : Sinks Out) (outs : List (Option Out)) (out : Option Out) (failed : List Bool) (fails : Bool)
    → length failed ≡ length outs → (IfSome out K.IsSure → fails ≡ true → ⊥) → AreFine K outs failed
    → AreFine K (outs ++ out ∷ []) (failed ++ fails ∷ [])
fine-more K outs out failed fails same sure so n =
    each-push-both outs out failed fails same (λ o f. IfSome o (λ out. IfSome out K.IsSure → f ≡ Some true → ⊥)) n
    (λ e is wrong. sure is (same_Some fails true wrong)) (λ apart. so n)

module _ {Out : Type 0} (K : Sinks Out) where
  -- the sink is of this name, if there is one
  abbrev pub HasName : List ℕ → Option Out → Type 0
  HasName name out = IfSome out (λ k. K.name k ≡ Some name)

  -- its name is among these, if there is one
  abbrev pub IsAmong : List (List ℕ) → Option Out → Type 0
  IsAmong names out = IfSome out (λ k. IfSome (K.name k) (Contains names))

  -- the sink tells what it holds, if there is one
  abbrev pub IsTelling : Option Out → Type 0
  IsTelling out = IfSome out (λ k. IsSome (K.contents k))

  module _ (outs : List (Option Out)) where
    -- what holds of all sinks holds of those in front, and of the last
    named-front : (out : Option Out) (names : List (List ℕ)) → AreNamed K names (outs ++ out ∷ []) → AreNamed K names outs
    named-front out names named n k at = named n k (get-front outs out n (Some k) at)

    named-last : (out : Option Out) (names : List (List ℕ)) → AreNamed K names (outs ++ out ∷ []) → (name : List ℕ)
        → slice_get names (length outs) ≡ Some name → HasName name out
    named-last None names named name at = tt
    named-last (Some k) names named name at =
        let is = named (length outs) k (get-last outs (Some k)) in
        is.2 ∙ sym is.1 ∙ at

    among-last : (out : Option Out) (names : List (List ℕ)) → AreNamed K names (outs ++ out ∷ []) → IsAmong names out
    among-last None names named = tt
    among-last (Some k) names named =
        let is = named (length outs) k (get-last outs (Some k)) in
        subst (λ (o : Option (List ℕ)). IfSome o (Contains names)) (sym is.2) (among-names names (length outs) is.0 is.1)

    pub tell-front : (out : Option Out) → AllTell K (outs ++ out ∷ []) → AllTell K outs
    tell-front out tell n k at = tell n k (get-front outs out n (Some k) at)

    tell-last : (out : Option Out) → AllTell K (outs ++ out ∷ []) → IsTelling out
    tell-last None tell = tt
    tell-last (Some k) tell = tell (length outs) k (get-last outs (Some k))

module _ {H In Out : Type 0} (G : Ghosts H In Out) (K : Sinks Out) where
  -- one sink was closed, if there is one
  pub record IsClosing (out : Option Out) (closed : Result Bool NoMemory) (b c : H) : Type 0 where
    pub shut : G.Tells b → (name : List ℕ) → HasName K name out → IsShut K (change_of G name b c) out
    pub told : G.Tells b → (name : List ℕ) → HasName K name out → IfOk closed (IsTold K (change_of G name b c) out)
    pub others : (names : List (List ℕ)) → IsAmong K names out → (G.Tells b → IsTelling K out) → ChangesAmong G names b c

  -- it passes each other name
  pass-one : (out : Option Out) (closed : Result Bool NoMemory) (b c : H) (of : List ℕ) → IsClosing out closed b c → G.Tells b
      → IsTelling K out
      → ((k : Out) → out ≡ Some k → (name : List ℕ) × (K.name k ≡ Some name) × (name ≡ of → ⊥)) → Passes G of b c
  pass-one None closed b c of one tells told other = passes G of (one.others [] tt (λ _. tt)) tells none-of
  pass-one (Some k) closed b c of one tells told other =
      let is = other k refl in
      let name : List ℕ = is.0 in
      let among : Contains (name ∷ []) name = among-names (name ∷ []) 0 name refl in
      passes G of
      (one.others (name ∷ []) (subst (λ (o : Option (List ℕ)). IfSome o (Contains (name ∷ []))) (sym is.1) among) (λ _. told)) tells
      (λ only. is.2 (only-one name of only))

  module _ (a b c : H) (outs : List (Option Out)) (out : Option Out) (closed : Result Bool NoMemory) (one : IsClosing out closed b c)
      (shut : G.Tells a → AllTell K outs → AreShut G K a b outs)
      (others : (names : List (List ℕ)) → AreNamed K names outs → (G.Tells a → AllTell K outs) → ChangesAmong G names a b) where
    shut_early : (of : List ℕ) (o : Option (Option Out)) → Passes G of b c
        → MatchOption o (IsKept (change_of G of a b)) (IsShut K (change_of G of a b))
        → MatchOption o (IsKept (change_of G of a c)) (IsShut K (change_of G of a c))
    shut_early of None pass is = kept-then G of a b c is pass.kept
    shut_early of (Some o) pass is = shut-early G of a b c K o pass is

    told_early : (of : List ℕ) (o : Option (Option Out)) (f : Option Bool) → Passes G of b c
        → IfSome o (λ out. IfSome f (IsTold K (change_of G of a b) out)) → IfSome o (λ out. IfSome f (IsTold K (change_of G of a c) out))
    told_early of None f pass is = tt
    told_early of (Some o) None pass is = tt
    told_early of (Some o) (Some f) pass is = told-early G of a b c K o f pass is

    -- what else changed
    pub closing-others : (names : List (List ℕ)) → AreNamed K names (outs ++ out ∷ []) → (G.Tells a → AllTell K (outs ++ out ∷ []))
        → ChangesAmong G names a c
    closing-others names named tell =
        let first = others names (named-front K outs out names named) (λ t. tell-front K outs out (tell t)) in
        ChangesAmong-then first (one.others names (among-last K outs out names named) (λ t. tell-last K outs out (tell (first.tells.0 t))))

    module _ (tells : G.Tells a) (tell : AllTell K (outs ++ out ∷ [])) (names : List (List ℕ)) (named : AreNamed K names (outs ++ out ∷ []))
        (differ : AreApart names) (n : ℕ) (of : List ℕ) (at : slice_get names n ≡ Some of) where
      first : ChangesAmong G names a b
      first = others names (named-front K outs out names named) (λ _. tell-front K outs out tell)

      -- the calls before the closing pass its name
      before : n ≡ length outs → Passes G of a b
      before e = record {
        kept = subst (λ (t : Option (Option Out)). MatchOption t (IsKept (change_of G of a b)) (IsShut K (change_of G of a b)))
            (slice_get_past outs n (omega arith))
            (shut tells (tell-front K outs out tell) names (named-front K outs out names named) differ n of at);
        never_falls = first.never_falls;
      }

      has_name : n ≡ length outs → HasName K of out
      has_name e = named-last K outs out names named of (subst (λ (i : ℕ). slice_get names i ≡ Some of) e at)

      -- and the closing passes the other names
      after : (n ≡ length outs → ⊥) → Passes G of b c
      after apart =
          pass-one out closed b c of one (first.tells.1 tells) (tell-last K outs out tell)
          (λ k e.
          let is = named (length outs) k (get-last outs out ∙ ap Some e) in
          (is.0, is.2, names-differ names differ (length outs) n is.0 of is.1 at apart))

      shut_here : MatchOption (slice_get (outs ++ out ∷ []) n) (IsKept (change_of G of a c)) (IsShut K (change_of G of a c))
      shut_here =
          each-push outs out (λ o. MatchOption o (IsKept (change_of G of a c)) (IsShut K (change_of G of a c))) n
          (λ e. shut-late G of a b c K out (before e) (one.shut (first.tells.1 tells) of (has_name e)))
          (λ apart. shut_early of (slice_get outs n) (after apart)
          (shut tells (tell-front K outs out tell) names (named-front K outs out names named) differ n of at))

      told_here : (failed : List Bool) (fails : Bool) → length failed ≡ length outs → closed ≡ Ok fails → AreToldOf G K a b outs failed
          → IfSome (slice_get (outs ++ out ∷ []) n) (λ o. IfSome (slice_get (failed ++ fails ∷ []) n) (IsTold K (change_of G of a c) o))
      told_here failed fails same is so =
          let b_tells = first.tells.1 tells in
          let second = one.others names (among-last K outs out names named) (λ _. tell-last K outs out tell) in
          each-push-both outs out failed fails same (λ o f. IfSome o (λ out. IfSome f (IsTold K (change_of G of a c) out))) n
          (λ e. told-late G of a b c K out fails (before e) second.never_falls
          (subst (λ (r : Result Bool NoMemory). IfOk r (IsTold K (change_of G of b c) out)) is (one.told b_tells of (has_name e))))
          (λ apart. told_early of (slice_get outs n) (slice_get failed n) (after apart)
          (so names (named-front K outs out names named) differ n of at))

    -- what became of each name
    pub closing-shut : G.Tells a → AllTell K (outs ++ out ∷ []) → AreShut G K a c (outs ++ out ∷ [])
    closing-shut tells tell names named differ n of at = shut_here tells tell names named differ n of at

    -- and what is told of it, where no memory was refused
    pub closing-told : (failed : List Bool) (fails : Bool) (memory : Result (Unit {0}) NoMemory) → length failed ≡ length outs
        → IsFailure closed fails
        → G.Tells a → AllTell K (outs ++ out ∷ []) → OnOk memory (AreToldOf G K a b outs failed)
        → OnOk (result_and closed memory) (AreToldOf G K a c (outs ++ out ∷ []) (failed ++ fails ∷ []))
    closing-told failed fails memory same (inl is) tells tell so =
        rw is (on_ok_weaker memory
        (λ was names named differ n of at. told_here tells tell names named differ n of at failed fails same is was) so)
    closing-told failed fails memory same (inr (e, is, none)) tells tell so = rw is tt
