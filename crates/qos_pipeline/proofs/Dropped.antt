-- Outputs that were created are closed where memory was refused.
use Rattle.std.proofs.Common.{◌≡◌, ◌≤◌, ◌<◌, ◌∙◌, ◌++◌, ◌∷◌, [], ℕ, zero, suc, List, length, take, get_or, Option, None, Some, IsSome, IfSome, All}
use Rattle.std.proofs.Common.{inl, inr, refl, sym, ap, subst, arith}
use Rattle.std.specs.List.{Contains, slice_get}
use Rattle.std.proofs.Math.Nat.{lt_of_lt_of_le}
use Rattle.std.proofs.lemmas.Option.{slice_get-get_or, slice_get_within}
use Rattle.qos_io.specs.declared.shelf.Shelf.{Ghosts as Shelves}
use Rattle.qos_io.specs.declared.sink.Sink.{Ghosts as Sinks}
use Rattle.qos_io.specs.Fault.{HasRisen}
use Rattle.port_files.specs.Among.{AreApart, ChangesAmong}
use Rattle.port_files.specs.Change.{FileChange, IsKept, change_of}
use Rattle.port_files.specs.Outs.{AllTell, AreNamed, IsCreated, IsCreatedIf, IsShut}
use Rattle.qos_pipeline.specs.Outputs.{IsDropped}

module _ {X : Type 0} where
  -- an element of a front is one of the whole
  from-front : (m : ℕ) (xs : List X) (n : ℕ) (x : X) → slice_get (take m xs) n ≡ Some x → (slice_get xs n ≡ Some x) × (n < m)
  from-front zero xs n x is = absurd (let not : ⊥ = cc in not)
  from-front (suc m) [] n x is = absurd (let not : ⊥ = cc in not)
  from-front (suc m) (y ∷ ys) zero x is = (is, omega arith)
  from-front (suc m) (y ∷ ys) (suc n) x is = let rest = from-front m ys n x is in (rest.0, omega (arith, rest.1))

  in-front : (m : ℕ) (xs : List X) (n : ℕ) (x : X) → n < m → slice_get xs n ≡ Some x → slice_get (take m xs) n ≡ Some x
  in-front zero xs n x below is = absurd (omega arith)
  in-front (suc m) [] n x below is = is
  in-front (suc m) (y ∷ ys) zero x below is = is
  in-front (suc m) (y ∷ ys) (suc n) x below is = in-front m ys n x (omega arith) is

-- each sink has a name
module _ {Out : Type 0} (G : Sinks Out) where
  name-there : (names : List (List ℕ)) (outs : List (Option Out)) (n : ℕ) (out : Option Out) → AreNamed G names outs → slice_get outs n ≡ Some out
      → IfSome out (λ k. IsSome (G.name k))
  name-there names outs n None named at = tt
  name-there names outs n (Some k) named at = subst IsSome (sym (named n k at).2) refl

  pub all-named : (names : List (List ℕ)) (outs : List (Option Out)) → AreNamed G names outs → All (λ out. IfSome out (λ k. IsSome (G.name k))) outs
  all-named names outs named n d within = name-there names outs n (get_or outs n d) named (slice_get-get_or outs n d within)

pub created-some : {Out : Type 0} (G : Sinks Out) (c : FileChange) (o : Option (Option Out)) → IsCreatedIf G c o → IfSome o (IsCreated G c)
created-some G c None kept = tt
created-some G c (Some out) made = made

pub rose-early : (a b c : ℕ) → b ≤ c → HasRisen a b → HasRisen a c
rose-early a b c on (inl more) = inl (lt_of_lt_of_le more on)
rose-early a b c on (inr last) = inr last

module _ {H In Out : Type 0} (F : Shelves H In Out) (G : Sinks Out) (names : List (List ℕ)) (outs : List (Option Out)) (differ : AreApart names)
    (named : AreNamed G names outs) (old mid : H)
    (created : (n : ℕ) (name : List ℕ) → slice_get names n ≡ Some name → IsCreatedIf G (change_of F name old mid) (slice_get outs n)) where
  created-at : (n : ℕ) (name : List ℕ) (out : Option Out) → slice_get names n ≡ Some name → slice_get outs n ≡ Some out
      → IsCreated G (change_of F name old mid) out
  created-at n name out at is = subst (IsCreatedIf G (change_of F name old mid)) is (created n name at)

  -- each sink is empty
  pub created-tell : AllTell G outs
  created-tell n k is =
      let name = named n k is in
      let made = created-at n name.0 (Some k) name.1 is in
      subst IsSome (sym made.1.1) refl

  module _ (new : H) (tells : F.Tells mid) (named_only : (some : List (List ℕ)) → AreNamed G some outs → ChangesAmong F some mid new)
      (shut : (n : ℕ) (name : List ℕ) → slice_get names n ≡ Some name
      → IfSome (slice_get outs n) (λ out. IsShut G (change_of F name mid new) out)) where
    named-front : AreNamed G (take (length outs) names) outs
    named-front n k is =
        let name = named n k is in
        (name.0, in-front (length outs) names n name.0 (slice_get_within outs n (Some k) is) name.1, name.2)

    -- a name that was not tried is none of those of the sinks
    untried : (n : ℕ) (name : List ℕ) → slice_get names n ≡ Some name → slice_get outs n ≡ None → Contains (take (length outs) names) name → ⊥
    untried n name at none among =
        let there = slice_get-get_or (take (length outs) names) among.0 name among.1 ∙ ap Some among.2 in
        let front = from-front (length outs) names among.0 name there in
        let same : n ≡ among.0 = differ n among.0 name at front.0 in
        let out = get_or outs n None in
        let some : slice_get outs n ≡ Some out = slice_get-get_or outs n None (omega (arith, same, front.1)) in
        let not : ⊥ = cc in
        not

    kept : (n : ℕ) (name : List ℕ) → slice_get names n ≡ Some name → slice_get outs n ≡ None → IsKept (change_of F name mid new)
    kept n name at none =
        let others = named_only (take (length outs) names) named-front in
        record { file = others.files name (untried n name at none); closed = others.closed tells name (untried n name at none) }

    dropped-by : (n : ℕ) (name : List ℕ) (o : Option (Option Out)) → F.faults mid ≤ F.faults new → IsCreatedIf G (change_of F name old mid) o
        → (o ≡ None → IsKept (change_of F name mid new)) → IfSome o (λ out. IsShut G (change_of F name mid new) out)
        → IsDropped (change_of F name old new)
    dropped-by n name None on made stays closed =
        let second = stays refl in
        inl (record { file = inl (second.file ∙ made.file); closed = second.closed ∙ made.closed })
    dropped-by n name (Some None) on made stays closed = inl (record {
      file = elim made.1.1 [
        | inl same ↦ inl (closed.file ∙ same)
        | inr empty ↦ inr (rose-early (F.faults old) (F.faults mid) (F.faults new) on made.1.0, closed.file ∙ empty)
      ];
      closed = closed.closed ∙ made.0;
    })
    dropped-by n name (Some (Some k)) on made stays closed =
        let shut = closed [] made.1.1 in
        inr (record { closed = shut.closed ∙ ap (λ cs. cs ++ [] ∷ []) made.0; file = shut.file })

    pub dropped-all : (n : ℕ) (name : List ℕ) → slice_get names n ≡ Some name → IsDropped (change_of F name old new)
    dropped-all n name at =
        dropped-by n name (slice_get outs n) (named_only names named).never_falls (created n name at) (kept n name at) (shut n name at)
