-- Lists that stand one after another: how many items there are, and the first of them.
use Rattle.std.proofs.Common.{◌≡◌, ℕ, zero, suc, ◌+◌, ◌<◌, List, [], ◌∷◌, ◌++◌, length, map, take, drop, get_or, set, Option, Some, None, refl, sym, ap, ◌∙◌, arith, add-one}
use Rattle.std.specs.List.{flat_map, slice_get}
use Rattle.std.proofs.lemmas.List.{get_or-map, map-set, length-map}

empty-parts : {T : Type 0} (a b : List T) → a ++ b ≡ [] → (a ≡ []) × (b ≡ [])
empty-parts [] b e = (refl, e)
empty-parts (x ∷ a) b e = absurd (cc)

append-first : {T : Type 0} (a b : List T) (t : T) → slice_get a 0 ≡ Some t → slice_get (a ++ b) 0 ≡ Some t
append-first [] b t e = absurd (cc)
append-first (x ∷ a) b t e = e

append-rest : {T : Type 0} (a b : List T) (t : T) → slice_get a 0 ≡ Some t → drop 1 (a ++ b) ≡ drop 1 a ++ b
append-rest [] b t e = absurd (cc)
append-rest (x ∷ a) b t e = refl

no-first : {T : Type 0} (a : List T) → slice_get a 0 ≡ None → a ≡ []
no-first [] e = refl
no-first (x ∷ a) e = absurd (cc)

append-nil : {T : Type 0} (xs : List T) → xs ++ [] ≡ xs
append-nil [] = refl
append-nil (x ∷ xs) = ap (λ ys. x ∷ ys) (append-nil xs)

module _ {X T : Type 0} (f : X → List T) where
  after-empty :
      (xs : List X) (i : ℕ) (x : X) → i < length xs → x ≡ get_or xs i x → flat_map f (take i xs) ≡ [] →
      flat_map f xs ≡ f x ++ flat_map f (drop (suc i) xs)
  after-empty [] i x inside here before = absurd (omega arith)
  after-empty (y ∷ xs) zero x inside here before = ap (λ z. f z ++ flat_map f xs) (sym here)
  after-empty (y ∷ xs) (suc i) x inside here before =
      let parts = empty-parts (f y) (flat_map f (take i xs)) before in
      ap (λ ys. ys ++ flat_map f xs) parts.0 ∙ after-empty xs i x (omega arith) here parts.1

  set-after-empty :
      (xs : List X) (i : ℕ) (x : X) → i < length xs → flat_map f (take i xs) ≡ [] →
      flat_map f (set xs i x) ≡ f x ++ flat_map f (drop (suc i) xs)
  set-after-empty [] i x inside before = absurd (omega arith)
  set-after-empty (y ∷ xs) zero x inside before = refl
  set-after-empty (y ∷ xs) (suc i) x inside before =
      let parts = empty-parts (f y) (flat_map f (take i xs)) before in
      ap (λ ys. ys ++ flat_map f (set xs i x)) parts.0 ∙ set-after-empty xs i x (omega arith) parts.1

  take-set-more :
      (xs : List X) (i : ℕ) (x : X) → i < length xs → flat_map f (take i xs) ≡ [] → f x ≡ [] →
      flat_map f (take (suc i) (set xs i x)) ≡ []
  take-set-more [] i x inside before none = absurd (omega arith)
  take-set-more (y ∷ xs) zero x inside before none = append-nil (f x) ∙ none
  take-set-more (y ∷ xs) (suc i) x inside before none =
      let parts = empty-parts (f y) (flat_map f (take i xs)) before in
      ap (λ ys. ys ++ flat_map f (take (suc i) (set xs i x))) parts.0 ∙ take-set-more xs i x (omega arith) parts.1 none

-- The pieces before the i-th are empty, and from that one its first item was taken, if it has one.
pub record Drains {X T : Type 0} (f : X → List T) (xs : List X) (i : ℕ) (old new : X) (taken : Option T) : Type 0 where
  pub inside : i < length xs
  pub here : old ≡ get_or xs i old
  pub before : flat_map f (take i xs) ≡ []
  pub first : taken ≡ slice_get (f old) 0
  pub rest : f new ≡ drop 1 (f old)

module _ {X T : Type 0} (f : X → List T) (xs : List X) (i : ℕ) (old new : X) (taken : Option T) (d : Drains f xs i old new taken) where
  pub first-drained : (t : T) → taken ≡ Some t → taken ≡ slice_get (flat_map f xs) 0
  first-drained t is =
      let had : slice_get (f old) 0 ≡ Some t = sym d.first ∙ is in
      is ∙ sym (ap (λ ts. slice_get ts 0) (after-empty f xs i old d.inside d.here d.before) ∙ append-first (f old) _ t had)

  pub rest-drained : (t : T) → taken ≡ Some t → flat_map f (set xs i new) ≡ drop 1 (flat_map f xs)
  rest-drained t is =
      let had : slice_get (f old) 0 ≡ Some t = sym d.first ∙ is in
      set-after-empty f xs i new d.inside d.before ∙ ap (λ ts. ts ++ flat_map f (drop (suc i) xs)) d.rest
      ∙ sym (ap (drop 1) (after-empty f xs i old d.inside d.here d.before) ∙ append-rest (f old) _ t had)

  nothing-there : taken ≡ None → (f old ≡ []) × (f new ≡ [])
  nothing-there is =
      let none : f old ≡ [] = no-first (f old) (sym d.first ∙ is) in (none, d.rest ∙ ap (drop 1) none)

  -- where it has none, all is as it was
  pub same-drained : taken ≡ None → flat_map f (set xs i new) ≡ flat_map f xs
  same-drained is =
      let none = nothing-there is in
      set-after-empty f xs i new d.inside d.before ∙ ap (λ ts. ts ++ flat_map f (drop (suc i) xs)) (none.1 ∙ sym none.0)
      ∙ sym (after-empty f xs i old d.inside d.here d.before)

  pub empty-drained : taken ≡ None → flat_map f (take (i + 1) (set xs i new)) ≡ []
  empty-drained is = rw (add-one i) (take-set-more f xs i new d.inside d.before (nothing-there is).1)

-- the same, where the pieces are those of what the items stand for
pub record DrainsAt {X Y T : Type 0} (of : X → Y) (f : Y → List T) (items : List X) (k : ℕ) (old new : X) (taken : Option T) : Type 0 where
  pub inside : k < length items
  pub here : old ≡ get_or items k old
  pub before : flat_map f (take k (map of items)) ≡ []
  pub first : taken ≡ slice_get (f (of old)) 0
  pub rest : f (of new) ≡ drop 1 (f (of old))

module _ {X Y T : Type 0} (of : X → Y) (f : Y → List T) (items : List X) (k : ℕ) (old new : X) (taken : Option T) (d : DrainsAt of f items k old new taken) where
  drains : Drains f (map of items) k (of old) (of new) taken
  drains = record {
    inside = omega (arith, d.inside, length-map items of);
    here = ap of d.here ∙ sym (get_or-map of items k old (of old) d.inside);
    before = d.before;
    first = d.first;
    rest = d.rest;
  }

  pub first-at : (t : T) → taken ≡ Some t → taken ≡ slice_get (flat_map f (map of items)) 0
  first-at = first-drained f (map of items) k (of old) (of new) taken drains

  pub rest-at : (t : T) → taken ≡ Some t → flat_map f (map of (set items k new)) ≡ drop 1 (flat_map f (map of items))
  rest-at t is = ap (flat_map f) (map-set of items k new) ∙ rest-drained f (map of items) k (of old) (of new) taken drains t is

  pub same-at : taken ≡ None → flat_map f (map of (set items k new)) ≡ flat_map f (map of items)
  same-at is = ap (flat_map f) (map-set of items k new) ∙ same-drained f (map of items) k (of old) (of new) taken drains is

  pub empty-at : taken ≡ None → flat_map f (take (k + 1) (map of (set items k new))) ≡ []
  empty-at is = ap (λ xs. flat_map f (take (k + 1) xs)) (map-set of items k new) ∙ empty-drained f (map of items) k (of old) (of new) taken drains is
