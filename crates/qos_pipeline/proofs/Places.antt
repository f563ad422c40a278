-- Lists by their places.
use Rattle.std.proofs.Common.{◌≡◌, ◌≢◌, ◌⊎◌, ◌<◌, ◌≤◌, ℕ, zero, suc, ◌+◌, List, [], ◌∷◌, ◌++◌, length, map, set, Option, None, Some, IfSome}
use Rattle.std.proofs.Common.{inl, inr, refl, sym, ap, ◌∙◌, subst, arith, IsSome}
use Rattle.std.specs.List.{slice_get}
use Rattle.std.specs.Option.{option_map}
use Rattle.std.proofs.lemmas.Option.{same_Some, slice_get-get_or, slice_get-map, slice_get_within}
use Rattle.std.proofs.lemmas.List.{append-nil, drop_more, take_all}
use Rattle.std.proofs.Common.{append_assoc, drop, take, get_or, length-drop}
use Rattle.std.specs.Option.{option_to_list}

-- what an option that is there holds
pub some-there : {A : Type 0} (o : Option A) → IsSome o → (a : A) × (o ≡ Some a)
some-there None is = absurd (let not : ⊥ = cc in not)
some-there (Some a) is = (a, refl)

-- a fact about what an option holds
pub from-some : {A : Type 0} (P : A → Type 0) (o : Option A) (a : A) → o ≡ Some a → IfSome o P → P a
from-some P None a is p = absurd (let not : ⊥ = cc in not)
from-some P (Some b) a is p = subst P (same_Some b a is) p

-- the first element
pub same-at : {X : Type 0} (y x : X) → Some y ≡ Some x → y ≡ x
same-at y x is = same_Some y x is

module _ {X : Type 0} where
  -- each place of a list has an element
  pub there : (xs : List X) (n : ℕ) → n < length xs → (x : X) × (slice_get xs n ≡ Some x)
  there [] n within = absurd (omega arith)
  there (x ∷ xs) zero within = (x, refl)
  there (x ∷ xs) (suc n) within = there xs n (omega arith)

  pub one-there : (xs : List X) (n : ℕ) (x y : X) → slice_get xs n ≡ Some x → slice_get xs n ≡ Some y → x ≡ y
  one-there xs n x y is too = same_Some x y (sym is ∙ too)

  -- one element more
  pub get-push : (xs : List X) (x z : X) (n : ℕ) → slice_get (xs ++ x ∷ []) n ≡ Some z
      → (slice_get xs n ≡ Some z) ⊎ ((n ≡ length xs) × (x ≡ z))
  get-push [] x z zero is = inr (refl, same_Some x z is)
  get-push [] x z (suc n) is = absurd (let not : ⊥ = cc in not)
  get-push (y ∷ xs) x z zero is = inl is
  get-push (y ∷ xs) x z (suc n) is = elim (get-push xs x z n is) [ inl early ↦ inl early | inr last ↦ inr (ap suc last.0, last.1) ]

  -- one element that is written
  pub set-here : (xs : List X) (n : ℕ) (x : X) → n < length xs → slice_get (set xs n x) n ≡ Some x
  set-here [] n x within = absurd (omega arith)
  set-here (y ∷ xs) zero x within = refl
  set-here (y ∷ xs) (suc n) x within = set-here xs n x (omega arith)

  pub set-other : (xs : List X) (i n : ℕ) (x : X) → n ≢ i → slice_get (set xs i x) n ≡ slice_get xs n
  set-other [] i n x other = refl
  set-other (y ∷ xs) zero zero x other = absurd (other refl)
  set-other (y ∷ xs) zero (suc n) x other = refl
  set-other (y ∷ xs) (suc i) zero x other = refl
  set-other (y ∷ xs) (suc i) (suc n) x other = set-other xs i n x (λ same. other (ap suc same))

-- a list that is taken from its front
module _ {X : Type 0} where
  pub part-came : (came : List X) (x : X) (later left all : List X) → came ++ left ≡ all → left ≡ x ∷ later → (came ++ x ∷ []) ++ later ≡ all
  part-came came x later left all parts step = append_assoc came (x ∷ []) later ∙ ap (λ ys. came ++ ys) (sym step) ∙ parts

  pub nothing-left : (xs : List X) → length xs ≡ 0 → xs ≡ []
  nothing-left [] none = refl
  nothing-left (x ∷ xs) none = absurd (omega arith)

  pub all-came : (came left all : List X) → came ++ left ≡ all → length left ≡ 0 → came ≡ all
  all-came came left all parts none = sym (append-nil came) ∙ ap (λ ys. came ++ ys) (sym (nothing-left left none)) ∙ parts

  -- the next of those that are left
  pub next-of : (all : List X) (n : ℕ) (r : Option X) (later : List X) → n < length all → IsSome r → drop n all ≡ option_to_list r ++ later
      → (x : X) × (r ≡ Some x) × (slice_get all n ≡ Some x) × (later ≡ drop (n + 1) all)
  next-of all n None later within is rest = absurd (let not : ⊥ = cc in not)
  next-of all n (Some x) later within is rest =
      let here : drop n all ≡ get_or all n x ∷ drop (n + 1) all = drop_more all n x within in
      let same : get_or all n x ∷ drop (n + 1) all ≡ x ∷ later = sym here ∙ rest in
      (x, refl, slice_get-get_or all n x within ∙ ap Some (let first : get_or all n x ≡ x = cc in first), (let then : later ≡ drop (n + 1) all = cc in then))

  -- a list that was written back whole
  pub written-back : (xs ys : List X) (n : ℕ) → length xs ≡ length ys → length xs ≤ n → take n (xs ++ drop (length xs) ys) ≡ xs
  written-back xs ys n same all =
      ap (λ zs. take n (xs ++ zs)) (nothing-left (drop (length xs) ys) (omega (arith, length-drop (length xs) ys, same)))
      ∙ ap (take n) (append-nil xs) ∙ take_all n xs all

module _ {X Y : Type 0} (f : X → Y) where
  pub map-there : (xs : List X) (n : ℕ) (x : X) → slice_get xs n ≡ Some x → slice_get (map f xs) n ≡ Some (f x)
  map-there xs n x is = slice_get-map f xs n ∙ ap (option_map f) is

  pub from-map : (xs : List X) (n : ℕ) (y : Y) → slice_get (map f xs) n ≡ Some y → (x : X) × (slice_get xs n ≡ Some x) × (f x ≡ y)
  from-map [] n y is = absurd (let not : ⊥ = cc in not)
  from-map (x ∷ xs) zero y is = (x, refl, same_Some (f x) y is)
  from-map (x ∷ xs) (suc n) y is = from-map xs n y is

-- what holds at each place of two lists holds of one place more
pub both-push : {X Y : Type 0} (R : ℕ → X → Y → Type 0) (xs : List X) (ys : List Y) (x : X) (y : Y) → length ys ≡ length xs
    → ((n : ℕ) (a : X) (b : Y) → slice_get xs n ≡ Some a → slice_get ys n ≡ Some b → R n a b) → R (length xs) x y
    → (n : ℕ) (a : X) (b : Y) → slice_get (xs ++ x ∷ []) n ≡ Some a → slice_get (ys ++ y ∷ []) n ≡ Some b → R n a b
both-push R xs ys x y same so last n a b is too = elim (get-push xs x a n is) [
  | inl early ↦ elim (get-push ys y b n too) [
    | inl first ↦ so n a b early first
    | inr at ↦ absurd (let within = slice_get_within xs n a early in omega (arith, same, at.0))
  ]
  | inr at ↦ elim (get-push ys y b n too) [
    | inl first ↦ absurd (let within = slice_get_within ys n b first in omega (arith, same, at.0))
    | inr end ↦ rw (at.0, ← at.1, ← end.1) last
  ]
]
