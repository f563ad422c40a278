-- Lists by their places, and lists of names of which each stands once.
use Rattle.std.proofs.Common.{◌≡◌, ◌<◌, ◌∙◌, ◌++◌, ◌∷◌, [], ℕ, zero, suc, List, Option, Some, length, map, get_or, slice_get}
use Rattle.std.proofs.Common.{String, string_bytes, inl, inr, refl, sym, ap, subst, arith}
use Rattle.std.specs.List.{Contains}
use Rattle.std.proofs.lemmas.Bool.{cases_eq}
use Rattle.std.specs.Option.{option_map}
use Rattle.std.proofs.lemmas.Option.{get_or_from_slice_get, slice_get-map, slice_get_read, slice_get_within, same_Some}
use Rattle.port_files.specs.Among.{AreApart}

get-here : {X : Type 0} (xs : List X) (x : X) (n : ℕ) → n ≡ length xs → slice_get (xs ++ x ∷ []) n ≡ Some x
get-here [] x zero e = refl
get-here [] x (suc n) e = absurd (omega arith)
get-here (y ∷ ys) x zero e = absurd (omega arith)
get-here (y ∷ ys) x (suc n) e = get-here ys x n (omega arith)

get-other : {X : Type 0} (xs : List X) (x : X) (n : ℕ) → (n ≡ length xs → ⊥) → slice_get (xs ++ x ∷ []) n ≡ slice_get xs n
get-other [] x zero apart = absurd (apart refl)
get-other [] x (suc n) apart = refl
get-other (y ∷ ys) x zero apart = refl
get-other (y ∷ ys) x (suc n) apart = get-other ys x n (λ e. apart (omega arith))

-- what holds at each place once one more element stands at the end
pub each-push : {X : Type 0} (xs : List X) (x : X) (P : Option X → Type 0) (n : ℕ) → (n ≡ length xs → P (Some x))
    → ((n ≡ length xs → ⊥) → P (slice_get xs n)) → P (slice_get (xs ++ x ∷ []) n)
each-push xs x P n here other = elim (cases_eq n (length xs)) [
  | inl e ↦ subst P (sym (get-here xs x n e)) (here e)
  | inr apart ↦ subst P (sym (get-other xs x n apart)) (other apart)
]

-- and of two lists that are as long
pub each-push-both : {X Y : Type 0} (xs : List X) (x : X) (ys : List Y) (y : Y) → length ys ≡ length xs
    → (P : Option X → Option Y → Type 0) (n : ℕ)
    → (n ≡ length xs → P (Some x) (Some y)) → ((n ≡ length xs → ⊥) → P (slice_get xs n) (slice_get ys n))
    → P (slice_get (xs ++ x ∷ []) n) (slice_get (ys ++ y ∷ []) n)
each-push-both xs x ys y same P n here other =
    each-push xs x (λ o. P o (slice_get (ys ++ y ∷ []) n)) n
    (λ e. subst (P (Some x)) (sym (get-here ys y n (e ∙ sym same))) (here e))
    (λ apart. subst (P (slice_get xs n)) (sym (get-other ys y n (λ e. apart (e ∙ same)))) (other apart))

-- the last element
pub get-last : {X : Type 0} (xs : List X) (x : X) → slice_get (xs ++ x ∷ []) (length xs) ≡ Some x
get-last xs x = get-here xs x (length xs) refl

-- an element in front stays
pub get-front : {X : Type 0} (xs : List X) (x : X) (n : ℕ) (y : X) → slice_get xs n ≡ Some y → slice_get (xs ++ x ∷ []) n ≡ Some y
get-front [] x n y e = absurd (let not : ⊥ = cc in not)
get-front (z ∷ zs) x zero y e = e
get-front (z ∷ zs) x (suc n) y e = get-front zs x n y e

-- the text at a place
pub text-at : {A : Type 0} (texts : List (String A)) (i : ℕ) (text : String A) → i < length texts → text ≡ get_or texts i text
    → slice_get (map string_bytes texts) i ≡ Some (string_bytes text)
text-at texts i text within is =
    slice_get-map string_bytes texts i ∙ ap (option_map string_bytes) (slice_get_read texts (length texts) i text refl within is)

-- a name at a place is among the names
pub among-names : (names : List (List ℕ)) (n : ℕ) (name : List ℕ) → slice_get names n ≡ Some name → Contains names name
among-names names n name at = (n, slice_get_within names n name at, get_or_from_slice_get names n name name at)

-- no name is among none
pub none-of : {name : List ℕ} → Contains [] name → ⊥
none-of (k, within, e) = omega arith

-- a list of one name has no other
pub only-one : (x y : List ℕ) → Contains (x ∷ []) y → x ≡ y
only-one x y (zero, within, e) = e
only-one x y (suc k, within, e) = absurd (omega arith)

-- names at two places differ
pub names-differ : (names : List (List ℕ)) → AreApart names → (i j : ℕ) (x y : List ℕ) → slice_get names i ≡ Some x
    → slice_get names j ≡ Some y
    → (j ≡ i → ⊥) → x ≡ y → ⊥
names-differ names differ i j x y at_i at_j apart e = apart (differ j i y at_j (at_i ∙ ap Some e))

-- and at one place there is one name
pub same-name : (names : List (List ℕ)) (i j : ℕ) (x y : List ℕ) → slice_get names i ≡ Some x → slice_get names j ≡ Some y → j ≡ i → y ≡ x
same-name names i j x y at_i at_j e = same_Some y x (sym at_j ∙ subst (λ (k : ℕ). slice_get names k ≡ Some x) (sym e) at_i)
