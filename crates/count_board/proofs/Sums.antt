-- Sums over a list of which one element changes, or of which one element has all; and the parts of a list.
use Rattle.std.proofs.Common.{◌≡◌, ℕ, zero, suc, ◌+◌, ◌*◌, ◌≤◌, List, [], ◌∷◌, ◌++◌, length, take, set, refl, ap, sym, subst, add-one, length-append, arith}
use Rattle.std.specs.List.{sum_by, All}
use Rattle.std.proofs.lemmas.List.{get_or_append_left, get_or-append-add}
use Rattle.std.proofs.lemmas.List.Sums.{sum_by-cons}
use mathlib.Core.Option.{some, some-injective, some-ne-none}
use lib.ListN.{get_elem?}

take_next : {X : Type 0} (xs : List X) (i : ℕ) (x : X) → get_elem? xs i ≡ some x → take (suc i) xs ≡ take i xs ++ x ∷ []
take_next [] i x e = absurd (some-ne-none x (sym e))
take_next (z ∷ zs) zero x e = ap (λ y. y ∷ []) (some-injective z x e)
take_next (z ∷ zs) (suc i) x e = ap (λ l. z ∷ l) (take_next zs i x e)

module _ {X : Type 0} (f : X → ℕ) where
  -- an element is replaced
  pub sum_at : (xs : List X) (i : ℕ) (x y : X) → get_elem? xs i ≡ some x → sum_by f (set xs i y) + f x ≡ sum_by f xs + f y
  sum_at [] i x y e = absurd (some-ne-none x (sym e))
  sum_at (z ∷ zs) zero x y e = let same = ap f (some-injective z x e) in omega (arith, sum_by-cons f z zs, sum_by-cons f y zs)
  sum_at (z ∷ zs) (suc i) x y e = omega (arith, sum_by-cons f z zs, sum_by-cons f z (set zs i y), sum_at zs i x y e)

  -- no element is more than the sum
  pub sum_least : (xs : List X) (i : ℕ) (x : X) → get_elem? xs i ≡ some x → f x ≤ sum_by f xs
  sum_least [] i x e = absurd (some-ne-none x (sym e))
  sum_least (z ∷ zs) zero x e = let same = ap f (some-injective z x e) in omega (arith, sum_by-cons f z zs)
  sum_least (z ∷ zs) (suc i) x e = omega (arith, sum_by-cons f z zs, sum_least zs i x e)

  module _ (g : X → ℕ) (k : ℕ) where
    -- each f is at most k times its g
    pub sum_within : (xs : List X) → ((i : ℕ) (x : X) → get_elem? xs i ≡ some x → f x ≤ k * g x) → sum_by f xs ≤ k * sum_by g xs
    sum_within [] h = omega arith
    sum_within (z ∷ zs) h = omega (arith, sum_by-cons f z zs, ap (λ n. k * n) (sum_by-cons g z zs), h 0 z refl, sum_within zs (λ i. h (suc i)))

    -- the same for all elements but one
    sum_others : (xs : List X) (i : ℕ) (x : X) → get_elem? xs i ≡ some x → ((j : ℕ) (y : X) → get_elem? xs j ≡ some y → f y ≤ k * g y) → sum_by f xs + k * g x ≤ f x + k * sum_by g xs
    sum_others [] i x e h = absurd (some-ne-none x (sym e))
    sum_others (z ∷ zs) zero x e h =
        let same = some-injective z x e in let fs = ap f same in let gs = ap (λ y. k * g y) same in
        omega (arith, sum_by-cons f z zs, ap (λ n. k * n) (sum_by-cons g z zs), sum_within zs (λ i. h (suc i)))
    sum_others (z ∷ zs) (suc i) x e h =
        omega (arith, sum_by-cons f z zs, ap (λ n. k * n) (sum_by-cons g z zs), h 0 z refl, sum_others zs i x e (λ j. h (suc j)))

    -- where one element has all of g, it has all of f
    pub sum_alone : (xs : List X) (i : ℕ) (x : X) → get_elem? xs i ≡ some x → ((j : ℕ) (y : X) → get_elem? xs j ≡ some y → f y ≤ k * g y) → sum_by g xs ≡ g x → sum_by f xs ≡ f x
    sum_alone xs i x e h all =
        let products = ap (λ n. k * n) all in
        omega (arith, sum_others xs i x e h, sum_least xs i x e)

module _ {X : Type 0} (P : X → Type 0) (xs ys : List X) where
  pub all_left : All P (xs ++ ys) → All P xs
  all_left h k d lt = subst P (get_or_append_left xs ys d k lt) (h k d (omega (arith, length-append xs ys)))

  pub all_right : All P (xs ++ ys) → All P ys
  all_right h k d lt = subst P (get_or-append-add xs ys k d) (h (length xs + k) d (omega (arith, length-append xs ys)))

pub take_at : {X : Type 0} (xs : List X) (i : ℕ) (x : X) → get_elem? xs i ≡ some x → take (i + 1) xs ≡ take i xs ++ x ∷ []
take_at xs i x e = rw add-one (take_next xs i x e)
