-- Sums over a list of which one element changes, or of which one element has all.
use Rattle.std.proofs.Common.{◌≡◌, ℕ, zero, suc, ◌+◌, ◌*◌, ◌≤◌, List, [], ◌∷◌, ◌++◌, set, refl, ap, sym, arith}
use Rattle.std.specs.List.{sum_by}
use Rattle.std.proofs.lemmas.List.Sums.{sum_by-cons, sum_by_push}
use mathlib.Core.Option.{some, some-injective, some-ne-none}
use lib.ListN.{get_elem?}

module _ {X : Type 0} (f : X → ℕ) where
  -- an element is replaced
  pub sum_at : (xs : List X) (i : ℕ) (x y : X) → get_elem? xs i ≡ some x → sum_by f (set xs i y) + f x ≡ sum_by f xs + f y
  sum_at [] i x y e = absurd (some-ne-none x (sym e))
  sum_at (z ∷ zs) zero x y e = let same = ap f (some-injective z x e) in omega (arith, sum_by-cons f z zs, sum_by-cons f y zs)
  sum_at (z ∷ zs) (suc i) x y e = omega (arith, sum_by-cons f z zs, sum_by-cons f z (set zs i y), sum_at zs i x y e)

  -- no element is more than the sum
  pub sum_least : (xs : List X) (i : ℕ) (x : X) → get_elem? xs i ≡ some x → f x ≤ sum_by f xs
  sum_least [] i x e = absurd (some-ne-none x (sym e))
  sum_least (z ∷ zs) zero x e = let same = ap f (some-injective z x e) in omega (arith, sum_by-cons f z zs)
  sum_least (z ∷ zs) (suc i) x e = omega (arith, sum_by-cons f z zs, sum_least zs i x e)

  -- an element is cut in two
  pub sum_cut : (xs : List X) (i : ℕ) (x y z : X) → get_elem? xs i ≡ some x → f y + f z ≡ f x → sum_by f (set xs i y ++ z ∷ []) ≡ sum_by f xs
  sum_cut xs i x y z e parts = omega (arith, sum_at xs i x y e, sum_by_push f (set xs i y) z)

  -- two elements become one
  pub sum_joined : (xs : List X) (i j : ℕ) (x y both none : X) → get_elem? xs i ≡ some x → get_elem? (set xs i both) j ≡ some y → f both ≡ f x + f y → f none ≡ 0
      → sum_by f (set (set xs i both) j none) ≡ sum_by f xs
  sum_joined xs i j x y both none e e' joined nothing = omega (arith, sum_at xs i x both e, sum_at (set xs i both) j y none e')

  -- where no element has any, the sum is 0
  pub sum_none : (xs : List X) → ((i : ℕ) (x : X) → get_elem? xs i ≡ some x → f x ≡ 0) → sum_by f xs ≡ 0
  sum_none [] h = refl
  sum_none (z ∷ zs) h = omega (arith, sum_by-cons f z zs, h 0 z refl, sum_none zs (λ i. h (suc i)))

  module _ (g : X → ℕ) (k : ℕ) where
    -- each f is at most k times its g
    pub sum_within : (xs : List X) → ((i : ℕ) (x : X) → get_elem? xs i ≡ some x → f x ≤ k * g x) → sum_by f xs ≤ k * sum_by g xs
    sum_within [] h = omega arith
    sum_within (z ∷ zs) h = omega (arith, sum_by-cons f z zs, ap (λ n. k * n) (sum_by-cons g z zs), h 0 z refl, sum_within zs (λ i. h (suc i)))

    -- the same for all elements but one
    sum_others : (xs : List X) (i : ℕ) (x : X) → get_elem? xs i ≡ some x → ((j : ℕ) (y : X) → get_elem? xs j ≡ some y → f y ≤ k * g y) → sum_by f xs + k * g x ≤ f x + k * sum_by g xs
    sum_others [] i x e h = absurd (some-ne-none x (sym e))
    sum_others (z ∷ zs) zero x e h =
        let same = some-injective z x e in let fs = ap f same in let gs = ap (λ y. k * g y) same in
        omega (arith, sum_by-cons f z zs, ap (λ n. k * n) (sum_by-cons g z zs), sum_within zs (λ i. h (suc i)))
    sum_others (z ∷ zs) (suc i) x e h =
        omega (arith, sum_by-cons f z zs, ap (λ n. k * n) (sum_by-cons g z zs), h 0 z refl, sum_others zs i x e (λ j. h (suc j)))

    -- where one element has all of g, it has all of f
    pub sum_alone : (xs : List X) (i : ℕ) (x : X) → get_elem? xs i ≡ some x → ((j : ℕ) (y : X) → get_elem? xs j ≡ some y → f y ≤ k * g y) → sum_by g xs ≡ g x → sum_by f xs ≡ f x
    sum_alone xs i x e h all =
        let products = ap (λ n. k * n) all in
        omega (arith, sum_others xs i x e h, sum_least xs i x e)
