-- Sums over a list of which one element changes, or of which one element has all; and what holds of each element.
use Rattle.std.proofs.Common.{◌≡◌, ◌≢◌, ℕ, zero, suc, ◌+◌, ◌*◌, ◌≤◌, List, [], ◌∷◌, ◌++◌, set, refl, ap, sym, subst, ⊎_elim, arith}
use Rattle.std.specs.List.{sum_by}
use Rattle.std.proofs.lemmas.List.Sums.{sum_by-cons}
use mathlib.Core.Option.{some, some-injective, some-ne-none}
use lib.ListN.{get_elem?}
use Rattle.atomic_table.proofs.Lists.{at_set, at_snoc}

module _ {X : Type 0} (f : X → ℕ) where
  -- an element is replaced
  pub sum_at : (xs : List X) (i : ℕ) (x y : X) → get_elem? xs i ≡ some x → sum_by f (set xs i y) + f x ≡ sum_by f xs + f y
  sum_at [] i x y e = absurd (some-ne-none x (sym e))
  sum_at (z ∷ zs) zero x y e = let same = ap f (some-injective z x e) in omega (arith, sum_by-cons f z zs, sum_by-cons f y zs)
  sum_at (z ∷ zs) (suc i) x y e = omega (arith, sum_by-cons f z zs, sum_by-cons f z (set zs i y), sum_at zs i x y e)

  -- no element is more than the sum
  pub sum_least : (xs : List X) (i : ℕ) (x : X) → get_elem? xs i ≡ some x → f x ≤ sum_by f xs
  sum_least [] i x e = absurd (some-ne-none x (sym e))
  sum_least (z ∷ zs) zero x e = let same = ap f (some-injective z x e) in omega (arith, sum_by-cons f z zs)
  sum_least (z ∷ zs) (suc i) x e = omega (arith, sum_by-cons f z zs, sum_least zs i x e)

  -- nor are two together
  pub sum_two : (xs : List X) (i j : ℕ) (x y : X) → j ≢ i → get_elem? xs i ≡ some x → get_elem? xs j ≡ some y → f x + f y ≤ sum_by f xs
  sum_two [] i j x y ne e d = absurd (some-ne-none x (sym e))
  sum_two (z ∷ zs) zero zero x y ne e d = absurd (ne refl)
  sum_two (z ∷ zs) zero (suc j) x y ne e d = let same = ap f (some-injective z x e) in omega (arith, sum_by-cons f z zs, sum_least zs j y d)
  sum_two (z ∷ zs) (suc i) zero x y ne e d = let same = ap f (some-injective z y d) in omega (arith, sum_by-cons f z zs, sum_least zs i x e)
  sum_two (z ∷ zs) (suc i) (suc j) x y ne e d = omega (arith, sum_by-cons f z zs, sum_two zs i j x y (λ h. ne (ap suc h)) e d)

module _ {X : Type 0} (f g : X → ℕ) where
  -- each f is at most k times its g
  pub sum_within : (k : ℕ) (xs : List X) → ((i : ℕ) (x : X) → get_elem? xs i ≡ some x → f x ≤ k * g x) → sum_by f xs ≤ k * sum_by g xs
  sum_within k [] h = omega arith
  sum_within k (z ∷ zs) h = omega (arith, sum_by-cons f z zs, ap (λ n. k * n) (sum_by-cons g z zs), h 0 z refl, sum_within k zs (λ i. h (suc i)))

  -- where none has any of g, none has any of f
  sum_none : (xs : List X) → ((j : ℕ) (y : X) → get_elem? xs j ≡ some y → g y ≡ 0 → f y ≡ 0) → sum_by g xs ≡ 0 → sum_by f xs ≡ 0
  sum_none [] h none = refl
  sum_none (z ∷ zs) h none =
      let gs = sum_by-cons g z zs in
      let here : f z ≡ 0 = h 0 z refl (omega arith) in
      omega (arith, sum_by-cons f z zs, sum_none zs (λ j. h (suc j)) (omega arith))

  -- where one element has all of g, it has all of f
  pub sum_alone : (xs : List X) (i : ℕ) (x : X) → get_elem? xs i ≡ some x → ((j : ℕ) (y : X) → get_elem? xs j ≡ some y → g y ≡ 0 → f y ≡ 0) → sum_by g xs ≡ g x → sum_by f xs ≡ f x
  sum_alone [] i x e h all = absurd (some-ne-none x (sym e))
  sum_alone (z ∷ zs) zero x e h all =
      let same = some-injective z x e in let fs = ap f same in let gs = ap g same in let sums = sum_by-cons g z zs in
      omega (arith, sum_by-cons f z zs, sum_none zs (λ j. h (suc j)) (omega arith))
  sum_alone (z ∷ zs) (suc i) x e h all =
      let sums = sum_by-cons g z zs in let rest = sum_least g zs i x e in
      let here : f z ≡ 0 = h 0 z refl (omega arith) in
      omega (arith, sum_by-cons f z zs, sum_alone zs i x e (λ j. h (suc j)) (omega arith))

module _ {V : Type 0} (F : V → Type 0) where
  -- what holds of each view holds of each after one of them has changed, and after one has come
  pub each_set : (views : List V) (id : ℕ) (w : V) → F w → ((j : ℕ) (u : V) → get_elem? views j ≡ some u → F u) → (j : ℕ) (u : V) → get_elem? (set views id w) j ≡ some u → F u
  each_set views id w mine others j u e = ⊎_elim (λ x. subst F x.1 mine) (λ x. others j u x.1) (at_set views id j w u e)

  pub each_snoc : (views : List V) (w : V) → F w → ((j : ℕ) (u : V) → get_elem? views j ≡ some u → F u) → (j : ℕ) (u : V) → get_elem? (views ++ w ∷ []) j ≡ some u → F u
  each_snoc views w mine others j u e = ⊎_elim (λ x. others j u x) (λ x. subst F x mine) (at_snoc views w u j e)

  pub only : (v : V) → F v → (j : ℕ) (u : V) → get_elem? (v ∷ []) j ≡ some u → F u
  only v h zero u e = subst F (some-injective v u e) h
  only v h (suc j) u e = absurd (some-ne-none u (sym e))
