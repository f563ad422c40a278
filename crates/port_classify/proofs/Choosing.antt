-- What is found in a list is in it, passes, and stands before all others that pass.
use Rattle.std.proofs.Common.{◌≡◌, ℕ, zero, suc, ◌<◌, ◌≤◌, Bool, true, false, cond, List, [], ◌∷◌, None, Some, find, length, get_or, map, All, Contains, refl, sym, ap, subst, inl, inr, ◌∙◌, arith}
use Rattle.std.specs.List.Sorted.{IsStrictlyIncreasing}
use Rattle.std.proofs.lemmas.Bool.{cases_lt}
use Rattle.std.proofs.lemmas.List.{get_or-map, get_or_default, length-map}
use Rattle.std.proofs.lemmas.List.Kept.{AllPairs-from_increasing}
use Rattle.std.proofs.lemmas.List.Elements.{All-cons, All-head, All-nil, All-tail}

same-some : {X : Type 0} (a b : X) → Some a ≡ Some b → a ≡ b
same-some a b e = cc

module _ {X : Type 0} (p : X → Bool) where
  -- the first element that passes is this one, at this place
  pub record IsFoundAt (xs : List X) (x : X) (k : ℕ) : Type 0 where
    pub within : k < length xs
    pub there : get_or xs k x ≡ x
    pub passing : p x ≡ true
    pub first : (j : ℕ) → j < k → p (get_or xs j x) ≡ false

  found-here : (y x : X) (ys : List X) → p y ≡ true → y ≡ x → IsFoundAt (y ∷ ys) x 0
  found-here y x ys passes e =
      record { within = omega arith; there = e; passing = subst (λ z. p z ≡ true) e passes; first = λ j none. absurd (omega arith) }

  found-behind : (y x : X) (ys : List X) (k : ℕ) → p y ≡ false → IsFoundAt ys x k → IsFoundAt (y ∷ ys) x (suc k)
  found-behind y x ys k fails at = record { within = omega (arith, at.within); there = at.there; passing = at.passing; first = earlier }
    where
      earlier : (j : ℕ) → j < suc k → p (get_or (y ∷ ys) j x) ≡ false
      earlier zero below = fails
      earlier (suc j) below = at.first j (omega arith)

  pub found : (xs : List X) (x : X) → find p xs ≡ Some x → (k : ℕ) × IsFoundAt xs x k
  found [] x e = absurd (cc)
  found (y ∷ ys) x e = go (found ys x) (p y) refl e
    where
      go : (find p ys ≡ Some x → (k : ℕ) × IsFoundAt ys x k) → (t : Bool) → p y ≡ t → cond t (Some y) (find p ys) ≡ Some x →
          (k : ℕ) × IsFoundAt (y ∷ ys) x k
      go rest true passes h = (0, found-here y x ys passes (same-some y x h))
      go rest false fails h = (suc (rest h).0, found-behind y x ys (rest h).0 fails (rest h).1)

  -- where nothing is found, nothing passes
  pub none-passes : (xs : List X) → find p xs ≡ None → All (λ x. p x ≡ false) xs
  none-passes [] e = All-nil (λ x. p x ≡ false)
  none-passes (y ∷ ys) e = go (none-passes ys) (p y) refl e
    where
      go : (find p ys ≡ None → All (λ x. p x ≡ false) ys) → (t : Bool) → p y ≡ t → cond t (Some y) (find p ys) ≡ None →
          All (λ x. p x ≡ false) (y ∷ ys)
      go rest true passes h = absurd (cc)
      go rest false fails h = All-cons (λ x. p x ≡ false) y ys fails (rest h)

  -- where nothing passes, nothing is found
  pub none-found : (xs : List X) → All (λ x. p x ≡ false) xs → find p xs ≡ None
  none-found [] all = refl
  none-found (y ∷ ys) all = rw (All-head (λ x. p x ≡ false) y ys all) (none-found ys (All-tail (λ x. p x ≡ false) y ys all))

module _ {X : Type 0} (key : X → ℕ) (xs : List X) (rising : IsStrictlyIncreasing (map key xs)) where
  -- the key of the element at a place
  key_at : (x : X) (k : ℕ) → k < length xs → get_or xs k x ≡ x → get_or (map key xs) k 0 ≡ key x
  key_at x k within there = get_or-map key xs k x 0 within ∙ ap key there

  -- an element at a later place has a greater key
  later : (x y : X) (k j : ℕ) → get_or xs k x ≡ x → get_or xs j y ≡ y → j < length xs → k < j → key x < key y
  later x y k j at_k at_j within below =
      let pair = AllPairs-from_increasing (map key xs) rising k j 0 below (omega (arith, length-map xs key)) in
      omega (arith, pair, key_at x k (omega arith) at_k, key_at y j within at_j)

  -- an element that is found has the least key of all that pass
  pub found-least : (p : X → Bool) (x : X) (k : ℕ) → IsFoundAt p xs x k → (y : X) → Contains xs y → p y ≡ true → key x ≤ key y
  found-least p x k at y (j, within, there) passing =
      elim (cases_lt j k) [
        | inl earlier ↦
            let fails : p y ≡ false = subst (λ z. p z ≡ false) (get_or_default xs j x y within ∙ there) (at.first j earlier) in
            absurd (cc)
        | inr from ↦ elim (cases_lt k j) [
          | inl behind ↦ omega (arith, later x y k j at.there there within behind)
          | inr not_behind ↦
              let same : j ≡ k = omega arith in
              let here : get_or xs k y ≡ y = subst (λ i. get_or xs i y ≡ y) same there in
              omega (arith, ap key (sym at.there ∙ get_or_default xs k x y at.within ∙ here))
        ]
      ]
