-- What the items that pass a test give, item by item.
use Rattle.std.proofs.Common.{◌≡◌, ℕ, ◌+◌, ◌<◌, Bool, true, false, cond, List, [], ◌∷◌, ◌++◌, length, map, filter, get_or, drop, sym, ap, ◌∙◌}
use Rattle.std.proofs.lemmas.List.{append_assoc, drop_more}

module _ {X Y : Type 0} (p : X → Bool) (f : X → Y) where
  here : (xs : List X) (i : ℕ) (x : X) → i < length xs → x ≡ get_or xs i x → map f (filter p (drop i xs)) ≡ map f (filter p (x ∷ drop (i + 1) xs))
  here xs i x below is =
      ap (λ ys. map f (filter p ys)) (drop_more xs i x below ∙ ap (λ y. y ∷ drop (i + 1) xs) (sym is))

  pub next-picked : (xs : List X) (i : ℕ) (x : X) (out : List Y) → i < length xs → x ≡ get_or xs i x → p x ≡ true → (out ++ f x ∷ []) ++ map f (filter p (drop (i + 1) xs)) ≡ out ++ map f (filter p (drop i xs))
  next-picked xs i x out below is e =
      let rest = drop (i + 1) xs in
      append_assoc out (f x ∷ []) (map f (filter p rest))
      ∙ ap (λ ys. out ++ ys) (sym (here xs i x below is ∙ ap (λ t. map f (cond t (x ∷ filter p rest) (filter p rest))) e))

  pub next-passed : (xs : List X) (i : ℕ) (x : X) (out : List Y) → i < length xs → x ≡ get_or xs i x → p x ≡ false → out ++ map f (filter p (drop (i + 1) xs)) ≡ out ++ map f (filter p (drop i xs))
  next-passed xs i x out below is e =
      let rest = drop (i + 1) xs in
      ap (λ ys. out ++ ys) (sym (here xs i x below is ∙ ap (λ t. map f (cond t (x ∷ filter p rest) (filter p rest))) e))
