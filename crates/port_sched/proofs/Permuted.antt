-- One part of a list of parts gives some of its items away.
use Rattle.std.proofs.Common.{◌≡◌, ℕ, zero, suc, List, [], ◌∷◌, ◌++◌, Some, sym, subst, append_assoc, set, get_or, take, drop, arith}
use Rattle.std.specs.List.{flat_map, slice_get}
use Rattle.std.specs.List.Sorted.{IsPermutation}
use Rattle.std.proofs.lemmas.List.{take-append-drop}
use Rattle.std.proofs.lemmas.Option.{slice_get_within}
use Rattle.std.proofs.lemmas.List.Sorted.{IsPermutation-refl, IsPermutation-trans, IsPermutation-append_left, IsPermutation-append_right, IsPermutation-append_comm}

module _ {X : Type 0} where
  -- the middle of three parts goes to the front
  pub swapped : (xs ys zs : List X) → IsPermutation (xs ++ (ys ++ zs)) (ys ++ (xs ++ zs))
  swapped xs ys zs =
      subst (λ ws. IsPermutation ws (ys ++ (xs ++ zs))) (append_assoc xs ys zs)
      (subst (IsPermutation ((xs ++ ys) ++ zs)) (append_assoc ys xs zs) (IsPermutation-append_left zs (xs ++ ys) (ys ++ xs) (IsPermutation-append_comm xs ys)))

module _ {A X : Type 0} (f : A → List X) where
  -- the part at an index gives `more` away
  pub given : (parts : List A) (k : ℕ) (old new : A) (more : List X) → slice_get parts k ≡ Some old
      → IsPermutation (more ++ f new) (f old) → IsPermutation (more ++ flat_map f (set parts k new)) (flat_map f parts)
  given [] k old new more there moves = let within = slice_get_within [] k old there in absurd (omega arith)
  given (part ∷ parts) zero old new more there moves =
      let same : old ≡ part = cc in
      subst (λ ws. IsPermutation ws (f part ++ flat_map f parts)) (append_assoc more (f new) (flat_map f parts))
      (IsPermutation-append_left (flat_map f parts) (more ++ f new) (f part) (subst (λ x. IsPermutation (more ++ f new) (f x)) same moves))
  given (part ∷ parts) (suc k) old new more there moves =
      let rest = flat_map f (set parts k new) in
      IsPermutation-trans (more ++ (f part ++ rest)) (f part ++ (more ++ rest)) (f part ++ flat_map f parts)
      (swapped more (f part) rest)
      (IsPermutation-append_right (f part) (more ++ rest) (flat_map f parts) (given parts k old new more there moves))

module _ {X : Type 0} where
  -- all items of lists
  abbrev pub joined_of : List (List X) → List X
  joined_of lists = flat_map (λ xs. xs) lists

  -- the list at an index gives its first n items away
  pub front_given : (n : ℕ) (lists : List (List X)) (k : ℕ)
      → IsPermutation (take n (get_or lists k []) ++ joined_of (set lists k (drop n (get_or lists k [])))) (joined_of lists)
  front_given zero [] k = IsPermutation-refl []
  front_given (suc n) [] k = IsPermutation-refl []
  front_given n (xs ∷ lists) zero =
      subst (λ ws. IsPermutation ws (xs ++ joined_of lists)) (append_assoc (take n xs) (drop n xs) (joined_of lists))
      (subst (λ ws. IsPermutation (ws ++ joined_of lists) (xs ++ joined_of lists)) (sym (take-append-drop n xs)) (IsPermutation-refl (xs ++ joined_of lists)))
  front_given n (xs ∷ lists) (suc k) =
      let front = take n (get_or lists k []) in
      let rest = joined_of (set lists k (drop n (get_or lists k []))) in
      IsPermutation-trans (front ++ (xs ++ rest)) (xs ++ (front ++ rest)) (xs ++ joined_of lists)
      (swapped front xs rest)
      (IsPermutation-append_right xs (front ++ rest) (joined_of lists) (front_given n lists k))
