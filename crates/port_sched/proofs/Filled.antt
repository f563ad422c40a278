-- Which queues have a packet.
use Rattle.std.proofs.Common.{◌≡◌, ◌<◌, ◌≤◌, ℕ, zero, suc, Some, ◌+◌, ◌-◌, Bool, true, false, not, List, [], ◌∷◌, take, drop, length, get_or, map, refl, sym, ap, ◌∙◌, arith, drop-cons, eqb, ltb, ◌||◌, ⊎_elim, cond, subst}
use mir.Val.{bool_byte}
use Rattle.std.specs.List.{list_any, count_by, flat_map}
use Rattle.std.proofs.lemmas.Bool.{cases_lt}
use Rattle.std.proofs.lemmas.Bool.Decides.{nat_tests}
use Rattle.std.proofs.lemmas.List.Sums.{sum_by-cons, sum_by-take-drop}
use Rattle.std.proofs.lemmas.List.{get_or-take, length-take-le, get_or-drop, length-drop, take_all, drop_all, get_or_past, length-map, get_or-map}
use Rattle.std.proofs.lemmas.List.Folds.{list_any_more, list_any_at, Any-from_list_any}
use Rattle.std.specs.Prelude.{slice_get, Contains}
use Rattle.queue_store.specs.Queues.{is_filled}

some-test : (n : ℕ) → 0 < n → not (eqb n 0) ≡ true
some-test n some = grind (arith, nat_tests)

none-test : (n : ℕ) → n ≡ 0 → not (eqb n 0) ≡ false
none-test n none = grind (arith, nat_tests)

some-from : (n : ℕ) → not (eqb n 0) ≡ true → 0 < n
some-from n is = grind (arith, nat_tests)

positive : (n : ℕ) → ltb 0 n ≡ not (eqb n 0)
positive n = grind (arith, nat_tests)

or-false : (a b : Bool) → a ≡ false → b ≡ false → (a || b) ≡ false
or-false a b x y = cc

module _ {T : Type 0} (lists : List (List T)) (from : ℕ) where
  pub any-found : (queue : ℕ) → from ≤ queue → queue < length lists → 0 < length (get_or lists queue []) → true ≡ list_any is_filled (drop from lists)
  any-found queue ahead within some =
      let here : get_or (drop from lists) (queue - from) [] ≡ get_or lists queue [] = get_or-drop from lists (queue - from) [] ∙ ap (λ k. get_or lists k []) (omega arith) in
      let left = length-drop from lists in
      sym (list_any_at is_filled (drop from lists) (queue - from) [] (omega (arith, left)) (ap is_filled here ∙ some-test (length (get_or lists queue [])) some))

  pub any-more : (queue : ℕ) → from ≤ queue → queue < length lists → length (get_or lists queue []) ≡ 0 → list_any is_filled (take (queue - from) (drop from lists)) ≡ false → list_any is_filled (take (queue + 1 - from) (drop from lists)) ≡ false
  any-more queue ahead within none so_far =
      let here : get_or (drop from lists) (queue - from) [] ≡ get_or lists queue [] = get_or-drop from lists (queue - from) [] ∙ ap (λ k. get_or lists k []) (omega arith) in
      let left = length-drop from lists in
      let next : queue + 1 - from ≡ queue - from + 1 = omega arith in
      ap (λ n. list_any is_filled (take n (drop from lists))) next
      ∙ list_any_more is_filled (drop from lists) (queue - from) [] (omega (arith, left))
      ∙ or-false _ _ so_far (ap is_filled here ∙ none-test (length (get_or lists queue [])) none)

  pub any-all : (queue : ℕ) → length lists ≤ queue → list_any is_filled (take (queue - from) (drop from lists)) ≡ false → false ≡ list_any is_filled (drop from lists)
  any-all queue past so_far =
      let left = length-drop from lists in
      sym (ap (list_any is_filled) (sym (take_all (queue - from) (drop from lists) (omega (arith, left)))) ∙ so_far)

  -- where none is filled every queue from there on is empty
  pub any-none : (k : ℕ) → list_any is_filled (drop from lists) ≡ false → length (get_or lists (from + k) []) ≡ 0
  any-none k none =
      let left = length-drop from lists in
      let here = get_or-drop from lists k [] in
      ⊎_elim
      (λ (within : from + k < length lists).
      ⊎_elim
      (λ (some : 0 < length (get_or lists (from + k) [])).
      let found : list_any is_filled (drop from lists) ≡ true = list_any_at is_filled (drop from lists) k [] (omega (arith, left)) (ap is_filled here ∙ some-test (length (get_or lists (from + k) [])) some) in
      absurd (cc))
      (λ (no_more : length (get_or lists (from + k) []) ≤ 0). omega arith)
      (cases_lt 0 (length (get_or lists (from + k) []))))
      (λ (past : length lists ≤ from + k). ap length (get_or_past lists (from + k) [] past))
      (cases_lt (from + k) (length lists))

module _ {T : Type 0} where
  filled-at : (xs : List (List T)) (k : ℕ) → slice_get (map is_filled xs) k ≡ Some true → 0 < length (get_or xs k [])
  filled-at [] k is = absurd (cc)
  filled-at (x ∷ xs) zero is = let full : not (eqb (length x) 0) ≡ true = cc in some-from (length x) full
  filled-at (x ∷ xs) (suc k) is = filled-at xs k is

  -- a queue that is filled has a packet
  pub filled-waits : (lists : List (List T)) (k : ℕ) → slice_get (map is_filled (drop 12 lists)) k ≡ Some true → 0 < length (get_or lists (12 + k) [])
  filled-waits lists k is =
      let some = filled-at (drop 12 lists) k is in
      let here = ap length (get_or-drop 12 lists k []) in
      omega arith

  -- where none is filled no packet waits
  pub none-left : (lists : List (List T)) → list_any is_filled lists ≡ false → flat_map (λ ts. ts) lists ≡ []
  none-left [] none = refl
  none-left ([] ∷ lists) none = none-left lists none
  none-left ((t ∷ ts) ∷ lists) none =
      let full = some-test (length (t ∷ ts)) (omega arith) in
      let both : true ≡ false = ap (λ b. b || list_any is_filled lists) (sym full) ∙ none in
      absurd (cc)

  -- where a packet waits one of the queues is filled
  pub some-filled : (xs : List (List T)) → list_any is_filled xs ≡ true → Contains (map is_filled xs) true
  some-filled xs some =
      let found = Any-from_list_any is_filled xs some in
      let count = length-map xs is_filled in
      (found.0, omega (arith, count, found.2), get_or-map is_filled xs found.0 found.1 true found.2 ∙ ap is_filled found.3 ∙ found.4)

module _ {X : Type 0} (test : X → Bool) where
  -- whether some element is counted
  pub any-counted : (xs : List X) → ltb 0 (count_by test xs) ≡ list_any test xs
  any-counted [] = refl
  any-counted (x ∷ xs) = ap (ltb 0) (sum_by-cons (λ y. cond {A = ℕ} (test y) 1 0) x xs) ∙ by (test x) (list_any test xs) (any-counted xs)
    where
      by : (b a : Bool) → ltb 0 (count_by test xs) ≡ a → ltb 0 (cond b 1 0 + count_by test xs) ≡ (b || a)
      by true a rest = grind (arith, nat_tests)
      by false a rest = let none : 0 + count_by test xs ≡ count_by test xs = omega arith in ap (ltb 0) none ∙ rest

module _ {T : Type 0} (lists : List (List T)) where
  -- where none of the first queues is filled they are empty
  pub first-none : (n k : ℕ) → n ≤ length lists → list_any is_filled (take n lists) ≡ false → k < n → length (get_or lists k []) ≡ 0
  first-none n k within none below =
      let here = get_or-take n lists k [] below in
      let count = length-take-le n lists within in
      ⊎_elim
      (λ (some : 0 < length (get_or lists k [])).
      let found : list_any is_filled (take n lists) ≡ true = list_any_at is_filled (take n lists) k [] (omega (arith, count)) (ap is_filled here ∙ some-test (length (get_or lists k [])) some) in
      absurd (cc))
      (λ (no_more : length (get_or lists k []) ≤ 0). omega arith)
      (cases_lt 0 (length (get_or lists k [])))

  pub last_four : length lists ≡ 16 → drop 12 lists ≡ get_or lists 12 [] ∷ get_or lists 13 [] ∷ get_or lists 14 [] ∷ get_or lists 15 [] ∷ []
  last_four all =
      drop-cons lists 12 [] (omega arith)
      ∙ ap (λ rest. get_or lists 12 [] ∷ rest) (drop-cons lists 13 [] (omega arith)
      ∙ ap (λ rest. get_or lists 13 [] ∷ rest) (drop-cons lists 14 [] (omega arith)
      ∙ ap (λ rest. get_or lists 14 [] ∷ rest) (drop-cons lists 15 [] (omega arith)
      ∙ ap (λ rest. get_or lists 15 [] ∷ rest) (drop_all 16 lists (omega arith)))))

  -- more queues are filled than the last four: one of the first twelve is
  pub more-filled : (last all : ℕ) → last ≡ count_by is_filled (drop 12 lists) → all ≡ count_by is_filled lists → ltb last all ≡ list_any is_filled (take 12 lists)
  more-filled last all last_is all_is =
      let first = count_by is_filled (take 12 lists) in
      let parts = sum_by-take-drop (λ (ts : List T). cond {A = ℕ} (is_filled ts) 1 0) lists 12 in
      ap (ltb last) (let sum : all ≡ first + last = omega (arith, parts, last_is, all_is) in sum) ∙ more first last ∙ any-counted is_filled (take 12 lists)
    where
      more : (n m : ℕ) → ltb m (n + m) ≡ ltb 0 n
      more n m = grind (arith, nat_tests)

  -- how many of the last four are filled
  pub four-counted : (bits : List Bool) → bits ≡ map is_filled (drop 12 lists) → length lists ≡ 16 → bool_byte (get_or bits 0 false) + bool_byte (get_or bits 1 false) + bool_byte (get_or bits 2 false) + bool_byte (get_or bits 3 false) ≡ count_by is_filled (drop 12 lists)
  four-counted bits are all =
      let ones : List Bool → ℕ = λ bs. bool_byte (get_or bs 0 false) + bool_byte (get_or bs 1 false) + bool_byte (get_or bs 2 false) + bool_byte (get_or bs 3 false) in
      ap ones are ∙ subst (λ xs. ones (map is_filled xs) ≡ count_by is_filled xs) (sym (last_four all)) (four-of _ _ _ _)
    where
      one : (b : Bool) → bool_byte b ≡ cond b 1 0
      one true = refl
      one false = refl

      number : List T → ℕ
      number ts = cond (is_filled ts) 1 0

      four-of : (a b c d : List T) → bool_byte (is_filled a) + bool_byte (is_filled b) + bool_byte (is_filled c) + bool_byte (is_filled d) ≡ count_by is_filled (a ∷ b ∷ c ∷ d ∷ [])
      four-of a b c d =
          let first = sum_by-cons number a (b ∷ c ∷ d ∷ []) in
          let second = sum_by-cons number b (c ∷ d ∷ []) in
          let third = sum_by-cons number c (d ∷ []) in
          let fourth = sum_by-cons number d [] in
          omega (arith, first, second, third, fourth, one (is_filled a), one (is_filled b), one (is_filled c), one (is_filled d))

  -- the tests of the four best effort queues
  pub four-filled : (a b c d : ℕ) → length lists ≡ 16 → a ≡ length (get_or lists 12 []) → b ≡ length (get_or lists 13 []) → c ≡ length (get_or lists 14 []) → d ≡ length (get_or lists 15 []) → ltb 0 a ∷ ltb 0 b ∷ ltb 0 c ∷ ltb 0 d ∷ [] ≡ map is_filled (drop 12 lists)
  four-filled a b c d all a_is b_is c_is d_is =
      let four = ap (map is_filled) (last_four all) in
      let a_test = positive a ∙ ap (λ n. not (eqb n 0)) a_is in
      let b_test = positive b ∙ ap (λ n. not (eqb n 0)) b_is in
      let c_test = positive c ∙ ap (λ n. not (eqb n 0)) c_is in
      let d_test = positive d ∙ ap (λ n. not (eqb n 0)) d_is in
      (λ i. a_test i ∷ b_test i ∷ c_test i ∷ d_test i ∷ []) ∙ sym four
