-- The bits of words, one by one.
use Rattle.std.proofs.Common.{◌≡◌, ◌≢◌, ℕ, ◌+◌, ◌-◌, ◌*◌, ◌/◌, ◌%◌, ◌^◌, ◌<◌, ◌≤◌, Bool, true, false, List, length, replicate, get_or, set, take, drop, min, eqb, refl, true≢false, sym, ap, ◌∙◌, arith, inl, inr, w64, bit_and, bit_or, eq-eqb, ne_eqb}
use Rattle.std.specs.Prelude.{not, Some}
use Rattle.std.proofs.lemmas.Nat.{and_le_l}
use Rattle.std.specs.Int.{bit_at, bit_not, trailing_zeros}
use Rattle.std.proofs.lemmas.Bool.{cases_lt, cases_eq}
use Rattle.std.proofs.lemmas.List.{get_or_past, get_or_default, get_or-set_same, get_or-set_other, same_lists, length-set, length-replicate, get_or-replicate, length-take, length-drop, get_or-take, get_or-drop}
use Rattle.std.proofs.lemmas.List.Folds.{list_any_at, list_any_none}
use Rattle.std.proofs.lemmas.List.FromFn.{length-map-range_with_len, get_or-map-range_with_len}
use Rattle.std.proofs.lemmas.Nat.Bits.{bit_at-zero, bit_at-trailing_zeros, bit_at_and, bit_at-lt, bit_at_mask_inside, bit_at_mask_below, ones_shl, bit_at_set_same, bit_at_set_other, bit_at_clear_same, bit_at_clear_other}
use Rattle.active_bitmap.specs.NextActive.{is_set}
use Rattle.active_bitmap.specs.Words.{bits_of, has_set, AllClear, IsFirstSet}

-- a bit of a row of words
abbrev pub bit_of : List ℕ → ℕ → Bool
bit_of words k = eqb (bit_at (get_or words (k / 64) 0) (k % 64)) 1

pub length-bits_of : (words : List ℕ) → length (bits_of words) ≡ 64 * length words
unfolding bits_of
length-bits_of words = length-map-range_with_len (bit_of words) 0 (64 * length words)

pub is_set-bits_of : (words : List ℕ) (k : ℕ) → is_set (bits_of words) k ≡ bit_of words k
unfolding bits_of
is_set-bits_of words k =
    elim (cases_lt k (64 * length words)) [
      | inl within ↦ get_or-map-range_with_len (bit_of words) 0 (64 * length words) k k false within (omega arith)
      | inr past ↦
          let no_word : get_or words (k / 64) 0 ≡ 0 = get_or_past words (k / 64) 0 (omega arith) in
          let clear : bit_at (get_or words (k / 64) 0) (k % 64) ≡ 0 = ap (λ w. bit_at w (k % 64)) no_word ∙ bit_at-zero (k % 64) in
          get_or_past (bits_of words) k false (omega (arith, length-bits_of words)) ∙ sym (ap (λ b. eqb b 1) clear)
    ]

-- a word changed in one bit
module _ (words : List ℕ) (k word : ℕ) (value : Bool) (within : k < 64 * length words)
    (here : eqb (bit_at word (k % 64)) 1 ≡ value)
    (others : (i : ℕ) → i < 64 → i ≢ k % 64 → bit_at word i ≡ bit_at (get_or words (k / 64) 0) i) where
  bit_kept : (j : ℕ) → j ≢ k → bit_at (get_or (set words (k / 64) word) (j / 64) 0) (j % 64) ≡ bit_at (get_or words (j / 64) 0) (j % 64)
  bit_kept j other =
      elim (cases_eq (j / 64) (k / 64)) [
        | inl same ↦
            let place : j % 64 ≢ k % 64 = λ e. other (omega arith) in
            let at : k / 64 < length words = omega arith in
            ap (λ w. bit_at (get_or (set words (k / 64) word) w 0) (j % 64)) same ∙ ap (λ w. bit_at w (j % 64)) (get_or-set_same words (k / 64) word 0 at) ∙ others (j % 64) (omega arith) place
            ∙ ap (λ w. bit_at (get_or words w 0) (j % 64)) (sym same)
        | inr apart ↦ ap (λ w. bit_at w (j % 64)) (get_or-set_other words (k / 64) (j / 64) word 0 apart)
      ]

  bit_changed : (j : ℕ) → is_set (bits_of (set words (k / 64) word)) j ≡ is_set (set (bits_of words) k value) j
  bit_changed j =
      elim (cases_eq j k) [
        | inl same ↦
            let at : k / 64 < length words = omega arith in
            ap (is_set (bits_of (set words (k / 64) word))) same ∙ is_set-bits_of (set words (k / 64) word) k
            ∙ ap (λ w. eqb (bit_at w (k % 64)) 1) (get_or-set_same words (k / 64) word 0 at) ∙ here
            ∙ sym (ap (is_set (set (bits_of words) k value)) same ∙ get_or-set_same (bits_of words) k value false (omega (arith, length-bits_of words)))
        | inr other ↦
            is_set-bits_of (set words (k / 64) word) j ∙ ap (λ b. eqb b 1) (bit_kept j other) ∙ sym (is_set-bits_of words j)
            ∙ sym (get_or-set_other (bits_of words) k j value false other)
      ]

  pub bits_of-set : bits_of (set words (k / 64) word) ≡ set (bits_of words) k value
  bits_of-set =
      let len : length (bits_of (set words (k / 64) word)) ≡ length (set (bits_of words) k value) =
      omega (arith, length-bits_of (set words (k / 64) word), length-bits_of words, length-set words (k / 64) word, length-set (bits_of words) k value) in
      same_lists _ _ len
      (λ j d inside. get_or_default _ j d false inside ∙ bit_changed j ∙ get_or_default _ j false d (omega (arith, len)))

-- a bit set in its word, and a bit cleared there
module _ (words : List ℕ) (k : ℕ) (within : k < 64 * length words) where
  pub set_in_word : bits_of (set words (k / 64) (bit_or (get_or words (k / 64) 0) (1 * 2 ^ (k % 64) % 2 ^ 64))) ≡ set (bits_of words) k true
  set_in_word =
      let low : k % 64 < 64 = omega arith in
      bits_of-set words k _ true within (eq-eqb _ 1 (bit_at_set_same w64 (get_or words (k / 64) 0) (k % 64) low))
      (λ i _ other. bit_at_set_other w64 (get_or words (k / 64) 0) (k % 64) low i other)

  pub clear_in_word : bits_of (set words (k / 64) (bit_and (get_or words (k / 64) 0) (bit_not w64 (1 * 2 ^ (k % 64) % 2 ^ 64)))) ≡ set (bits_of words) k false
  clear_in_word =
      let low : k % 64 < 64 = omega arith in
      bits_of-set words k _ false within (ap (λ b. eqb b 1) (bit_at_clear_same w64 (get_or words (k / 64) 0) (k % 64) low))
      (λ i small other. bit_at_clear_other w64 (get_or words (k / 64) 0) (k % 64) low i small other)

-- ---- words that have a set bit

pub has_set-at : (bits : List Bool) (k : ℕ) → is_set bits k ≡ true → has_set bits (k / 64) ≡ true
unfolding has_set
has_set-at bits k set_there =
    elim (cases_lt k (length bits)) [
      | inl within ↦
          let piece = take 64 (drop (64 * (k / 64)) bits) in
          let len : length piece ≡ min 64 (length bits - 64 * (k / 64)) = length-take 64 (drop (64 * (k / 64)) bits) ∙ ap (min 64) (length-drop (64 * (k / 64)) bits) in
          let place : 64 * (k / 64) + k % 64 ≡ k = omega arith in
          let at : get_or piece (k % 64) false ≡ true =
          get_or-take 64 (drop (64 * (k / 64)) bits) (k % 64) false (omega arith) ∙ get_or-drop (64 * (k / 64)) bits (k % 64) false ∙ ap (is_set bits) place ∙ set_there in
          list_any_at (λ b. b) piece (k % 64) false (omega arith) at
      | inr past ↦ absurd (true≢false (sym set_there ∙ get_or_past bits k false past))
    ]

pub has_set-clear : (bits : List Bool) (word : ℕ) → AllClear bits (64 * word) (64 * word + 64) → has_set bits word ≡ false
unfolding has_set
has_set-clear bits word clear =
    let rest = drop (64 * word) bits in
    let piece = take 64 rest in
    list_any_none (λ b. b) piece
    (λ k d within.
    let small : k < 64 = omega (arith, length-take 64 rest) in
    get_or_default piece k d false within ∙ get_or-take 64 rest k false small ∙ get_or-drop (64 * word) bits k false ∙ clear (64 * word + k) (omega arith) (omega arith))

-- a word without a set bit
pub clear-word : (bits : List Bool) (word : ℕ) → has_set bits word ≡ false → AllClear bits (64 * word) (64 * word + 64)
clear-word bits word none k low high =
    let at : k / 64 ≡ word = omega arith in
    not_true (is_set bits k) (λ set_there. true≢false (sym (has_set-at bits k set_there) ∙ ap (has_set bits) at ∙ none))
  where
    not_true : (b : Bool) → (b ≡ true → ⊥) → b ≡ false
    not_true true never = absurd (never refl)
    not_true false _ = refl

-- a word has a set bit exactly where it is not 0
pub has_set-word : (words : List ℕ) (w : ℕ) → get_or words w 0 < 2 ^ 64 → has_set (bits_of words) w ≡ not (eqb (get_or words w 0) 0)
has_set-word words w fits =
    elim (cases_eq (get_or words w 0) 0) [
      | inl zero_word ↦
          let clear : AllClear (bits_of words) (64 * w) (64 * w + 64) = λ k low high.
          let at : k / 64 ≡ w = omega arith in
          is_set-bits_of words k ∙ ap (λ v. eqb (bit_at (get_or words v 0) (k % 64)) 1) at ∙ ap (λ x. eqb (bit_at x (k % 64)) 1) zero_word ∙ ap (λ b. eqb b 1) (bit_at-zero (k % 64)) in
          has_set-clear (bits_of words) w clear ∙ sym (ap not (eq-eqb (get_or words w 0) 0 zero_word))
      | inr some ↦
          let lowest = bit_at-trailing_zeros w64 (get_or words w 0) (omega arith) fits in
          let t = trailing_zeros w64 (get_or words w 0) in
          let small : t < 64 = lowest.0 in
          let at : (64 * w + t) / 64 ≡ w = omega arith in
          let place : (64 * w + t) % 64 ≡ t = omega arith in
          let there : is_set (bits_of words) (64 * w + t) ≡ true =
          is_set-bits_of words (64 * w + t) ∙ ap (λ v. eqb (bit_at (get_or words v 0) ((64 * w + t) % 64)) 1) at ∙ ap (λ i. eqb (bit_at (get_or words w 0) i) 1) place ∙ eq-eqb _ 1 lowest.1 in
          sym (ap (has_set (bits_of words)) at) ∙ has_set-at (bits_of words) (64 * w + t) there ∙ sym (ap not (ne_eqb (get_or words w 0) 0 some))
    ]

-- ---- the first set bit of a word from a place on

module _ (words : List ℕ) (from : ℕ) (fits : get_or words (from / 64) 0 < 2 ^ 64) where
  abbrev whole : ℕ
  whole = get_or words (from / 64) 0

  abbrev left : ℕ
  left = bit_and whole ((2 ^ 64 - 1) * 2 ^ (from % 64) % 2 ^ 64)

  left_at : (i : ℕ) → bit_at left i ≡ min (bit_at whole i) (bit_at (2 ^ 64 - 2 ^ (from % 64)) i)
  left_at i =
      let low : from % 64 ≤ 64 = omega arith in
      bit_at_and whole ((2 ^ 64 - 1) * 2 ^ (from % 64) % 2 ^ 64) i ∙ ap (λ m. min (bit_at whole i) (bit_at m i)) (ones_shl 64 (from % 64) low)

  left-above : (i : ℕ) → from % 64 ≤ i → i < 64 → bit_at left i ≡ bit_at whole i
  left-above i low small = omega (arith, left_at i, bit_at_mask_inside (from % 64) 64 i low small, bit_at-lt whole i)

  left-below : (i : ℕ) → i < from % 64 → bit_at left i ≡ 0
  left-below i under = omega (arith, left_at i, bit_at_mask_below (from % 64) 64 i under)

  bit_in_word : (k : ℕ) → k / 64 ≡ from / 64 → is_set (bits_of words) k ≡ eqb (bit_at whole (k % 64)) 1
  bit_in_word k same = is_set-bits_of words k ∙ ap (λ w. eqb (bit_at (get_or words w 0) (k % 64)) 1) same

  clear_where : (k : ℕ) → from ≤ k → k / 64 ≡ from / 64 → bit_at left (k % 64) ≡ 0 → is_set (bits_of words) k ≡ false
  clear_where k low same none =
      let bit : bit_at whole (k % 64) ≡ 0 = sym (left-above (k % 64) (omega arith) (omega arith)) ∙ none in
      bit_in_word k same ∙ ap (λ b. eqb b 1) bit

  pub probe-none : left ≡ 0 → AllClear (bits_of words) from (64 * (from / 64) + 64)
  probe-none none k low high =
      clear_where k low (omega arith) (ap (λ w. bit_at w (k % 64)) none ∙ bit_at-zero (k % 64))

  pub probe-some : left ≢ 0 → IsFirstSet (bits_of words) from (64 * (from / 64) + 64) (Some (from / 64 * 64 + trailing_zeros w64 left))
  probe-some some =
      let t = trailing_zeros w64 left in
      let lowest = bit_at-trailing_zeros w64 left (omega arith) (omega (arith, and_le_l whole ((2 ^ 64 - 1) * 2 ^ (from % 64) % 2 ^ 64))) in
      let small : t < 64 = lowest.0 in
      let above : from % 64 ≤ t =
      elim (cases_lt t (from % 64)) [
        | inl under ↦ absurd (let no_bit = left-below t under in let a_bit : bit_at left t ≡ 1 = lowest.1 in omega arith)
        | inr over ↦ over
      ] in
      let word : (from / 64 * 64 + t) / 64 ≡ from / 64 = omega arith in
      let place : (from / 64 * 64 + t) % 64 ≡ t = omega arith in (
        omega arith,
        omega arith,
        bit_in_word (from / 64 * 64 + t) word ∙ ap (λ i. eqb (bit_at whole i) 1) place ∙ eq-eqb _ 1 (sym (left-above t above small) ∙ lowest.1),
        λ k low high. clear_where k low (omega arith) (lowest.2 (k % 64) (omega arith)),
      )

pub bits_of-zeros : (n : ℕ) → bits_of (replicate n 0) ≡ replicate (64 * n) false
bits_of-zeros n =
    let len : length (bits_of (replicate n 0)) ≡ length (replicate (64 * n) false) =
    omega (arith, length-bits_of (replicate n 0), length-replicate {A = ℕ} n 0, length-replicate (64 * n) false) in
    let clear : (k : ℕ) → k < 64 * n → is_set (bits_of (replicate n 0)) k ≡ false = λ k within.
    is_set-bits_of (replicate n 0) k ∙ ap (λ w. eqb (bit_at w (k % 64)) 1) (get_or-replicate n (k / 64) 0 0 (omega arith)) ∙ ap (λ b. eqb b 1) (bit_at-zero (k % 64)) in
    same_lists _ _ len
    (λ k d within.
    let small : k < 64 * n = omega (arith, length-bits_of (replicate n 0), length-replicate {A = ℕ} n 0) in
    get_or_default _ k d false within ∙ clear k small ∙ sym (get_or-replicate (64 * n) k false d small))
