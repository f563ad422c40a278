-- The next set bit, by the bits ahead of a place.
use Rattle.std.proofs.Common.{◌≡◌, ℕ, ◌+◌, ◌-◌, ◌*◌, ◌%◌, ◌<◌, ◌≤◌, Bool, true, false, true≢false, cond, List, length, take, drop, get_or, ltb, refl, sym, ap, subst, ◌∙◌, arith, inl, inr, lt-ltb, ltb-true}
use Rattle.std.specs.Prelude.{Some, None, option_map}
use Rattle.std.specs.List.{position_or_len}
use Rattle.std.proofs.Math.Nat.{mod-eq_of_lt, add-mul-mod_self_left}
use Rattle.std.proofs.lemmas.Bool.{cases_lt, ltb-false}
use Rattle.std.proofs.lemmas.List.{length-take, length-drop, length-append, get_or-take, get_or-drop, get_or_append_left, get_or-append_right, get_or_past}
use Rattle.std.proofs.lemmas.List.Sums.{position_or_len_is, passes_at_first, fails_before_first}
use Rattle.active_bitmap.specs.NextActive.{is_set, distance, round_from, next_active}
use Rattle.active_bitmap.specs.Words.{AllClear}
use Rattle.active_bitmap.specs.Laws.{IsNearest, NextIsNearest, NoneIsAllClear}

-- once round and a part is that part
once_round : (n k : ℕ) → k < n → (k + n) % n ≡ k
once_round n k within = let one : k + n ≡ k + n * 1 = omega arith in ap (λ x. x % n) one ∙ add-mul-mod_self_left k n 1 ∙ mod-eq_of_lt within

module _ (bits : List Bool) (pos : ℕ) (within : pos < length bits) where
  abbrev round : List Bool
  round = round_from pos bits

  abbrev size : ℕ
  size = length bits

  length-round : length round ≡ size
  length-round = omega (arith, length-append (drop pos bits) (take pos bits), length-drop pos bits, length-take pos bits)

  -- the bits from the place on stand first, and then those before it
  round-ahead : (k : ℕ) → pos ≤ k → k < size → get_or round (k - pos) false ≡ is_set bits k
  round-ahead k low high =
      let place : pos + (k - pos) ≡ k = omega arith in
      get_or_append_left (drop pos bits) (take pos bits) false (k - pos) (omega (arith, length-drop pos bits)) ∙ get_or-drop pos bits (k - pos) false ∙ ap (is_set bits) place

  round-behind : (k : ℕ) → k < pos → get_or round (k + size - pos) false ≡ is_set bits k
  round-behind k low =
      let place : k + size - pos - (size - pos) ≡ k = omega arith in
      get_or-append_right (drop pos bits) (take pos bits) (size - pos) (k + size - pos) false (length-drop pos bits) (omega arith)
      ∙ ap (λ i. get_or (take pos bits) i false) place ∙ get_or-take pos bits k false low

  -- a place in that order, by the bit that stands there
  round_is : (P : Bool → Type 0) → (j : ℕ) → j < size → ((k : ℕ) → pos ≤ k → k < size → k - pos ≡ j → P (is_set bits k)) → ((k : ℕ) → k < pos → k + size - pos ≡ j → P (is_set bits k)) → P (get_or round j false)
  round_is P j small ahead behind =
      elim (cases_lt (pos + j) size) [
        | inl first ↦
            let back : pos + j - pos ≡ j = omega arith in
            subst P (sym (round-ahead (pos + j) (omega arith) first) ∙ ap (λ i. get_or round i false) back) (ahead (pos + j) (omega arith) first back)
        | inr then ↦
            let back : pos + j - size + size - pos ≡ j = omega arith in
            subst P (sym (round-behind (pos + j - size) (omega arith)) ∙ ap (λ i. get_or round i false) back) (behind (pos + j - size) (omega arith) back)
      ]

  -- the first set bit in that order, at a known place
  first_at : (j k : ℕ) → j < size → (pos + j) % size ≡ k → get_or round j false ≡ true → ((i : ℕ) → i < j → get_or round i false ≡ false) → next_active pos bits ≡ Some k
  first_at j k small lands here before =
      let first : position_or_len (λ b. b) round ≡ j = position_or_len_is (λ b. b) round j false (omega (arith, length-round)) before (λ _. here) in
      let inside : j < length round = omega (arith, length-round) in
      ap (λ i. option_map (λ ahead. (pos + ahead) % size) (cond (ltb i (length round)) (Some i) None)) first
      ∙ ap (λ b. option_map (λ ahead. (pos + ahead) % size) (cond b (Some j) None)) (lt-ltb j (length round) inside) ∙ ap Some lands

  pub next-ahead : (k : ℕ) → pos ≤ k → k < size → is_set bits k ≡ true → AllClear bits pos k → next_active pos bits ≡ Some k
  next-ahead k low high here clear =
      let place : pos + (k - pos) ≡ k = omega arith in
      first_at (k - pos) k (omega arith) (ap (λ x. x % size) place ∙ mod-eq_of_lt high) (round-ahead k low high ∙ here)
      (λ i early. round_is (λ b. b ≡ false) i (omega arith) (λ m from _ at. clear m from (omega arith)) (λ m under at. absurd (omega arith)))

  pub next-behind : (k : ℕ) → k < pos → is_set bits k ≡ true → AllClear bits pos size → AllClear bits 0 k → next_active pos bits ≡ Some k
  next-behind k low here clear clear_before =
      let place : pos + (k + size - pos) ≡ k + size = omega arith in
      first_at (k + size - pos) k (omega arith) (ap (λ x. x % size) place ∙ once_round size k (omega arith)) (round-behind k low ∙ here)
      (λ i early. round_is (λ b. b ≡ false) i (omega arith) (λ m from inside at. clear m from inside) (λ m under at. clear_before m (omega arith) (omega arith)))

  pub next-none : AllClear bits 0 size → next_active pos bits ≡ None
  next-none clear =
      let all : position_or_len (λ b. b) round ≡ length round =
      position_or_len_is (λ b. b) round (length round) false (omega arith)
      (λ i early. round_is (λ b. b ≡ false) i (omega (arith, length-round)) (λ m _ inside _. clear m (omega arith) inside) (λ m under _. clear m (omega arith) (omega arith)))
      (λ past. absurd (omega arith)) in
      ap (λ i. option_map (λ ahead. (pos + ahead) % size) (cond (ltb i (length round)) (Some i) None)) all
      ∙ ap (λ b. option_map (λ ahead. (pos + ahead) % size) (cond b (Some (length round)) None)) (not_below (length round))
    where
      not_below : (n : ℕ) → ltb n n ≡ false
      not_below n = by (ltb n n) refl
        where
          by : (b : Bool) → ltb n n ≡ b → ltb n n ≡ false
          by true e = absurd (let low = ltb-true n n e in omega arith)
          by false e = e

  -- ---- the laws

  distance-ahead : (k : ℕ) → pos ≤ k → k < size → distance size pos k ≡ k - pos
  distance-ahead k low high = let place : k + size - pos ≡ k - pos + size = omega arith in ap (λ x. x % size) place ∙ once_round size (k - pos) (omega arith)

  distance-behind : (k : ℕ) → k < pos → distance size pos k ≡ k + size - pos
  distance-behind k low = mod-eq_of_lt (omega arith)

  -- a bit stands in that order at its distance
  round-distance : (k : ℕ) → k < size → (distance size pos k < size) × (get_or round (distance size pos k) false ≡ is_set bits k)
  round-distance k high =
      elim (cases_lt k pos) [
        | inl low ↦ (omega (arith, distance-behind k low), ap (λ i. get_or round i false) (distance-behind k low) ∙ round-behind k low)
        | inr low ↦ (omega (arith, distance-ahead k low high), ap (λ i. get_or round i false) (distance-ahead k low high) ∙ round-ahead k low high)
      ]

  -- the bit that lies so far ahead lies at that distance
  distance-back : (j : ℕ) → j < size → ((pos + j) % size < size) × (distance size pos ((pos + j) % size) ≡ j)
  distance-back j small =
      elim (cases_lt (pos + j) size) [
        | inl first ↦
            let at : (pos + j) % size ≡ pos + j = mod-eq_of_lt first in
            (omega arith, ap (distance size pos) at ∙ distance-ahead (pos + j) (omega arith) first ∙ omega arith)
        | inr then ↦
            let turned : pos + j ≡ pos + j - size + size = omega arith in
            let at : (pos + j) % size ≡ pos + j - size = ap (λ x. x % size) turned ∙ once_round size (pos + j - size) (omega arith) in
            (omega arith, ap (distance size pos) at ∙ distance-behind (pos + j - size) (omega arith) ∙ omega arith)
      ]

  set_is_within : (k : ℕ) → is_set bits k ≡ true → k < size
  set_is_within k there =
      elim (cases_lt k size) [ inl inside ↦ inside | inr past ↦ absurd (true≢false (sym there ∙ get_or_past bits k false past)) ]

  -- no set bit stands before the first
  first_is_least : (other : ℕ) → is_set bits other ≡ true → position_or_len (λ b. b) round ≤ distance size pos other
  first_is_least other there =
      let d = round-distance other (set_is_within other there) in
      elim (cases_lt (distance size pos other) (position_or_len (λ b. b) round)) [
        | inl early ↦ absurd (true≢false (sym (d.1 ∙ there) ∙ fails_before_first (λ b. b) round (distance size pos other) false early))
        | inr late ↦ late
      ]

  found : (b : Bool) → ltb (position_or_len (λ b. b) round) (length round) ≡ b → (bit : ℕ)
      → option_map (λ ahead. (pos + ahead) % size) (cond b (Some (position_or_len (λ b. b) round)) None) ≡ Some bit
      → IsNearest bits pos bit
  found true inside bit is =
      let j = position_or_len (λ b. b) round in
      let small : j < length round = ltb-true j (length round) inside in
      let lands : (pos + j) % size ≡ bit = cc in
      let back = distance-back j (omega (arith, length-round)) in
      let far : distance size pos bit ≡ j = ap (distance size pos) (sym lands) ∙ back.1 in
      let high : bit < size = rw (← lands) back.0 in
      let there = round-distance bit high in
      record {
        within = high;
        set_itself = sym there.1 ∙ ap (λ i. get_or round i false) far ∙ passes_at_first (λ b. b) round false small;
        nearest = λ other set_there. omega (arith, far, first_is_least other set_there);
      }
  found false inside bit is = absurd (cc)

  none_found : (b : Bool) → ltb (position_or_len (λ b. b) round) (length round) ≡ b
      → option_map (λ ahead. (pos + ahead) % size) (cond b (Some (position_or_len (λ b. b) round)) None) ≡ None
      → (bit : ℕ) → is_set bits bit ≡ false
  none_found true inside is bit = absurd (cc)
  none_found false inside is bit =
      let past : length round ≤ position_or_len (λ b. b) round = ltb-false (position_or_len (λ b. b) round) (length round) inside in
      elim (cases_lt bit size) [
        | inl high ↦
            let d = round-distance bit high in
            sym d.1 ∙ fails_before_first (λ b. b) round (distance size pos bit) false (omega (arith, length-round))
        | inr over ↦ get_or_past bits bit false over
      ]

pub next_is_nearest : NextIsNearest
next_is_nearest bits pos bit within is = found bits pos within _ refl bit is

pub none_is_all_clear : NoneIsAllClear
none_is_all_clear bits pos within is = none_found bits pos within _ refl is
