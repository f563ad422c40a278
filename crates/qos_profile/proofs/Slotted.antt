-- What facts on whichever lines give, slot by slot.
use Rattle.std.proofs.Common.{◌≡◌, ◌==◌, ℕ, zero, suc, ◌+◌, ◌<◌, ◌≤◌, Bool, true, false, cond, ◌&&◌, ◌||◌, nat_le, List, [], ◌∷◌, ◌++◌, length, find, slice_get, Option, Some, refl, ap, ◌∙◌, arith}
use Rattle.std.specs.List.{list_all, range_with_len}
use Rattle.std.specs.Option.{option_map}
use Rattle.std.proofs.lemmas.Bool.{and_from, and_right, or_from, or_left, or_right, or_parts, le-leb, lt-leb, eq-eqb, eqb-true, eqb-false}
use Rattle.profile_print.specs.Written.{each_from}
use Rattle.qos_profile.specs.declared.value.Value.{Value}
use Rattle.qos_profile.specs.declared.fact.Fact.{Fact}
use Rattle.qos_profile.specs.Lookups.{covers, value_at, has, number_or, number_at}
use Rattle.qos_profile.specs.Printed.{at_line, gives}

-- facts at lines from k on
abbrev pub placed : ℕ → List Fact → List Fact
placed k facts = each_from at_line k facts

pub placed-append : (k : ℕ) (xs ys : List Fact) → placed k (xs ++ ys) ≡ placed k xs ++ placed (k + length xs) ys
placed-append k [] ys = ap (λ i. placed i ys) (let e : k ≡ k + 0 = omega arith in e)
placed-append k (x ∷ xs) ys =
    ap (λ fs. at_line k x ∷ fs) (placed-append (k + 1) xs ys ∙ ap (λ i. placed (k + 1) xs ++ placed i ys) (let e : k + 1 + length xs ≡ k + length (x ∷ xs) = omega arith in e))

-- the lines do not matter
pub has-placed : (k g s : ℕ) (fs : List Fact) → has (placed k fs) g s ≡ has fs g s
has-placed k g s [] = refl
has-placed k g s (f ∷ fs) = ap (λ t. covers g s f || t) (has-placed (k + 1) g s fs)

pub value-placed : (k g s : ℕ) (fs : List Fact) → value_at (placed k fs) g s ≡ value_at fs g s
value-placed k g s [] = refl
value-placed k g s (f ∷ fs) =
    elim (covers g s f) as (λ t. option_map (λ fact. fact.value) (cond t (Some (at_line k f)) (find (covers g s) (placed (k + 1) fs))) ≡ option_map (λ fact. fact.value) (cond t (Some f) (find (covers g s) fs))) [ true ↦ refl | false ↦ value-placed (k + 1) g s fs ]

pub number-placed : (k g s d : ℕ) (fs : List Fact) → number_at (placed k fs) g s d ≡ number_at fs g s d
number-placed k g s d fs = ap (number_or d) (value-placed k g s fs)

-- past facts that do not give the slot
pub value-skip : (g s : ℕ) (xs ys : List Fact) → has xs g s ≡ false → value_at (xs ++ ys) g s ≡ value_at ys g s
value-skip g s [] ys h = refl
value-skip g s (x ∷ xs) ys h =
    let parts = or_parts (covers g s x) (has xs g s) h in
    ap (λ t. option_map (λ fact. fact.value) (cond t (Some x) (find (covers g s) (xs ++ ys)))) parts.0 ∙ value-skip g s xs ys parts.1

module _ {X : Type 0} (g : ℕ) (t : Option ℕ) (val : X → Value) where
  -- slots one by one
  abbrev pub slots : ℕ → List X → List Fact
  slots n xs = each_from (λ k x. gives g k k t (val x)) n xs

  pub slots-have : (n : ℕ) (xs : List X) (c : ℕ) → n ≤ c → c < n + length xs → has (slots n xs) g c ≡ true
  slots-have n [] c low high = absurd (omega arith)
  slots-have n (x ∷ xs) c low high =
      by (n == c) refl (λ more. slots-have (n + 1) xs c (omega arith) (omega arith))
    where
      below : (a b : ℕ) → a ≤ b → (a ≡ b → ⊥) → a < b
      below a b le ne = omega arith

      by : (b : Bool) → (n == c) ≡ b → (n < c → has (slots (n + 1) xs) g c ≡ true) → has (slots n (x ∷ xs)) g c ≡ true
      by true e rest =
          let same = eqb-true n c e in
          or_left (covers g c (gives g n n t (val x))) (has (slots (n + 1) xs) g c) (and_from (g == g && nat_le n c) (nat_le c n) (and_from (g == g) (nat_le n c) (eq-eqb g g refl) (le-leb n c (omega arith))) (le-leb c n (omega arith)))
      by false e rest =
          or_right (covers g c (gives g n n t (val x))) (has (slots (n + 1) xs) g c) (rest (below n c low (eqb-false n c e)))

  pub slots-others : (n : ℕ) (xs : List X) (h c : ℕ) → (g == h) ≡ false → has (slots n xs) h c ≡ false
  slots-others n [] h c e = refl
  slots-others n (x ∷ xs) h c e =
      or_from (covers h c (gives g n n t (val x))) (has (slots (n + 1) xs) h c) (ap (λ b. (b && nat_le n c) && nat_le c n) e) (slots-others (n + 1) xs h c e)

  -- the value of a slot
  pub slot-value : (n : ℕ) (xs : List X) (i c : ℕ) (x : X) (more : List Fact) → c ≡ n + i → slice_get xs i ≡ Some x → value_at (slots n xs ++ more) g c ≡ Some (val x)
  slot-value n [] i c x more e there = absurd (cc)
  slot-value n (y ∷ ys) zero c x more e there =
      let same : n ≡ c = omega arith in
      let here : covers g c (gives g n n t (val y)) ≡ true = and_from (g == g && nat_le n c) (nat_le c n) (and_from (g == g) (nat_le n c) (eq-eqb g g refl) (le-leb n c (omega arith))) (le-leb c n (omega arith)) in
      ap (λ b. option_map (λ fact. fact.value) (cond b (Some (gives g n n t (val y))) (find (covers g c) (slots (n + 1) ys ++ more)))) here
      ∙ ap (λ z. Some (val z)) (same-some y x there)
    where
      same-some : {Y : Type 0} (a b : Y) → Some a ≡ Some b → a ≡ b
      same-some a b q = cc
  slot-value n (y ∷ ys) (suc i) c x more e there =
      let other : covers g c (gives g n n t (val y)) ≡ false = and_right (g == g && nat_le n c) (nat_le c n) (lt-leb c n (omega arith)) in
      ap (λ b. option_map (λ fact. fact.value) (cond b (Some (gives g n n t (val y))) (find (covers g c) (slots (n + 1) ys ++ more)))) other
      ∙ slot-value (n + 1) ys i c x more (omega arith) there

-- a test of all numbers of a range
pub all-range : (q : ℕ → Bool) (a count : ℕ) → ((n : ℕ) → a ≤ n → n < a + count → q n ≡ true) → list_all q (range_with_len a count) ≡ true
all-range q a zero h = refl
all-range q a (suc count) h =
    and_from (q a) (list_all q (range_with_len (a + 1) count)) (h a (omega arith) (omega arith)) (all-range q (a + 1) count (λ n low high. h n (omega arith) (omega arith)))

-- an item below the length is there
pub get-at : {X : Type 0} (xs : List X) (i : ℕ) → i < length xs → (x : X) × (slice_get xs i ≡ Some x)
get-at [] i below = absurd (omega arith)
get-at (x ∷ xs) zero below = (x, refl)
get-at (x ∷ xs) (suc i) below = get-at xs i (omega arith)
