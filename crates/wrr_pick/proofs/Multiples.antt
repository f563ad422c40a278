-- Multiples of two numbers, and the least common multiple of a list.
use Rattle.std.proofs.Common.{◌≡◌, ℕ, ◌+◌, ◌-◌, ◌*◌, ◌/◌, ◌%◌, ◌<◌, ◌≤◌, true, false, List, [], ◌∷◌, length, get_or, fold, All, sym, ◌∙◌, ap, subst, arith, lit<, unwrap_or, inl, inr, zero, suc}
use Rattle.std.specs.Int.{◌∣◌, IsGcd}
use Rattle.std.specs.List.{range_with_len, position_or_len}
use Rattle.std.proofs.lemmas.Nat.Gcd.{dvd_trans, le_of_dvd, dvd_of_mod-eq-zero, mod-eq-zero_of_dvd}
use Rattle.std.proofs.Math.Nat.{dvd-mod_iff, dvd-mul_left, dvd-mul_right, dvd-mul_right_of_dvd, le-mul_of_pos_right, div-mul_cancel, mul-pos, dvd_of_mul-dvd-mul_right, dvd_of_mul-dvd-mul_left, mul-dvd-mul_left, mul-dvd-mul_right, mul_comm, mul-le-mul_right, div-le_self, eq-zero_of_zero-dvd}
use Rattle.std.proofs.lemmas.Nat.{mod_below}
use Rattle.std.proofs.lemmas.Bool.{eqb-true, eq-eqb, both_ways, cases_lt}
use Rattle.std.proofs.lemmas.List.{get_or_default}
use Rattle.std.proofs.lemmas.List.FromFn.{get_or-range_with_len, length-range_with_len}
use Rattle.std.proofs.lemmas.List.Folds.{find_at}
use Rattle.std.proofs.lemmas.List.Sums.{AllPass-from_list_all, list_all-from_AllPass, fails_before_first, passes_at_first}
use Rattle.std.proofs.lemmas.Option.{unwrap_or-slice_get}
use Rattle.wrr_pick.specs.Multiple.{is_common_multiple, least_common_multiple, IsLeastCommonMultiple}

-- what divides the first factor divides the product
dvd-product : (ns : List ℕ) (w a : ℕ) → w ∣ a → w ∣ fold ◌*◌ a ns
dvd-product [] w a h = h
dvd-product (n ∷ ns) w a h = dvd-product ns w (a * n) (dvd-mul_right_of_dvd w h n)

-- each number divides the product
all-divide-product : (ns : List ℕ) (a k d : ℕ) → k < length ns → get_or ns k d ∣ fold ◌*◌ a ns
all-divide-product [] a k d h = absurd (omega arith)
all-divide-product (n ∷ ns) a zero d h = dvd-product ns n (a * n) (dvd-mul_left n a)
all-divide-product (n ∷ ns) a (suc k) d h = all-divide-product ns (a * n) k d (omega arith)

product-positive : (ns : List ℕ) (a : ℕ) → 1 ≤ a → ((k d : ℕ) → k < length ns → 1 ≤ get_or ns k d) → 1 ≤ fold ◌*◌ a ns
product-positive [] a h all = h
product-positive (n ∷ ns) a h all =
    let n_positive : 1 ≤ n = all 0 0 (omega arith) in
    let less : a ≤ a * n = le-mul_of_pos_right a n_positive in
    product-positive ns (a * n) (omega arith) (λ k d below. all (suc k) d (omega arith))

-- the test of a common multiple, both ways
test-to-all : (ns : List ℕ) (n : ℕ) → is_common_multiple ns n ≡ true → All (λ w. w ∣ n) ns
test-to-all ns n e = λ k d h. dvd_of_mod-eq-zero (get_or ns k d) (eqb-true _ _ (AllPass-from_list_all _ ns e k d h))

all-to-test : (ns : List ℕ) (n : ℕ) → All (λ w. w ∣ n) ns → is_common_multiple ns n ≡ true
all-to-test ns n h = list_all-from_AllPass _ ns (λ k d below. eq-eqb _ _ (mod-eq-zero_of_dvd (get_or ns k d) (h k d below)))

-- the search ends before the product's place
search-ends : (ns : List ℕ) → All (λ w. 1 ≤ w) ns → position_or_len (is_common_multiple ns) (range_with_len 1 (fold ◌*◌ 1 ns)) < fold ◌*◌ 1 ns
search-ends ns all =
    let p = is_common_multiple ns in
    let n = fold ◌*◌ 1 ns in
    let positive : 1 ≤ n = product-positive ns 1 (omega arith) all in
    elim (cases_lt (position_or_len p (range_with_len 1 n)) n) [
      | inl below ↦ below
      | inr above ↦
          let fails : p (get_or (range_with_len 1 n) (n - 1) 0) ≡ false = fails_before_first p (range_with_len 1 n) (n - 1) 0 (omega arith) in
          let place : get_or (range_with_len 1 n) (n - 1) 0 ≡ n = get_or-range_with_len 1 n (n - 1) 0 (omega arith) ∙ omega arith in
          absurd (both_ways (p n) (ap p (sym place) ∙ fails) (all-to-test ns n (all-divide-product ns 1)))
    ]

-- the least common multiple stands at the place where the search ends
least-at-place : (ns : List ℕ) → All (λ w. 1 ≤ w) ns → least_common_multiple ns ≡ 1 + position_or_len (is_common_multiple ns) (range_with_len 1 (fold ◌*◌ 1 ns))
unfolding least_common_multiple
least-at-place ns all =
    let p = is_common_multiple ns in
    let xs = range_with_len 1 (fold ◌*◌ 1 ns) in
    ap (λ o. unwrap_or o 0) (find_at p xs) ∙ unwrap_or-slice_get xs (position_or_len p xs) 0 ∙ get_or-range_with_len 1 (fold ◌*◌ 1 ns) (position_or_len p xs) 0 (search-ends ns all)

pub least_common_multiple-is_least : (ns : List ℕ) → All (λ w. 1 ≤ w) ns → IsLeastCommonMultiple ns (least_common_multiple ns)
least_common_multiple-is_least ns all =
    let p = is_common_multiple ns in
    let n = fold ◌*◌ 1 ns in
    let xs = range_with_len 1 n in
    let i = position_or_len p xs in
    let ends : i < n = search-ends ns all in
    let is : least_common_multiple ns ≡ 1 + i = least-at-place ns all in
    let passes : p (get_or xs i 0) ≡ true = passes_at_first p xs 0 (omega (arith, length-range_with_len 1 n)) in
    let place : get_or xs i 0 ≡ 1 + i = get_or-range_with_len 1 n i 0 ends in
    record {
      positive = omega (arith, is);
      multiple = test-to-all ns (least_common_multiple ns) (ap p (is ∙ sym place) ∙ passes);
      least = λ m positive divides.
          elim (cases_lt m (least_common_multiple ns)) [
            | inr above ↦ above
            | inl below ↦
                let fails : p (get_or xs (m - 1) 0) ≡ false = fails_before_first p xs (m - 1) 0 (omega (arith, is)) in
                let there : get_or xs (m - 1) 0 ≡ m = get_or-range_with_len 1 n (m - 1) 0 (omega (arith, is)) ∙ omega arith in
                absurd (both_ways (p m) (ap p (sym there) ∙ fails) (all-to-test ns m divides))
          ];
    }

-- there is only one
pub IsLeastCommonMultiple-one : (ns : List ℕ) (m n : ℕ) → IsLeastCommonMultiple ns m → IsLeastCommonMultiple ns n → m ≡ n
IsLeastCommonMultiple-one ns m n a b = omega (arith, a.least n b.positive b.multiple, b.least m a.positive a.multiple)

-- what holds of two numbers holds of each
of-two : (P : ℕ → Type 0) (a b : ℕ) → P a → P b → All P (a ∷ b ∷ [])
of-two P a b p q zero d h = p
of-two P a b p q (suc zero) d h = q
of-two P a b p q (suc (suc k)) d h = absurd (omega arith)

-- a least common multiple divides every common multiple of two numbers
least-divides : (a b l m : ℕ) → IsLeastCommonMultiple (a ∷ b ∷ []) l → a ∣ m → b ∣ m → l ∣ m
least-divides a b l m is first second =
    elim (cases_lt 0 (m % l)) [
      | inr none ↦ dvd_of_mod-eq-zero l (omega arith)
      | inl above ↦
          let rest_first : a ∣ m % l = (dvd-mod_iff a (is.multiple 0 0 (lit< tt))).1 first in
          let rest_second : b ∣ m % l = (dvd-mod_iff b (is.multiple 1 0 (lit< tt))).1 second in
          absurd (omega (arith, mod_below m l is.positive, is.least (m % l) above (of-two (λ w. w ∣ m % l) a b rest_first rest_second)))
    ]

-- a times b over their greatest common divisor divides every common multiple
pub product-over-divisor : (a b g m : ℕ) → 0 < a → 0 < b → IsGcd a b g → a ∣ m → b ∣ m → a / g * b ∣ m
product-over-divisor a b g m a_positive b_positive h first second =
    dvd_trans (a / g * b) {b = l} {c = m} part (least-divides a b l m is first second)
  where
    l : ℕ
    l = least_common_multiple (a ∷ b ∷ [])

    is : IsLeastCommonMultiple (a ∷ b ∷ []) l
    is = least_common_multiple-is_least (a ∷ b ∷ []) (of-two (λ w. 1 ≤ w) a b a_positive b_positive)

    q : ℕ
    q = a * b / l

    whole : q * l ≡ a * b
    whole = div-mul_cancel l (least-divides a b l (a * b) is (dvd-mul_right a b) (dvd-mul_left b a))

    q_positive : 0 < q
    q_positive = elim (cases_lt 0 q) [
      | inl above ↦ above
      | inr none ↦
          let zero_q : q ≡ 0 = omega arith in
          let product : 0 < a * b = mul-pos a_positive b_positive in
          absurd (omega (arith, product, whole, ap (λ x. x * l) zero_q))
    ]

    divides_first : q ∣ a
    divides_first = dvd_of_mul-dvd-mul_right q b_positive (subst (λ x. q * b ∣ x) whole (mul-dvd-mul_left b q (is.multiple 1 0 (lit< tt))))

    divides_second : q ∣ b
    divides_second = dvd_of_mul-dvd-mul_right q a_positive (subst (λ x. q * a ∣ x) (whole ∙ mul_comm a b) (mul-dvd-mul_left a q (is.multiple 0 0 (lit< tt))))

    cancelled : g * (a / g * b) ≡ a * b
    cancelled = let e : a / g * g ≡ a = div-mul_cancel g h.0 in omega (arith, ap (λ x. x * b) e)

    part : a / g * b ∣ l
    part = dvd_of_mul-dvd-mul_left (a / g * b) q_positive (subst (λ x. q * (a / g * b) ∣ x) (cancelled ∙ sym whole) (mul-dvd-mul_right q (h.2 q divides_first divides_second) (a / g * b)))

-- the first number divides it too
pub divides-product-over : (a b g : ℕ) → IsGcd a b g → a ∣ a / g * b
divides-product-over a b g h =
    let e : a / g * g ≡ a = div-mul_cancel g h.0 in
    let f : b / g * g ≡ b = div-mul_cancel g h.1 in
    let same : a * (b / g) ≡ a / g * b = omega (arith, ap (λ x. x * (b / g)) e, ap (λ x. a / g * x) f) in
    subst (λ x. a ∣ x) same (dvd-mul_right a (b / g))

-- it is positive, and at most the product
pub product-over-bounds : (a b g : ℕ) → 0 < a → 0 < b → IsGcd a b g → (0 < a / g * b) × (a / g * b ≤ a * b) × (0 < g)
product-over-bounds a b g a_positive b_positive h =
    let e : a / g * g ≡ a = div-mul_cancel g h.0 in
    (mul-pos (quotient e) b_positive, mul-le-mul_right b (div-le_self a g), divisor)
  where
    divisor : 0 < g
    divisor = elim (cases_lt 0 g) [
      | inl above ↦ above
      | inr none ↦
          let g0 : g ≡ 0 = omega arith in
          absurd (omega (arith, a_positive, eq-zero_of_zero-dvd (subst (λ x. x ∣ a) g0 h.0)))
    ]

    quotient : a / g * g ≡ a → 0 < a / g
    quotient e = elim (cases_lt 0 (a / g)) [
      | inl above ↦ above
      | inr none ↦
          let zero_q : a / g ≡ 0 = omega arith in
          absurd (omega (arith, a_positive, e, ap (λ x. x * g) zero_q))
    ]

-- what holds of 0, 1, 2 and 3 holds below 4
pub below-four : (P : ℕ → Type 0) → P 0 → P 1 → P 2 → P 3 → (k : ℕ) → k < 4 → P k
below-four P a b c d zero h = a
below-four P a b c d (suc zero) h = b
below-four P a b c d (suc (suc zero)) h = c
below-four P a b c d (suc (suc (suc zero))) h = d
below-four P a b c d (suc (suc (suc (suc k)))) h = absurd (omega arith)

-- what holds of four numbers holds of each
pub all-four : (P : ℕ → Type 0) (xs : List ℕ) → length xs ≡ 4 → P (get_or xs 0 0) → P (get_or xs 1 0) → P (get_or xs 2 0) → P (get_or xs 3 0) → All P xs
all-four P xs e a b c d =
    λ k other h. subst P (get_or_default xs k 0 other h) (below-four (λ j. P (get_or xs j 0)) a b c d k (omega arith))

-- n is a common multiple of two numbers that divides each other one
pub record IsMultipleOfBoth (a b n : ℕ) : Type 0 where
  pub first : a ∣ n
  pub second : b ∣ n
  pub least : (m : ℕ) → a ∣ m → b ∣ m → n ∣ m

-- the least common multiple of four numbers, taken step by step
pub multiple-of-four : (ws : List ℕ) (w0 w1 w2 w3 a b n : ℕ) → length ws ≡ 4 → All (λ w. 1 ≤ w) ws → w0 ≡ get_or ws 0 0 → w1 ≡ get_or ws 1 0 → w2 ≡ get_or ws 2 0 → w3 ≡ get_or ws 3 0 → IsMultipleOfBoth w0 w1 a → IsMultipleOfBoth a w2 b → IsMultipleOfBoth b w3 n → 0 < n → n ≡ least_common_multiple ws
multiple-of-four ws w0 w1 w2 w3 a b n four all e0 e1 e2 e3 p q r positive =
    IsLeastCommonMultiple-one ws n (least_common_multiple ws) is (least_common_multiple-is_least ws all)
  where
    part : (w k : ℕ) → w ≡ get_or ws k 0 → w ∣ n → get_or ws k 0 ∣ n
    part w k e h = subst (λ x. x ∣ n) e h

    other : (m w k : ℕ) → All (λ x. x ∣ m) ws → w ≡ get_or ws k 0 → k < 4 → w ∣ m
    other m w k divides e below = subst (λ x. x ∣ m) (sym e) (divides k 0 (omega arith))

    is : IsLeastCommonMultiple ws n
    is = record {
      positive = positive;
      multiple = all-four (λ x. x ∣ n) ws four (part w0 0 e0 (dvd_trans w0 p.first (dvd_trans a q.first r.first))) (part w1 1 e1 (dvd_trans w1 p.second (dvd_trans a q.first r.first))) (part w2 2 e2 (dvd_trans w2 q.second r.first)) (part w3 3 e3 r.second);
      least = λ m above divides.
          le_of_dvd above (r.least m (q.least m (p.least m (other m w0 0 divides e0 (omega arith)) (other m w1 1 divides e1 (omega arith))) (other m w2 2 divides e2 (omega arith))) (other m w3 3 divides e3 (omega arith)));
    }
