-- The value that written words have.
use Rattle.std.proofs.Common.{◌≡◌, ◌==◌, ℕ, ◌+◌, ◌^◌, ◌<◌, ◌≤◌, Bool, true, false, cond, not, ◌&&◌, nat_lt, nat_le, List, [], ◌∷◌, length, map, is_some, unwrap_or, Option, Some, None, Result, Ok, Err, refl, ap, ◌∙◌, subst, arith, rules}
use Rattle.std.specs.List.{list_all, list_any, All, position_or_len, before_first, after_first}
use Rattle.std.specs.Char.{is_ascii_digit}
use Rattle.std.specs.Str.{bytes_eq}
use Rattle.std.specs.Fmt.{decimal}
use Rattle.std.proofs.lemmas.Bool.{and_parts, and_from, le-leb, leb-true, lt-ltb, ltb-true, eq-eqb, ne_eqb, or_from, le-ltb}
use Rattle.std.proofs.lemmas.Fmt.{digits_decimal, digits_value-decimal, decimal_nonempty, length-decimal-le}
use Rattle.std.proofs.lemmas.Str.Parse.{IsNumeralModel, numerals_by_fold}
use Rattle.std.proofs.lemmas.List.{length-map}
use Rattle.std.proofs.lemmas.List.Elements.{All-head, All-tail}
use Rattle.profile_lines.specs.Numbers.{number_of, is_number, value_after, range_of, both}
use Rattle.qos_profile.specs.declared.fault.FaultKind.{FaultKind}
use Rattle.qos_profile.specs.declared.fault.FaultKind.TheVariants as faults
use Rattle.qos_profile.specs.declared.value.Value.TheVariants as values
use Rattle.qos_profile.specs.Table as table
use Rattle.qos_profile.specs.Values.{in_range, as_number, found_at, as_word, number_or_zero, is_within, are_numbers, are_within, numbers_in, as_sizes, as_weights, value_of}

-- decimal digits and the number that they write
pub own : IsNumeralModel (λ ds. list_all is_ascii_digit ds ≡ true) (value_after 0)
own = numerals_by_fold _ (search rules) value_after (search rules)

pub number-is : (n : ℕ) → n < 2 ^ 64 → number_of (decimal n) ≡ Some n
unfolding number_of
number-is n h =
    let value : value_after 0 (decimal n) ≡ n = digits_value-decimal own n h in
    let some = decimal_nonempty n h in
    let short : length (decimal n) ≤ 20 = length-decimal-le 20 n (omega arith) (omega arith) h in
    let digits : list_all is_ascii_digit (decimal n) ≡ true = digits_decimal own n h in
    let is : is_number (decimal n) ≡ true = and_from (nat_le 1 (length (decimal n)) && nat_le (length (decimal n)) 20) (list_all is_ascii_digit (decimal n)) (and_from (nat_le 1 (length (decimal n))) (nat_le (length (decimal n)) 20) (le-leb 1 (length (decimal n)) (omega arith)) (le-leb (length (decimal n)) 20 short)) digits in
    ap (λ t. cond t (Some (value_after 0 (decimal n))) None) (and_from (is_number (decimal n)) (nat_lt (value_after 0 (decimal n)) (2 ^ 64)) is (lt-ltb (value_after 0 (decimal n)) (2 ^ 64) (omega arith)))
    ∙ ap Some value

-- the first digit
pub first-digit : (n : ℕ) → n < 2 ^ 64 → (d : ℕ) × (ds : List ℕ) × (decimal n ≡ d ∷ ds) × (d ≤ 57)
first-digit n h = by (decimal n) refl
  where
    by : (w : List ℕ) → decimal n ≡ w → (d : ℕ) × (ds : List ℕ) × (w ≡ d ∷ ds) × (d ≤ 57)
    by [] e = absurd (omega (arith, decimal_nonempty n h, ap length e))
    by (d ∷ ds) e =
        let digits : list_all is_ascii_digit (d ∷ ds) ≡ true = subst (λ w. list_all is_ascii_digit w ≡ true) e (digits_decimal own n h) in
        let first = (and_parts (is_ascii_digit d) (list_all is_ascii_digit ds) digits).0 in
        (d, ds, refl, leb-true d 57 (and_parts (nat_le 48 d) (nat_le d 57) first).1)

-- a word that begins with a letter
abbrev pub is_lettered : List ℕ → Bool
is_lettered [] = false
is_lettered (b ∷ bs) = nat_lt 57 b

pub lettered-ne : (w : List ℕ) (n : ℕ) → is_lettered w ≡ true → n < 2 ^ 64 → bytes_eq w (decimal n) ≡ false
lettered-ne [] n h below = absurd (cc)
lettered-ne (b ∷ bs) n h below =
    let first = first-digit n below in
    let high = ltb-true 57 b h in
    ap (bytes_eq (b ∷ bs)) first.2
    ∙ ap (λ t. t && bytes_eq bs first.1) (ne_eqb b first.0 (λ e. absurd (omega (arith, first.3))))

-- no word among some
pub no-choice : (choices : List (List ℕ)) (n : ℕ) → list_all is_lettered choices ≡ true → n < 2 ^ 64 → position_or_len (λ w. bytes_eq w (decimal n)) choices ≡ length choices
no-choice [] n h below = refl
no-choice (w ∷ ws) n h below =
    let parts = and_parts (is_lettered w) (list_all is_lettered ws) h in
    ap (λ t. cond (not t) (1 + position_or_len (λ x. bytes_eq x (decimal n)) ws) 0) (lettered-ne w n parts.0 below)
    ∙ (let rest = no-choice ws n parts.1 below in omega arith)

-- a number in its range
pub range-is : (least most n : ℕ) → least ≤ n → n ≤ most → n < 2 ^ 64 → in_range least most (number_of (decimal n)) ≡ Ok n
range-is least most n low high below =
    ap (in_range least most) (number-is n below)
    ∙ ap (λ t. cond {A = Result ℕ FaultKind} t (Ok n) (Err faults.OutOfRange)) (and_from (nat_le least n) (nat_le n most) (le-leb least n low) (le-leb n most high))

pub value-number : (least most n : ℕ) → least ≤ n → n ≤ most → n < 2 ^ 64 → value_of (table.Number least most) (decimal n ∷ []) ≡ Ok (values.Number n)
unfolding value_of
value-number least most n low high below = ap as_number (range-is least most n low high below)

pub value-number-or : (least most n : ℕ) (choices : List (List ℕ)) → list_all is_lettered choices ≡ true → least ≤ n → n ≤ most → n < 2 ^ 64 → value_of (table.NumberOr least most choices) (decimal n ∷ []) ≡ Ok (values.Number n)
unfolding value_of
value-number-or least most n choices lettered low high below =
    let place = no-choice choices n lettered below in
    let none : found_at (position_or_len (λ w. bytes_eq w (decimal n)) choices) (length choices) ≡ None = ap (λ t. cond {A = Option ℕ} t (Some (position_or_len (λ w. bytes_eq w (decimal n)) choices)) None) (le-ltb (position_or_len (λ w. bytes_eq w (decimal n)) choices) (length choices) (omega arith)) in
    ap (λ o. as_word o (as_number (in_range least most (number_of (decimal n))))) none
    ∙ ap as_number (range-is least most n low high below)

-- a list of numbers
numbers-are : (most : ℕ) (ns : List ℕ) → All (λ n. n ≤ most) ns → most < 2 ^ 64 → list_all (λ w. is_some (number_of w)) (map decimal ns) ≡ true
numbers-are most [] h below = refl
numbers-are most (n ∷ ns) h below =
    let here = All-head (λ x. x ≤ most) n ns h in
    and_from (is_some (number_of (decimal n))) (list_all (λ w. is_some (number_of w)) (map decimal ns)) (ap is_some (number-is n (omega arith))) (numbers-are most ns (All-tail (λ x. x ≤ most) n ns h) below)

zero-or : (n : ℕ) → n < 2 ^ 64 → number_or_zero (decimal n) ≡ n
zero-or n h = ap (λ o. unwrap_or o 0) (number-is n h)

numbers-within : (least most : ℕ) (ns : List ℕ) → All (λ n. least ≤ n) ns → All (λ n. n ≤ most) ns → most < 2 ^ 64 → are_within least most (map decimal ns) ≡ true
numbers-within least most [] l h below = refl
numbers-within least most (n ∷ ns) l h below =
    let low = All-head (λ x. least ≤ x) n ns l in
    let high = All-head (λ x. x ≤ most) n ns h in
    and_from (is_within least most (number_or_zero (decimal n))) (are_within least most (map decimal ns)) (ap (is_within least most) (zero-or n (omega arith)) ∙ and_from (nat_le least n) (nat_le n most) (le-leb least n low) (le-leb n most high)) (numbers-within least most ns (All-tail (λ x. least ≤ x) n ns l) (All-tail (λ x. x ≤ most) n ns h) below)

numbers-back : (most : ℕ) (ns : List ℕ) → All (λ n. n ≤ most) ns → most < 2 ^ 64 → map number_or_zero (map decimal ns) ≡ ns
numbers-back most [] h below = refl
numbers-back most (n ∷ ns) h below =
    let here = All-head (λ x. x ≤ most) n ns h in
    ap (λ m. m ∷ map number_or_zero (map decimal ns)) (zero-or n (omega arith))
    ∙ ap (λ ms. n ∷ ms) (numbers-back most ns (All-tail (λ x. x ≤ most) n ns h) below)

pub numbers-read : (count least most : ℕ) (ns : List ℕ) → length ns ≡ count → All (λ n. least ≤ n) ns → All (λ n. n ≤ most) ns → most < 2 ^ 64 → numbers_in count least most (map decimal ns) ≡ Ok ns
unfolding numbers_in
numbers-read count least most ns size l h below =
    let are : are_numbers count (map decimal ns) ≡ true = and_from (length (map decimal ns) == count) (list_all (λ w. is_some (number_of w)) (map decimal ns)) (eq-eqb (length (map decimal ns)) count (length-map ns decimal ∙ size)) (numbers-are most ns h below) in
    ap (λ t. cond {A = Result (List ℕ) FaultKind} t (cond (are_within least most (map decimal ns)) (Ok (map number_or_zero (map decimal ns))) (Err faults.OutOfRange)) (Err faults.BadNumber)) are
    ∙ ap (λ t. cond {A = Result (List ℕ) FaultKind} t (Ok (map number_or_zero (map decimal ns))) (Err faults.OutOfRange)) (numbers-within least most ns l h below)
    ∙ ap Ok (numbers-back most ns h below)

pub value-sizes : (ns : List ℕ) → length ns ≡ 13 → All (λ n. n ≤ 65536) ns → value_of table.Sizes (map decimal ns) ≡ Ok (values.Sizes ns)
unfolding value_of
value-sizes ns size h = ap as_sizes (numbers-read 13 0 65536 ns size (λ k d below. omega arith) h (omega arith))

pub value-weights : (ns : List ℕ) → length ns ≡ 4 → All (λ n. 1 ≤ n) ns → All (λ n. n ≤ 255) ns → value_of table.Weights (map decimal ns) ≡ Ok (values.Weights ns)
unfolding value_of
value-weights ns size l h = ap as_weights (numbers-read 4 1 255 ns size l h (omega arith))

-- a number is a range of one
pub range-one : (n : ℕ) → n < 2 ^ 64 → range_of (decimal n) ≡ Some (n, n)
unfolding range_of
range-one n h =
    let none : list_any (λ b. b == 45) (decimal n) ≡ false = no-dash (decimal n) (digits_decimal own n h) in
    ap (λ t. cond t (both (number_of (before_first (λ b. b == 45) (decimal n))) (number_of (after_first (λ b. b == 45) (decimal n)))) (both (number_of (decimal n)) (number_of (decimal n)))) none
    ∙ ap (λ o. both o o) (number-is n h)
  where
    no-dash : (w : List ℕ) → list_all is_ascii_digit w ≡ true → list_any (λ b. b == 45) w ≡ false
    no-dash [] e = refl
    no-dash (b ∷ bs) e =
        let parts = and_parts (is_ascii_digit b) (list_all is_ascii_digit bs) e in
        let low = leb-true 48 b (and_parts (nat_le 48 b) (nat_le b 57) parts.0).0 in
        or_from (b == 45) (list_any (λ x. x == 45) bs) (ne_eqb b 45 (λ same. absurd (omega arith))) (no-dash bs parts.1)
