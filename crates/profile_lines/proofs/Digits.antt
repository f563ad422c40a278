-- The value of digits, and which words are numbers.
use Rattle.std.proofs.Common.{◌≡◌, ℕ, ◌+◌, ◌-◌, ◌*◌, ◌^◌, ◌<◌, ◌≤◌, ◌&&◌, true, false, nat_lt, nat_le, List, [], ◌∷◌, length, get_or, None, Some, ◌∙◌, ap, arith}
use Rattle.std.specs.List.{list_all}
use Rattle.std.specs.Char.{is_ascii_digit}
use Rattle.std.proofs.lemmas.Bool.{lt-ltb, le-ltb, le-leb, lt-leb, and_left, and_right, and_from, cond-true, cond-false}
use Rattle.std.proofs.lemmas.List.Folds.{list_all_at}
use Rattle.profile_lines.specs.Numbers.{value_after, is_number, number_of}

-- more digits make no lesser number
pub value_after-le : (n : ℕ) (ds : List ℕ) → n ≤ value_after n ds
value_after-le n [] = omega arith
value_after-le n (d ∷ ds) = omega (arith, value_after-le (10 * n + (d - 48)) ds)

-- a word that fails the test is no number
no-number : (word : List ℕ) → is_number word ≡ false → number_of word ≡ None
unfolding number_of
no-number word h =
    cond-false (is_number word && nat_lt (value_after 0 word) (2 ^ 64)) (Some (value_after 0 word)) None (and_left (is_number word) (nat_lt (value_after 0 word) (2 ^ 64)) h)

pub number-empty : (word : List ℕ) → length word ≡ 0 → number_of word ≡ None
number-empty word e =
    no-number word (and_left _ _ (and_left _ _ (lt-leb 1 (length word) (omega arith))))

pub number-long : (word : List ℕ) → 20 < length word → number_of word ≡ None
number-long word h =
    no-number word (and_left _ _ (and_right (nat_le 1 (length word)) (nat_le (length word) 20) (lt-leb (length word) 20 h)))

pub number-not : (word : List ℕ) (i : ℕ) → i < length word → is_ascii_digit (get_or word i 0) ≡ false → number_of word ≡ None
number-not word i below h = no-number word (and_right _ _ (list_all_at is_ascii_digit word i 0 below h))

pub number-high : (word : List ℕ) → 2 ^ 64 ≤ value_after 0 word → number_of word ≡ None
unfolding number_of
number-high word h =
    cond-false (is_number word && nat_lt (value_after 0 word) (2 ^ 64)) (Some (value_after 0 word)) None (and_right (is_number word) (nat_lt (value_after 0 word) (2 ^ 64)) (le-ltb (value_after 0 word) (2 ^ 64) h))

pub number-is : (word : List ℕ) (value : ℕ) → 1 ≤ length word → length word ≤ 20 → list_all is_ascii_digit word ≡ true → value ≡ value_after 0 word → value < 2 ^ 64 → number_of word ≡ Some value
unfolding number_of
number-is word value some few digits same low =
    cond-true (is_number word && nat_lt (value_after 0 word) (2 ^ 64)) (Some (value_after 0 word)) None (and_from _ _ (and_from _ _ (and_from _ _ (le-leb 1 (length word) some) (le-leb (length word) 20 few)) digits) (lt-ltb (value_after 0 word) (2 ^ 64) (omega arith)))
    ∙ ap Some (let back : value_after 0 word ≡ value = omega arith in back)
