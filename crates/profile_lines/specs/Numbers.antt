-- Numbers of a profile text.
use Rattle.std.specs.Prelude.{◌==◌, ℕ, ◌+◌, ◌-◌, ◌*◌, ◌^◌, Bool, ◌&&◌, nat_le, nat_lt, if◌then◌else◌, List, [], ◌∷◌, length, Option, None, Some}
use Rattle.std.specs.List.{list_all, list_any, before_first, after_first}
use Rattle.std.specs.Char.{is_ascii_digit}

-- the number that decimal digits write after the number n: each digit makes ten of what stands before it
abbrev pub value_after : ℕ → List ℕ → ℕ
value_after n [] = n
value_after n (digit ∷ digits) = value_after (10 * n + (digit - 48)) digits

-- 1 to 20 decimal digits
abbrev pub is_number : List ℕ → Bool
is_number word = nat_le 1 (length word) && nat_le (length word) 20 && list_all is_ascii_digit word

-- the number that a word writes, where it is one below 2^64
unfoldable pub number_of : List ℕ → Option ℕ
number_of word = if is_number word && nat_lt (value_after 0 word) (2 ^ 64) then Some (value_after 0 word) else None

-- two numbers that are both there
abbrev pub both : Option ℕ → Option ℕ → Option (ℕ × ℕ)
both (Some a) (Some b) = Some (a, b)
both (Some a) None = None
both None _ = None

-- the first and the last number of a range `A-B`, or the one number twice
unfoldable pub range_of : List ℕ → Option (ℕ × ℕ)
range_of word =
    if list_any (λ b. b == 45) word
    then both (number_of (before_first (λ b. b == 45) word)) (number_of (after_first (λ b. b == 45) word))
    else both (number_of word) (number_of word)
