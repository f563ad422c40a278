-- Greatest common divisors.
use Rattle.std.specs.Prelude.{◌==◌, ℕ, zero, suc, ◌%◌, ◌&&◌, Bool, if◌then◌else◌, max}

-- n divides both numbers
abbrev pub divides_both : ℕ → ℕ → ℕ → Bool
divides_both a b n = a % n == 0 && b % n == 0

-- the greatest number from 1 to n that divides both, or 0 where there is none
unfoldable pub greatest_up_to : ℕ → ℕ → ℕ → ℕ
greatest_up_to a b zero = 0
greatest_up_to a b (suc n) = if divides_both a b (suc n) then suc n else greatest_up_to a b n

-- the greatest number that divides both; 0 where both are 0
unfoldable pub gcd_of : ℕ → ℕ → ℕ
gcd_of a b = greatest_up_to a b (max a b)
