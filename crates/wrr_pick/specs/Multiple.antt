-- Least common multiples, and the factors of weights.
use Rattle.std.specs.Prelude.{◌==◌, ℕ, ◌*◌, ◌/◌, ◌%◌, ◌<◌, ◌≤◌, Bool, List, map, fold, unwrap_or, All}
use Rattle.std.specs.List.{list_all, find, range_with_len}
use Rattle.std.specs.Int.{◌∣◌}

-- each of these numbers divides n
abbrev pub is_common_multiple : List ℕ → ℕ → Bool
is_common_multiple numbers n = list_all (λ w. n % w == 0) numbers

-- the least positive number that each of these divides: it is looked for from 1 up to their product
unfoldable pub least_common_multiple : List ℕ → ℕ
least_common_multiple numbers =
    unwrap_or (find (is_common_multiple numbers) (range_with_len 1 (fold ◌*◌ 1 numbers))) 0

-- a queue's factor: the least common multiple of the weights divided by its weight
abbrev pub factors_of : List ℕ → List ℕ
factors_of weights = map (λ w. least_common_multiple weights / w) weights

-- n is positive, each of these numbers divides it, and no lesser positive number is such
pub record IsLeastCommonMultiple (numbers : List ℕ) (n : ℕ) : Type 0 where
  pub positive : 0 < n
  pub multiple : All (λ w. w ∣ n) numbers
  pub least : (m : ℕ) → 0 < m → All (λ w. w ∣ m) numbers → n ≤ m
