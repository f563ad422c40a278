-- What follows for the lists of a seat from how they grow.
use Rattle.std.specs.Prelude.{◌≡◌, ◌≢◌, ℕ, ◌+◌, ◌≤◌, List, [], ◌∷◌, ◌++◌, slice_index}
use Rattle.count_board.specs.Tally.{sum_in, last_in, IsSeen}

-- one more addition adds to its word and to no other
abbrev pub AddsUp : Type 0
AddsUp =
    (xs : List (ℕ × ℕ)) (word k n : ℕ) → (sum_in word (xs ++ (word, n) ∷ []) ≡ sum_in word xs + n) × (k ≢ word → sum_in word (xs ++ (k, n) ∷ []) ≡ sum_in word xs)

-- what was last seen in a word is what the last look at that word found
abbrev pub LastIsLatest : Type 0
LastIsLatest =
    (xs : List (ℕ × ℕ)) (word k n : ℕ) → (last_in word (xs ++ (word, n) ∷ []) ≡ n) × (k ≢ word → last_in word (xs ++ (k, n) ∷ []) ≡ last_in word xs)

-- where no word is below what was ever seen there, none is below what was last seen there
abbrev pub LastIsSeen : Type 0
LastIsSeen = (words : List ℕ) (word : ℕ) (xs : List (ℕ × ℕ)) → IsSeen words xs → last_in word xs ≤ slice_index words word
