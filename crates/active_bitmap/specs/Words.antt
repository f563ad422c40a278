-- Bits in words of 64.
use Rattle.std.specs.Prelude.{◌≡◌, ℕ, ◌+◌, ◌*◌, ◌/◌, ◌%◌, ◌≤◌, ◌<◌, ◌==◌, Bool, true, false, List, length, map, take, drop, slice_index, Option, Some, None}
use Rattle.std.specs.List.{list_any, range_with_len}
use Rattle.std.specs.Int.{bit_at}
use Rattle.active_bitmap.specs.NextActive.{is_set}

-- the bits of a row of words, the lowest of the first word first
unfoldable pub bits_of : List ℕ → List Bool
bits_of words = map (λ k. bit_at (slice_index words (k / 64)) (k % 64) == 1) (range_with_len 0 (64 * length words))

-- whether a word has a set bit
unfoldable pub has_set : List Bool → ℕ → Bool
has_set bits word = list_any (λ b. b) (take 64 (drop (64 * word) bits))

-- all bits are clear from one place up to another
abbrev pub AllClear : List Bool → ℕ → ℕ → Type 0
AllClear bits low high = (k : ℕ) → low ≤ k → k < high → is_set bits k ≡ false

-- the first set bit from one place up to another
abbrev pub IsFirstSet : List Bool → ℕ → ℕ → Option ℕ → Type 0
IsFirstSet bits low high None = AllClear bits low high
IsFirstSet bits low high (Some k) = (low ≤ k) × (k < high) × (is_set bits k ≡ true) × AllClear bits low k

-- the first set bit after a place, or else the first up to that place
abbrev pub IsNextSet : List Bool → ℕ → Option ℕ → Type 0
IsNextSet bits place None = AllClear bits 0 (length bits)
IsNextSet bits place (Some k) =
    (k < length bits) × (is_set bits k ≡ true)
    × (place < k → AllClear bits (place + 1) k) × (k ≤ place → AllClear bits (place + 1) (length bits) × AllClear bits 0 k)
