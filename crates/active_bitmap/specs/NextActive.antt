-- The set bit that comes next, going round a list of bits from a place on.
use Rattle.std.specs.Prelude.{ℕ, ◌+◌, ◌-◌, ◌%◌, Bool, false, List, ◌++◌, length, take, drop, position, Option, option_map, slice_index_or}

-- whether a bit is set; none is beyond the last
abbrev pub is_set : List Bool → ℕ → Bool
is_set bits bit = slice_index_or bits bit false

-- how far a bit lies ahead of a place, going round so many bits; the place itself lies at 0
abbrev pub distance : ℕ → ℕ → ℕ → ℕ
distance size pos bit = (bit + size - pos) % size

-- the bits in the order of their distance: those from the place to the end, and then those before it
abbrev pub round_from : ℕ → List Bool → List Bool
round_from pos bits = drop pos bits ++ take pos bits

-- the set bit at the least distance ahead of a place, or none where all are clear
abbrev pub next_active : ℕ → List Bool → Option ℕ
next_active pos bits = option_map (λ ahead. (pos + ahead) % length bits) (position (λ b. b) (round_from pos bits))
