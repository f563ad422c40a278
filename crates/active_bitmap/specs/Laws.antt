-- What the next set bit is among all set bits.
use Rattle.std.specs.Prelude.{◌≡◌, ℕ, ◌<◌, ◌≤◌, Bool, true, false, List, length, Some, None}
use Rattle.active_bitmap.specs.NextActive.{is_set, distance, next_active}

-- the bit is set, and no set bit lies nearer ahead of the place
pub record IsNearest (bits : List Bool) (pos bit : ℕ) : Type 0 where
  pub within : bit < length bits
  pub set_itself : is_set bits bit ≡ true
  pub nearest : (other : ℕ) → is_set bits other ≡ true → distance (length bits) pos bit ≤ distance (length bits) pos other

-- the next set bit is the nearest one
abbrev pub NextIsNearest : Type 0
NextIsNearest = (bits : List Bool) (pos bit : ℕ) → pos < length bits → next_active pos bits ≡ Some bit → IsNearest bits pos bit

-- where none is found all bits are clear
abbrev pub NoneIsAllClear : Type 0
NoneIsAllClear =
    (bits : List Bool) (pos : ℕ) → pos < length bits → next_active pos bits ≡ None → (bit : ℕ) → is_set bits bit ≡ false
