-- What filling a buffer takes from a source whose bytes are told.
use Rattle.std.specs.Prelude.{◌≡◌, ℕ, min, List, ◌++◌, length, take, drop}

-- the buffer, or all that was left where that is less, was moved to the buffer's front
pub record Fills (n : ℕ) (buffer_before buffer_after left : List ℕ) : Type 0 where
  pub count : n ≡ min (length buffer_before) (length left)
  pub front : buffer_after ≡ take n left ++ drop n buffer_before
