-- What a read adds to a text.
use Rattle.std.specs.Prelude.{◌≡◌, ◌≤◌, ℕ, List, [], ◌++◌, length, take}

-- a read of n bytes added the first that were left to a text; it was of none only at the end
pub record AddsPart (n : ℕ) (before after left : List ℕ) : Type 0 where
  pub there : n ≤ length left
  pub added : after ≡ before ++ take n left
  pub end : n ≡ 0 → left ≡ []
