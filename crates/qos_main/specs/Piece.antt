-- What a piece of a file holds.
use Rattle.std.specs.Prelude.{ℕ, List}

-- how many of its bytes were given out, and the bytes behind these
pub record Held : Type 0 where
  pub given : ℕ
  pub left : List ℕ
