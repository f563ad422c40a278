-- What the two levels of a bitmap keep true of one another.
use Rattle.std.specs.Prelude.{◌≡◌, ℕ, ◌*◌, ◌≤◌, Bool, false, List, length}
use Rattle.active_bitmap.specs.NextActive.{is_set}
use Rattle.active_bitmap.specs.Words.{has_set}

-- so many bits in words of 64, and above them a bit for each word
pub record IsSound (size : ℕ) (bits summary : List Bool) : Type 0 where
  pub held : size ≤ length bits
  pub some : 1 ≤ size
  pub summarized : length bits ≤ 64 * length summary
  pub words_at_most : length summary ≤ 1024
  -- no bit is set beyond those that there are
  pub beyond : (bit : ℕ) → size ≤ bit → is_set bits bit ≡ false
  -- a bit of the summary is set exactly where its word has a set bit
  pub summary_is : (word : ℕ) → is_set summary word ≡ has_set bits word
