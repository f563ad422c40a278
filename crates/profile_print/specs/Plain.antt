-- The words that a line is read back from.
use Rattle.std.specs.Prelude.{◌≡◌, ℕ, ◌<◌, ◌≤◌, Bool, true, ◌&&◌, ◌||◌, nat_le, List, ◌∷◌, map, length, All, IfSome}
use Rattle.std.specs.List.{list_all}
use Rattle.profile_lines.specs.Lines.{Line, Head, Entry}
use Rattle.profile_plan.specs.Profile.{Plan}
use Rattle.profile_print.specs.Written.{Words, Key, Block}

-- a byte that marks nothing: `.`, `/`, a digit, `_` or a small letter
abbrev pub is_plain : ℕ → Bool
is_plain b = (nat_le 46 b && nat_le b 57) || (nat_le 95 b && nat_le b 122)

-- a word of such bytes
unfoldable pub is_word : List ℕ → Bool
is_word w = nat_le 1 (length w) && list_all is_plain w

-- at least one word, and each plain
abbrev pub are_words : Words → Bool
are_words words = nat_le 1 (length words) && list_all is_word words

abbrev pub is_plain_key : Key → Bool
is_plain_key key = are_words key.words && are_words key.value

abbrev pub is_plain_block : Block → Bool
is_plain_block block = are_words block.head && list_all is_plain_key block.keys

-- the lines of a section
abbrev pub key_line : Key → Line
key_line key = Entry key.words key.value

abbrev pub block_lines : Block → List Line
block_lines block = Head block.head ∷ map key_line block.keys

-- a plan whose every name is a word, and whose every list of numbers has one
pub record HasWords (p : Plan) : Type 0 where
  pub names : All (λ m. is_word m.name ≡ true) p.meters
  pub named : All (λ r. IfSome r.meter (λ n. n < length p.meters)) p.rules
  pub sizes : All (λ port. All (λ s. 1 ≤ length s.sizes) port.subports) p.ports
  pub weights : All (λ k. 1 ≤ length k.weights) p.pipe_kinds
