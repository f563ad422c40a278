-- How the words of a line are written.
use Rattle.std.specs.Prelude.{ℕ, ◌+◌, codes, List, [], ◌∷◌, ◌++◌}
use Rattle.std.specs.List.{flat_map}
use Rattle.profile_lines.specs.Lines.{Line, NotText, Blank, Head, Entry, Neither}

-- a line's words
abbrev pub Words : Type 0
Words = List (List ℕ)

-- words with one space between them
abbrev pub spaced : Words → List ℕ
spaced [] = []
spaced (word ∷ more) = word ++ flat_map (λ w. 32 ∷ w) more

-- `[words]` or `key = value`, with a line feed; the other lines are never written
unfoldable pub line_text : Line → List ℕ
line_text (Head words) = codes "[" ++ spaced words ++ codes "]" ++ 10 ∷ []
line_text (Entry key value) = spaced key ++ codes " = " ++ spaced value ++ 10 ∷ []
line_text NotText = []
line_text Blank = []
line_text Neither = []

-- a key line: the words of its key and of its value
pub record Key : Type 0 where
  pub words : Words
  pub value : Words

abbrev pub key_text : Key → List ℕ
key_text key = line_text (Entry key.words key.value)

-- a section: the words of its head, and its keys
pub record Block : Type 0 where
  pub head : Words
  pub keys : List Key

abbrev pub block_text : Block → List ℕ
block_text block = line_text (Head block.head) ++ flat_map key_text block.keys

-- what the items of a list give, with their numbers from n on
abbrev pub each_from : {X Y : Type 0} → (ℕ → X → Y) → ℕ → List X → List Y
each_from f n [] = []
each_from f n (x ∷ xs) = f n x ∷ each_from f (n + 1) xs

-- the same, numbered from 0
abbrev pub each : {X Y : Type 0} → (ℕ → X → Y) → List X → List Y
each f xs = each_from f 0 xs
