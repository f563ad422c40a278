-- Lines of a report.
use Rattle.std.specs.Prelude.{ℕ, ◌+◌, List, [], ◌∷◌, ◌++◌}
use Rattle.std.specs.List.{flat_map}
use Rattle.std.specs.Fmt.{decimal}

-- a text with its line feed
abbrev pub line : List ℕ → List ℕ
line text = text ++ 10 ∷ []

-- a name and its number, with one space between them
abbrev pub pair : List ℕ × ℕ → List ℕ
pair (name, n) = name ++ 32 ∷ decimal n

-- pairs, with one space before each
abbrev pub pairs_text : List (List ℕ × ℕ) → List ℕ
pairs_text pairs = flat_map (λ p. 32 ∷ pair p) pairs

-- the line of a first text and pairs
abbrev pub pairs_line : List ℕ → List (List ℕ × ℕ) → List ℕ
pairs_line first pairs = first ++ line (pairs_text pairs)

-- the lines of the items of a list, each item with its place, counted from `n`
abbrev pub lines_from : {A : Type 0} → (ℕ → A → List ℕ) → ℕ → List A → List ℕ
lines_from text n [] = []
lines_from text n (x ∷ xs) = text n x ++ lines_from text (n + 1) xs
