-- Lines, words and what stands before and after a byte.
use Rattle.std.proofs.Common.{◌≡◌, ◌==◌, ℕ, suc, ◌+◌, ◌-◌, ◌<◌, Bool, true, false, cond, not, List, [], ◌∷◌, length, take, drop, get_or, refl, sym, ap, ◌∙◌, subst, arith}
use Rattle.std.specs.List.{slice_split, onto_first, position_or_len, before_first, before_last, after_first, suffix_len, list_any}
use Rattle.std.specs.Str.Lines.{lines, lines_of_parts, strip_carriage_return}
use Rattle.std.proofs.lemmas.Bool.{ne_eqb, eq-eqb}
use Rattle.std.proofs.lemmas.List.Splits.{slice_split_none, slice_split_first}
use Rattle.std.proofs.lemmas.List.Sums.{fails_before_first, suffix_len_is, passes_at_first}
use Rattle.std.proofs.lemmas.List.{take_all, length-drop}
use Rattle.std.proofs.lemmas.List.Folds.{list_any_at, list_any_none}

-- the parts of a list are at least one
parts-some : {X : Type 0} (p : X → Bool) (xs : List X) → (part : List X) × (parts : List (List X)) × (slice_split p xs ≡ part ∷ parts)
parts-some p [] = ([], [], refl)
parts-some {X} p (x ∷ xs) =
    let more = parts-some p xs in
    elim (p x) as (λ t. (part : List X) × (parts : List (List X)) × (cond t ([] ∷ slice_split p xs) (onto_first x (slice_split p xs)) ≡ part ∷ parts)) [
      | true ↦ ([], slice_split p xs, refl)
      | false ↦ (x ∷ more.0, more.1, ap (onto_first x) more.2)
    ]

-- a text without a line feed is one line
pub lines-last : (text rest : List ℕ) → 0 < length text → position_or_len (λ b. b == 10) text ≡ length text → rest ≡ [] → lines text ≡ text ∷ lines rest
lines-last text rest some place none =
    let whole : slice_split (λ b. b == 10) text ≡ text ∷ [] = slice_split_none (λ b. b == 10) text (λ k d below. fails_before_first (λ b. b == 10) text k d (omega arith)) in
    let positive : (length text == 0) ≡ false = ne_eqb _ _ (λ e. omega arith) in
    ap lines_of_parts whole ∙ ap (λ t. cond t [] (text ∷ [])) positive ∙ ap (λ r. text ∷ lines r) (sym none)

-- a text with one is its first line and the lines after it
pub lines-first : (text line rest : List ℕ) → position_or_len (λ b. b == 10) text < length text → line ≡ strip_carriage_return (before_first (λ b. b == 10) text) → rest ≡ after_first (λ b. b == 10) text → lines text ≡ line ∷ lines rest
lines-first text line rest place is after =
    let p : ℕ → Bool = λ b. b == 10 in
    let first : slice_split p text ≡ before_first p text ∷ slice_split p (after_first p text) = slice_split_first p text 0 place in
    let more = parts-some p (after_first p text) in
    let joined : lines_of_parts (before_first p text ∷ slice_split p (after_first p text)) ≡ strip_carriage_return (before_first p text) ∷ lines_of_parts (slice_split p (after_first p text)) =
    subst (λ s. lines_of_parts (before_first p text ∷ s) ≡ strip_carriage_return (before_first p text) ∷ lines_of_parts s) (sym more.2) refl in
    ap lines_of_parts first ∙ joined ∙ ap (λ l. l ∷ lines (after_first p text)) (sym is) ∙ ap (λ r. line ∷ lines r) (sym after)

-- a slice to the end is what is dropped to
pub rest-is : {X : Type 0} (xs : List X) (n : ℕ) → take (length xs - n) (drop n xs) ≡ drop n xs
rest-is xs n = take_all (length xs - n) (drop n xs) (omega (arith, length-drop n xs))

-- before the last byte, found at a place from the end
pub before_last-is : (bytes : List ℕ) (wanted place : ℕ) → place < length bytes → get_or bytes place 0 ≡ wanted → ((k : ℕ) → place < k → k < length bytes → get_or bytes k 0 ≡ wanted → ⊥) → before_last (λ b. b == wanted) bytes ≡ take place bytes
before_last-is bytes wanted place below is none =
    let p : ℕ → Bool = λ b. not (b == wanted) in
    let count : suffix_len p bytes ≡ length bytes - suc place = suffix_len_is p bytes (suc place) 0 (omega arith) (λ k at within. ap not (ne_eqb (get_or bytes k 0) wanted (none k (omega arith) within))) (λ _. ap not (eq-eqb (get_or bytes (suc place - 1) 0) wanted (ap (λ i. get_or bytes i 0) (let same : suc place - 1 ≡ place = omega arith in same) ∙ is))) in
    ap (λ n. take n bytes) (let same : length bytes - suffix_len p bytes - 1 ≡ place = omega (arith, count) in same)

pub before_last-none : (bytes : List ℕ) (wanted : ℕ) → ((k : ℕ) → k < length bytes → get_or bytes k 0 ≡ wanted → ⊥) → before_last (λ b. b == wanted) bytes ≡ []
before_last-none bytes wanted none =
    let p : ℕ → Bool = λ b. not (b == wanted) in
    let count : suffix_len p bytes ≡ length bytes - 0 = suffix_len_is p bytes 0 0 (omega arith) (λ k at within. ap not (ne_eqb (get_or bytes k 0) wanted (none k within))) (λ none_such. absurd (omega (arith, none_such))) in
    ap (λ n. take n bytes) (let same : length bytes - suffix_len p bytes - 1 ≡ 0 = omega (arith, count) in same)

-- a byte is there exactly where its first place is within
pub there : (bytes : List ℕ) (wanted : ℕ) → position_or_len (λ b. b == wanted) bytes < length bytes → list_any (λ b. b == wanted) bytes ≡ true
there bytes wanted below =
    list_any_at (λ b. b == wanted) bytes (position_or_len (λ b. b == wanted) bytes) 0 below (passes_at_first (λ b. b == wanted) bytes 0 below)

pub not-there : (bytes : List ℕ) (wanted : ℕ) → position_or_len (λ b. b == wanted) bytes ≡ length bytes → list_any (λ b. b == wanted) bytes ≡ false
not-there bytes wanted at =
    list_any_none (λ b. b == wanted) bytes (λ k d below. fails_before_first (λ b. b == wanted) bytes k d (omega arith))

-- a list to the place of a byte, and after it, are what stands before and after the first such byte
pub split-there : (bytes : List ℕ) (wanted place : ℕ) → place ≡ position_or_len (λ b. b == wanted) bytes → (take place bytes ≡ before_first (λ b. b == wanted) bytes) × (take (length bytes - (place + 1)) (drop (place + 1) bytes) ≡ after_first (λ b. b == wanted) bytes)
split-there bytes wanted place is =
    (ap (λ n. take n bytes) is, rest-is bytes (place + 1) ∙ ap (λ n. drop (n + 1) bytes) is)
