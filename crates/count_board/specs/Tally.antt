-- What a seat of a board of counters knows, and the rule that every step of every seat keeps.
--
-- Why a thread may believe it: the words and what all seats know are one picture, and the rule is a fact about that
-- picture. A seat's own part of the picture is changed by that seat's steps alone, and each step changes at most one
-- word. Whatever the other threads have done before, each step leaves the rule true again; so it is true at every
-- moment, and what it says of a seat, the seat may believe without looking at the others. Every seat that is split
-- off takes parts along, of which there are 48 in all. Who has joined all seats has all parts, and with them all
-- additions: no other seat can have added anything.
use Rattle.std.specs.Prelude.{◌≡◌, ℕ, ◌+◌, ◌-◌, ◌*◌, ◌^◌, ◌≤◌, ◌==◌, if◌then◌else◌, List, [], ◌∷◌, ◌++◌, length, slice_index}
use Rattle.std.specs.List.{sum_by, fold, All}
use mathlib.Core.Option.{some}
use lib.ListN.{get_elem?}
use Rattle.atomic_table.specs.Table.{State, Me, Step}
use Rattle.count_board.specs.declared.seat.Tally.{Tally}

-- what a seat knows: its parts of the board, what it added and what it saw
abbrev pub tally : ℕ → List (ℕ × ℕ) → List (ℕ × ℕ) → Tally
tally parts added seen = record { parts = parts; added = added; seen = seen }

-- a seat with these parts that has added nothing and seen nothing
abbrev pub new_tally : ℕ → Tally
new_tally parts = tally parts [] []

-- the sum of the numbers that a list has for a word
abbrev pub sum_in : ℕ → List (ℕ × ℕ) → ℕ
sum_in word xs = sum_by (λ x. if x.0 == word then x.1 else 0) xs

-- the sum of all numbers of a list
abbrev pub sum_of : List (ℕ × ℕ) → ℕ
sum_of xs = sum_by (λ x. x.1) xs

-- the last number that a list has for a word, or 0 where it has none
abbrev pub last_in : ℕ → List (ℕ × ℕ) → ℕ
last_in word xs = fold (λ last x. if x.0 == word then x.1 else last) 0 xs

-- no number of a list is above its word
abbrev pub IsSeen : List ℕ → List (ℕ × ℕ) → Type 0
IsSeen words xs = All (λ x. x.1 ≤ slice_index words x.0) xs

-- the rule, over the words and what every seat knows
pub record IsKept (count : ℕ) (s : State ℕ Tally) : Type 0 where
  -- there are so many words
  pub words : length s.words ≡ count
  -- each word is the sum of what the seats added to it
  pub sums : (word : ℕ) → slice_index s.words word ≡ sum_by (λ v. sum_in word v.added) s.views
  -- no word is below what any seat ever saw there
  pub seen : (seat : ℕ) (v : Tally) → get_elem? s.views seat ≡ some v → IsSeen s.words v.seen
  -- a seat's additions are at most 2^56 times its parts, so no word wraps
  pub limit : (seat : ℕ) (v : Tally) → get_elem? s.views seat ≡ some v → sum_of v.added ≤ 2 ^ 56 * v.parts
  -- there are 48 parts
  pub parts : sum_by (λ v. v.parts) s.views ≡ 48

-- an addition of one seat: it is the next of what this seat added
abbrev pub Adds : Step ℕ → Me ℕ Tally → ℕ → Me ℕ Tally → Type 0
Adds step before found after = after ≡ (tally before.0.parts (before.0.added ++ (step.word, step.first) ∷ []) before.0.seen, before.1)

-- a look of one seat: what it found is the next of what this seat saw, and not below what it has added and last saw there
pub record Looks (step : Step ℕ) (before : Me ℕ Tally) (found : ℕ) (after : Me ℕ Tally) : Type 0 where
  pub view : after ≡ (tally before.0.parts before.0.added (before.0.seen ++ (step.word, found) ∷ []), before.1)
  pub added : sum_in step.word before.0.added ≤ found
  pub last : last_in step.word before.0.seen ≤ found

-- what a seat keeps where a new seat takes one of its parts
abbrev pub one_part_less : Tally → Tally
one_part_less v = tally (v.parts - 1) v.added v.seen

-- two seats as one: the parts of both, what both added and what both saw
abbrev pub both_tallies : Tally → Tally → Tally
both_tallies v w = tally (v.parts + w.parts) (v.added ++ w.added) (v.seen ++ w.seen)
