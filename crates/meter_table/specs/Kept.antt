-- What a seat knows of a meter, and the rule that every step of every seat keeps.
--
-- Why a caller may believe it: the words of the cell and what all seats know are one picture, and the rule is a fact about that picture.
-- A seat's own part of the picture is changed by that seat's steps alone. Whatever the others have done before, each step leaves the rule
-- true again; so it is true at every moment. Every seat has parts of the cell, of which there are 48 in all. Who has joined all seats has
-- all parts, and with them all marks: no other seat can have made any.
use Rattle.std.specs.Prelude.{◌≡◌, ℕ, ◌+◌, ◌-◌, ◌*◌, ◌^◌, ◌<◌, ◌≤◌, ◌==◌, ◌⊎◌, if◌then◌else◌, List, [], ◌∷◌, ◌++◌, length, Some, None, slice_get, slice_index, All}
use Rattle.std.specs.List.{sum_by}
use Rattle.std.specs.Option.{option_map_or}
use mathlib.Core.Option.{some}
use lib.ListN.{get_elem?}
use Rattle.color_meter.specs.Meter.{full}
use Rattle.color_meter.specs.Setting.{Setting}
use Rattle.meter_table.specs.declared.mark.Mark.{Mark}
use Rattle.meter_table.specs.declared.rule.View.{View}
use Rattle.meter_table.specs.Log.{IsLegalLog, made_at}
use Rattle.meter_table.specs.Cell.{IsCell, mark_in, setting_in}

-- all parts of a cell of which nothing is known
abbrev pub blank : View
blank = record { parts = 48; known = None; marks = [] }

-- no part of a cell
abbrev pub spent : View
spent = record { parts = 0; known = None; marks = [] }

-- a view knows the meter's number and what it is set to, and has a part of its cell
pub record Knows (meter : ℕ) (setting : Setting) (v : View) : Type 0 where
  pub known : v.known ≡ Some (meter, full setting)
  pub part : 0 < v.parts

-- a mark stands at its turn
abbrev pub StandsIn : List Mark → Mark → Type 0
StandsIn log mark = slice_get log mark.turn ≡ Some mark

-- The cell has the words of a legal log of the meter, which is made of the marks of all views.
pub record IsShared (meter : ℕ) (setting : Setting) (words : List ℕ) (views : List View) : Type 0 where
  pub log : List Mark
  pub legal : IsLegalLog meter setting log
  pub cell : IsCell setting log words
  pub knows : (seat : ℕ) (v : View) → get_elem? views seat ≡ some v → 0 < v.parts → v.known ≡ Some (meter, full setting)
  pub stands : (seat : ℕ) (v : View) → get_elem? views seat ≡ some v → All (StandsIn log) v.marks
  pub total : sum_by (λ v. length v.marks) views ≡ length log
  pub once : (turn : ℕ) → turn < length log → sum_by (λ v. made_at turn v.marks) views ≡ 1

-- the rule, over the words and what every seat knows
pub record IsKept (words : List ℕ) (views : List View) : Type 0 where
  -- there are 48 parts
  pub parts : sum_by (λ v. v.parts) views ≡ 48
  -- a seat's marks are at most 2^56 times its parts, so the count of marks doesn't wrap
  pub limit : (seat : ℕ) (v : View) → get_elem? views seat ≡ some v → length v.marks ≤ 2 ^ 56 * v.parts
  -- the meter isn't set yet, or the cell is shared
  pub shared : (views ≡ blank ∷ []) ⊎ ((meter : ℕ) × (setting : Setting) × IsShared meter setting words views)

-- all parts of the cell of a meter that was just set
abbrev pub set_view : ℕ → Setting → View
set_view meter setting = record { parts = 48; known = Some (meter, full setting); marks = [] }

-- the words say what the meter is set to, and the view knows it
abbrev pub Settles : View → List ℕ → List ℕ → View → Type 0
Settles v before after w = w ≡ record v { known = Some (slice_index after 1, full (setting_in after)) }

-- what a view learns from the words: they are those of a legal log, in which its marks stand; where it has all parts, there are no others
pub record IsSeen (meter : ℕ) (setting : Setting) (v : View) (words : List ℕ) : Type 0 where
  pub log : List Mark
  pub legal : IsLegalLog meter setting log
  pub cell : IsCell setting log words
  pub few : length log < 2 ^ 63
  pub stands : All (StandsIn log) v.marks
  pub once : v.parts ≡ 48 → (turn : ℕ) → turn < length log → made_at turn v.marks ≡ 1

-- a look at the words
pub record Looks (v : View) (before after : List ℕ) (w : View) : Type 0 where
  pub view : w ≡ v
  pub seen : (meter : ℕ) (setting : Setting) → Knows meter setting v → IsSeen meter setting v after

-- the number of the meter that a view knows
abbrev pub meter_of : View → ℕ
meter_of v = option_map_or (λ known. known.0) v.known 0

-- a view with one more mark
abbrev pub with_mark : View → Mark → View
with_mark v mark = record v { marks = v.marks ++ mark ∷ [] }

-- where the count of marks changed, the mark in the words is the view's next, and its turn is above all its earlier ones
pub record Marks (v : View) (before after : List ℕ) (w : View) : Type 0 where
  pub view : w ≡ (if slice_index after 0 == slice_index before 0 then v else with_mark v (mark_in (meter_of v) after))
  pub turn : All (λ mark. mark.turn < slice_index before 0) v.marks

-- what a view keeps where a new seat takes one of its parts, and what that seat has
abbrev pub one_part_less : View → View
one_part_less v = record v { parts = v.parts - 1 }

abbrev pub one_part : View → View
one_part v = record { parts = 1; known = v.known; marks = [] }

-- two views as one: the parts of both and the marks of both
abbrev pub both_views : View → View → View
both_views v w = record { parts = v.parts + w.parts; known = v.known; marks = v.marks ++ w.marks }
