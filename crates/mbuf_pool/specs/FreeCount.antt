-- The count of a pool's free slots: what its passes know, and the rule that every step of every pass keeps.
--
-- Why a pass may believe it: each lowering takes one from the word and each raising adds one, in the very step in which
-- the pass's own number goes up by one; so the word with all lowerings is the first slots with all raisings, at every
-- moment. A pass that finds the word at 0 knows at that moment that as many lowerings have been made as there were slots
-- and raisings, and lowerings are never taken back. Who has joined all passes has all 48 parts, and knows every number.
use Rattle.std.specs.Prelude.{◌≡◌, ℕ, ◌+◌, ◌-◌, ◌*◌, ◌^◌, ◌≤◌, ◌==◌, ◌||◌, Bool, true, false, if◌then◌else◌, List, [], ◌∷◌, ◌++◌, length, slice_index}
use Rattle.std.specs.List.{sum_by}
use mathlib.Core.Option.{some}
use lib.ListN.{get_elem?}
use Rattle.atomic_table.specs.Table.{State, Me, Step}
use Rattle.mbuf_pool.specs.declared.pass.Count.{Count}

-- what a pass knows: its parts, its lowerings and raisings, whether it has met 0, and its answers
abbrev pub count_of_pass : ℕ → ℕ → ℕ → Bool → List Bool → Count
count_of_pass parts lowered raised met_zero answers = record { parts = parts; lowered = lowered; raised = raised; met_zero = met_zero; answers = answers }

-- a pass with these parts that has done nothing
abbrev pub new_count : ℕ → Count
new_count parts = count_of_pass parts 0 0 false []

-- the rule, over the word and what every pass knows; the key is the number of slots
pub record IsFreeCount (slots : ℕ) (s : State ℕ Count) : Type 0 where
  -- there is one word
  pub one_word : length s.words ≡ 1
  -- the word with all lowerings is the slots with all raisings
  pub balance : slice_index s.words 0 + sum_by (λ v. v.lowered) s.views ≡ slots + sum_by (λ v. v.raised) s.views
  -- where any pass has met 0, all passes together have lowered at least as often as there are slots
  pub met_zero : (pass : ℕ) (v : Count) → get_elem? s.views pass ≡ some v → v.met_zero ≡ true → slots ≤ sum_by (λ u. u.lowered) s.views
  -- a pass's raisings are at most 2^56 times its parts, so no raising wraps
  pub limit : (pass : ℕ) (v : Count) → get_elem? s.views pass ≡ some v → v.raised ≤ 2 ^ 56 * v.parts
  -- there are 48 parts, and a pass without parts has no numbers, no mark and no answers
  pub parts : sum_by (λ v. v.parts) s.views ≡ 48
  pub idle : (pass : ℕ) (v : Count) → get_elem? s.views pass ≡ some v → v.parts ≡ 0 → v ≡ new_count 0

-- a pass that is turned away: it has met 0, and its answer is that no slot was given
abbrev pub turned_away : Count → Count
turned_away v = count_of_pass v.parts v.lowered v.raised true (v.answers ++ false ∷ [])

-- a pass that has lowered the count: its answer is that a slot was given
abbrev pub lowered_once : Count → Count
lowered_once v = count_of_pass v.parts (v.lowered + 1) v.raised v.met_zero (v.answers ++ true ∷ [])

-- a pass that has raised the count
abbrev pub raised_once : Count → Count
raised_once v = count_of_pass v.parts v.lowered (v.raised + 1) v.met_zero v.answers

-- a load: where it finds 0 the pass is turned away, and else it tells nothing
abbrev pub Looks : Step ℕ → Me ℕ Count → ℕ → Me ℕ Count → Type 0
Looks step before found after = after ≡ ((if found == 0 then turned_away before.0 else before.0), before.1)

-- a compare and exchange: where it finds what was expected the count is lowered, and else it tells nothing
abbrev pub Lowers : Step ℕ → Me ℕ Count → ℕ → Me ℕ Count → Type 0
Lowers step before found after = after ≡ ((if found == step.first then lowered_once before.0 else before.0), before.1)

-- an addition of one
abbrev pub Raises : Step ℕ → Me ℕ Count → ℕ → Me ℕ Count → Type 0
Raises step before found after = after ≡ (raised_once before.0, before.1)

-- what a pass keeps where a new pass takes one of its parts
abbrev pub one_count_less : Count → Count
one_count_less v = count_of_pass (v.parts - 1) v.lowered v.raised v.met_zero v.answers

-- two passes as one: the parts and the numbers of both, the mark if either has it, and the second's answers behind the first's
abbrev pub both_counts : Count → Count → Count
both_counts v w = count_of_pass (v.parts + w.parts) (v.lowered + w.lowered) (v.raised + w.raised) (v.met_zero || w.met_zero) (v.answers ++ w.answers)
