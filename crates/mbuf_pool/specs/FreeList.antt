-- The free list of a pool: what its passes know, and the rule that every step of every pass keeps.
--
-- Why a pass may believe it: the free slots and what all passes know are one picture, and the rule is a fact about that
-- picture. A pass's own part of the picture is changed by that pass's steps alone. To give a slot adds it at once to the
-- free ones and to the given ones of that pass, and to take one moves it from the free ones to the taken ones; so the
-- rule is true again after each step, whatever the other threads have done before, and no slot is lost or doubled on the
-- way. Every pass that is split off takes parts along, of which there are 48 in all. Who has joined all passes has all
-- parts, and with them all that was ever taken and given.
use Rattle.std.specs.Prelude.{◌≡◌, ℕ, ◌+◌, ◌-◌, ◌<◌, List, [], ◌∷◌, ◌++◌, length}
use Rattle.std.specs.List.{sum_by, All, range_with_len}
use mathlib.Core.Option.{some}
use lib.ListN.{get_elem?}
use Rattle.mbuf_pool.specs.declared.mbuf.Mbuf.{Mbuf}
use Rattle.mbuf_pool.specs.declared.pass.Slots.{Slots}

-- what a pass knows: its parts, how many slots of how many bytes there are, and what it took and gave
abbrev pub slots_of_pass : ℕ → ℕ → ℕ → List ℕ → List ℕ → Slots
slots_of_pass parts slots bytes taken given = record { parts = parts; slots = slots; bytes = bytes; taken = taken; given = given }

-- the first pass of an empty pool
abbrev pub new_slots : Slots
new_slots = slots_of_pass 48 0 0 [] []

-- the slots of the lists, each weighed by h; two collections that weigh the same however they are weighed are the same bag
abbrev pub weigh : (ℕ → ℕ) → List ℕ → ℕ
weigh h slots = sum_by h slots

-- the first slots: the numbers below n
abbrev pub first_slots : ℕ → List ℕ
first_slots n = range_with_len 0 n

-- a slot of a pool of so many slots of so many bytes, in its whole length
abbrev pub IsSlot : ℕ → ℕ → Mbuf → Type 0
IsSlot slots bytes m = (m.slot < slots) × (length m.bytes.items ≡ bytes)

-- the rule, over the free slots and what every pass knows
pub record IsFreeList (free : List Mbuf) (views : List Slots) : Type 0 where
  pub slots : ℕ
  pub bytes : ℕ
  -- as bags: the free slots with all slots ever taken are the first slots with all slots ever given
  pub bags : (h : ℕ → ℕ) → sum_by (λ m. h m.slot) free + sum_by (λ v. weigh h v.taken) views ≡ weigh h (first_slots slots) + sum_by (λ v. weigh h v.given) views
  -- each free slot is one of the pool's, in its whole length
  pub whole : All (IsSlot slots bytes) free
  -- each pass with a part knows how many slots of how many bytes there are
  pub known : (pass : ℕ) (v : Slots) → get_elem? views pass ≡ some v → 0 < v.parts → (v.slots ≡ slots) × (v.bytes ≡ bytes)
  -- a pass without parts has taken and given nothing
  pub idle : (pass : ℕ) (v : Slots) → get_elem? views pass ≡ some v → v.parts ≡ 0 → (v.taken ≡ []) × (v.given ≡ [])
  -- there are 48 parts
  pub parts : sum_by (λ v. v.parts) views ≡ 48

-- a slot is made by the first pass, when the pool is made: it is one more of the first slots
abbrev pub Makes : Slots → Mbuf → Slots → Type 0
Makes v m w = w ≡ slots_of_pass v.parts (v.slots + 1) (length m.bytes.items) v.taken v.given

-- a slot is taken: it is the pool's, and the next of what this pass took
abbrev pub Takes : Slots → Mbuf → Slots → Type 0
Takes v m w = (w ≡ slots_of_pass v.parts v.slots v.bytes (v.taken ++ m.slot ∷ []) v.given) × IsSlot v.slots v.bytes m

-- a slot is given: it is the next of what this pass gave
abbrev pub Gives : Slots → Mbuf → Slots → Type 0
Gives v m w = w ≡ slots_of_pass v.parts v.slots v.bytes v.taken (v.given ++ m.slot ∷ [])

-- what a pass with all parts knows of the free slots
abbrev pub Free : Slots → List Mbuf → Type 0
Free v free = (h : ℕ → ℕ) → sum_by (λ m. h m.slot) free + weigh h v.taken ≡ weigh h (first_slots v.slots) + weigh h v.given

-- what a pass keeps where a new pass takes one of its parts, and what the new pass knows
abbrev pub one_part_less : Slots → Slots
one_part_less v = slots_of_pass (v.parts - 1) v.slots v.bytes v.taken v.given

abbrev pub one_part : Slots → Slots
one_part v = slots_of_pass 1 v.slots v.bytes [] []

-- two passes as one: the parts of both, and what both took and gave
abbrev pub both_slots : Slots → Slots → Slots
both_slots v w = slots_of_pass (v.parts + w.parts) v.slots v.bytes (v.taken ++ w.taken) (v.given ++ w.given)

-- a pass without parts
abbrev pub no_slots : Slots
no_slots = slots_of_pass 0 0 0 [] []
