-- The slots that facts give, as a map from their group and first slot to their last slot.
use Rattle.std.specs.Prelude.{◌≡◌, ◌==◌, ◌<◌, ◌≤◌, ℕ, Bool, true, false, ◌&&◌, List, Some}
use Rattle.std.specs.declared.cmp.Ordering.{Ordering}
use Rattle.std.specs.Ordering.{nat_cmp, ordering_then}
use Rattle.std.specs.List.{list_any}
use Rattle.std.specs.BTreeMap.{BTreeMap, get}
use Rattle.qos_profile.specs.declared.fact.Fact.{Fact}
use Rattle.qos_profile.specs.Facts.{overlaps}
use Rattle.qos_profile.specs.Kept.{EachFact}

-- by group, then by slot
abbrev pub by_slot : ℕ × ℕ → ℕ × ℕ → Ordering
by_slot a b = ordering_then (nat_cmp a.0 b.0) (nat_cmp a.1 b.1)

abbrev pub Slots : Type 0
Slots = BTreeMap (ℕ × ℕ) ℕ

-- a fact gives these slots
abbrev pub gives_slots : ℕ → ℕ → ℕ → Fact → Bool
gives_slots group first last fact = fact.group == group && fact.first == first && fact.last == last

-- the map has these slots
abbrev pub HasSlots : Slots → ℕ → ℕ → ℕ → Type 0
HasSlots taken group first last = get by_slot taken (group, first) ≡ Some last

-- the map has the slots of these facts, and no others; no slot is given twice
pub record AreTaken (taken : Slots) (facts : List Fact) : Type 0 where
  pub each : EachFact (λ f. HasSlots taken f.group f.first f.last) facts
  pub only : (group first last : ℕ) → HasSlots taken group first last → list_any (gives_slots group first last) facts ≡ true
  pub ends : (group first last : ℕ) → HasSlots taken group first last → first ≤ last
  pub apart : (group a b c d : ℕ) → HasSlots taken group a b → HasSlots taken group c d → a < c → b < c

-- a fact's slots are in order, and none of these facts gives one of them
abbrev pub IsFree : List Fact → Fact → Type 0
IsFree facts fact = (fact.first ≤ fact.last) × (list_any (overlaps fact) facts ≡ false)
