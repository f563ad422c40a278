-- The heads of sections, as a set, so that no line has to look through all sections.
use Rattle.std.specs.Prelude.{◌≡◌, ℕ, Bool, true, false, ◌||◌, List, ◌∷◌, [], ◌++◌, Result, Ok, Err}
use Rattle.qos_base.specs.declared.memory.NoMemory.{NoMemory}
use Rattle.std.specs.List.{list_any}
use Rattle.std.specs.HashSet.{HashSet}
use Rattle.std.specs.declared.hash.FoldHasher.{FoldHasher}
use Rattle.std.specs.declared.hash.BuildHasherDefault.{BuildHasherDefault}
use Rattle.qos_profile.specs.declared.head.Head.{Head}
use Rattle.qos_profile.specs.declared.section.Section.{Section}
use Rattle.qos_profile.specs.Sections.{same_head, is_red}
use Rattle.qos_profile.specs.Lookups.{is_there}

-- a head is in the set where a section of it is there; sections that are skipped are left out
abbrev pub Knows : HashSet Head (BuildHasherDefault FoldHasher) → List Section → Type 0
Knows heads sections = (h : Head) → is_red h ≡ false → list_any (same_head h) heads.keys ≡ is_there sections h

abbrev pub Heads : Type 0
Heads = HashSet Head (BuildHasherDefault FoldHasher)

-- a head is put into the set, unless it is there; a section that is skipped is never there
abbrev pub Notes : Heads → Heads → Head → Result Bool NoMemory → Type 0
Notes old new head (Ok true) =
    (is_red head ≡ false → list_any (same_head head) old.keys ≡ false) × ((h : Head) → is_red h ≡ false → list_any (same_head h) new.keys ≡ (same_head head h || list_any (same_head h) old.keys))
Notes old new head (Ok false) = (is_red head ≡ false) × (list_any (same_head head) old.keys ≡ true) × (new.keys ≡ old.keys)
Notes old new head (Err error) = new.keys ≡ old.keys

-- a section that has no facts yet
abbrev pub begun : ℕ → Head → Section
begun line head = record { line = line; head = head; facts = [] }

-- a section is added, unless one of its head is there
abbrev pub Begins : List Section → List Section → Section → Result Bool NoMemory → Type 0
Begins old new s (Ok true) = (is_there old s.head ≡ false) × (new ≡ old ++ s ∷ [])
Begins old new s (Ok false) = is_there old s.head ≡ true
Begins old new s (Err error) = Unit {0}
