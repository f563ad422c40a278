-- A fact is added to the last section.
use Rattle.std.specs.Prelude.{◌≡◌, ◌-◌, List, [], ◌∷◌, ◌++◌, length, slice_set, slice_get, Some}
use Rattle.qos_profile.specs.declared.fact.Fact.{Fact}
use Rattle.qos_profile.specs.declared.section.Section.{Section}

-- a section with one more fact
abbrev pub and_fact : Section → Fact → Section
and_fact s fact = record { line = s.line; head = s.head; facts = s.facts ++ fact ∷ [] }

-- the last section has one more fact, and nothing else changed
abbrev pub PushesFact : List Section → List Section → Fact → Type 0
PushesFact old new fact = (s : Section) → slice_get old (length old - 1) ≡ Some s → new ≡ slice_set old (length old - 1) (and_fact s fact)
