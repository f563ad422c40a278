-- The value of a key: that of the one line that gives it.
use Rattle.std.specs.Prelude.{◌==◌, ℕ, Bool, ◌&&◌, nat_le, List, [], find, Option, None, Some}
use Rattle.std.specs.List.{list_any, list_all, range_with_len}
use Rattle.std.specs.Option.{option_map}
use Rattle.qos_profile.specs.declared.value.Value.{Value}
use Rattle.qos_profile.specs.declared.value.Value.TheVariants as values
use Rattle.qos_profile.specs.declared.fact.Fact.{Fact}
use Rattle.qos_profile.specs.declared.head.Head.{Head}
use Rattle.qos_profile.specs.declared.section.Section.{Section}
use Rattle.qos_profile.specs.Sections.{same_head}

-- a fact gives this slot of this group
abbrev pub covers : ℕ → ℕ → Fact → Bool
covers group slot fact = fact.group == group && nat_le fact.first slot && nat_le slot fact.last

-- the value of a slot, if a line gives it
abbrev pub value_at : List Fact → ℕ → ℕ → Option Value
value_at facts group slot = option_map (λ fact. fact.value) (find (covers group slot) facts)

-- a line gives the slot
abbrev pub has : List Fact → ℕ → ℕ → Bool
has facts group slot = list_any (covers group slot) facts

-- lines give so many slots from the first on
abbrev pub has_all : List Fact → ℕ → ℕ → ℕ → Bool
has_all facts group first count = list_all (has facts group) (range_with_len first count)

-- a value that is a number, or another
abbrev pub number_or : ℕ → Option Value → ℕ
number_or other (Some (values.Number n)) = n
number_or other _ = other

-- the number of a slot, or another
abbrev pub number_at : List Fact → ℕ → ℕ → ℕ → ℕ
number_at facts group slot other = number_or other (value_at facts group slot)

-- a section of this head is there
abbrev pub is_there : List Section → Head → Bool
is_there sections head = list_any (λ s. same_head s.head head) sections

-- the facts of a section, if there is one
abbrev pub facts_or_none : Option Section → List Fact
facts_or_none (Some s) = s.facts
facts_or_none None = []

-- the facts of the section of this head, if there is one
abbrev pub facts_at : List Section → Head → List Fact
facts_at sections head = facts_or_none (find (λ s. same_head s.head head) sections)
