-- Every fact of a section gives the value of one of its keys, within that key's range.
use Rattle.std.specs.Prelude.{◌≡◌, ◌==◌, ℕ, ◌≤◌, Bool, false, not, ◌&&◌, ◌||◌, List, [], ◌∷◌, None, Ok}
use Rattle.std.specs.List.{list_all}
use Rattle.qos_profile.specs.declared.value.Value.{Value}
use Rattle.qos_profile.specs.declared.value.Value.TheVariants as values
use Rattle.qos_profile.specs.declared.fact.Fact.{Fact}
use Rattle.qos_profile.specs.declared.head.Head.{Head}
use Rattle.qos_profile.specs.declared.section.Section.{Section}
use Rattle.qos_profile.specs.Table.{Form, Key}
use Rattle.qos_profile.specs.Table as table
use Rattle.qos_profile.specs.Facts.{keys_of, given}

-- a line gives the fact in a section of this head
abbrev pub IsGiven : Head → Fact → Type 0
IsGiven head fact = (n : ℕ) × (words : List (List ℕ)) × (value : List (List ℕ)) × (given (keys_of head) None n words value ≡ Ok fact)

-- of each fact
abbrev pub EachFact : (Fact → Type 0) → List Fact → Type 0
EachFact P [] = Unit {0}
EachFact P (fact ∷ facts) = P fact × EachFact P facts

-- of each section, its facts are given by lines of it
abbrev pub AreGiven : List Section → Type 0
AreGiven [] = Unit {0}
AreGiven (s ∷ sections) = EachFact (IsGiven s.head) s.facts × AreGiven sections

-- the form of a number in this range
abbrev pub is_number_form : ℕ → ℕ → Form → Bool
is_number_form least most (table.Number l m) = l == least && m == most
is_number_form least most _ = false

-- among these keys those of a group are numbers in this range
abbrev pub is_number_group : ℕ → ℕ → ℕ → List Key → Bool
is_number_group group least most keys = list_all (λ key. not (key.group == group) || is_number_form least most key.form) keys

-- a number in this range
abbrev pub IsNumberIn : ℕ → ℕ → Value → Type 0
IsNumberIn least most value = (n : ℕ) × (value ≡ values.Number n) × (least ≤ n) × (n ≤ most)
