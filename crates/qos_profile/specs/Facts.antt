-- What a key line gives in its section, or its fault.
use Rattle.std.specs.Prelude.{◌==◌, ℕ, Bool, true, not, ◌&&◌, nat_le, if◌then◌else◌, codes, List, [], ◌∷◌, length, find, Option, None, Some, Result, Ok, Err}
use Rattle.std.specs.List.{list_any, position_or_len}
use Rattle.profile_lines.specs.Numbers.{range_of}
use Rattle.qos_profile.specs.declared.fault.FaultKind.{FaultKind}
use Rattle.qos_profile.specs.declared.fault.FaultKind.TheVariants.{BadLine, UnknownKey, BadNumber, OutOfRange, Twice}
use Rattle.qos_profile.specs.declared.value.Value.{Value}
use Rattle.qos_profile.specs.declared.value.Value.TheVariants as values
use Rattle.qos_profile.specs.declared.head.Head.{Head}
use Rattle.qos_profile.specs.declared.head.Head.TheVariants as heads
use Rattle.qos_profile.specs.declared.table.Place.{Place}
use Rattle.qos_profile.specs.declared.table.Place.TheVariants.{Nothing, Range, One}
use Rattle.qos_profile.specs.declared.table.Only.{Only}
use Rattle.qos_profile.specs.declared.table.Only.TheVariants as only
use Rattle.qos_profile.specs.declared.fact.Fact.{Fact}
use Rattle.qos_profile.specs.Table.{Key, pool_keys, port_keys, subport_kind_keys, pipe_kind_keys, subport_keys, code_keys, meter_keys, rule_keys}
use Rattle.qos_profile.specs.Values.{value_of, word_at}
use Rattle.qos_profile.specs.Heads.{fits, number_at_most}

-- the keys of a section
abbrev pub keys_of : Head → List Key
keys_of heads.Pool = pool_keys
keys_of (heads.Port n) = port_keys
keys_of (heads.SubportKind n) = subport_kind_keys
keys_of (heads.PipeKind n) = pipe_kind_keys
keys_of (heads.Subport p s) = subport_keys
keys_of heads.Codes = code_keys
keys_of (heads.Meter name) = meter_keys
keys_of (heads.Rule n) = rule_keys
keys_of heads.Red = []

-- the word that stands at a pattern's empty word, or nothing
abbrev pub word_in_place : List (List ℕ) → List (List ℕ) → List ℕ
word_in_place pattern words = word_at words (position_or_len (λ p. length p == 0) pattern)

-- a range whose ends are in order and within a limit
abbrev pub range_in : ℕ → Option (ℕ × ℕ) → Result (ℕ × ℕ) FaultKind
range_in most (Some range) = if nat_le range.0 range.1 && nat_le range.1 most then Ok range else Err OutOfRange
range_in most None = Err BadNumber

-- a number as a range
abbrev pub twice_that : Result ℕ FaultKind → Result (ℕ × ℕ) FaultKind
twice_that (Ok n) = Ok (n, n)
twice_that (Err fault) = Err fault

-- the slots that a key gives: its own, or those that its number or range names
abbrev pub slots_of : Place → ℕ × ℕ → List ℕ → Result (ℕ × ℕ) FaultKind
slots_of Nothing own word = Ok own
slots_of (Range most) own word = range_in most (range_of word)
slots_of (One most) own word = twice_that (number_at_most most word)

-- the form or kind that a line tells
abbrev pub told_by : Only → Value → Option ℕ
told_by only.All value = None
told_by (only.In mode) value = Some mode
told_by (only.NotIn mode) value = None
told_by only.Told (values.Word n) = Some n
told_by only.Told _ = None

-- a key is listed in a section of this form or kind
abbrev pub is_listed : Only → Option ℕ → Bool
is_listed which None = true
is_listed only.All (Some mode) = true
is_listed (only.In m) (Some mode) = m == mode
is_listed (only.NotIn m) (Some mode) = not (m == mode)
is_listed only.Told (Some mode) = true

-- the fault of the slots, unless the value is no number; of two faults no number goes first
abbrev pub worse : FaultKind → Result Value FaultKind → FaultKind
worse BadNumber value = BadNumber
worse fault (Err BadNumber) = BadNumber
worse fault value = fault

-- a line's fact from its slots and its value
abbrev pub fact_with : ℕ → Key → Result (ℕ × ℕ) FaultKind → Result Value FaultKind → Result Fact FaultKind
fact_with line key (Ok slots) (Ok value) =
    Ok (record { line = line; group = key.group; first = slots.0; last = slots.1; told = told_by key.only value; value = value })
fact_with line key (Ok slots) (Err fault) = Err fault
fact_with line key (Err fault) value = Err (worse fault value)

-- what a key line gives by itself
abbrev pub given_by : ℕ → List (List ℕ) → List (List ℕ) → Key → Result Fact FaultKind
given_by line words value key =
    fact_with line key (slots_of key.place (key.first, key.last) (word_in_place key.words words)) (value_of key.form value)

-- what a line gives by the key that its words fit, if that key is listed in this form or kind
abbrev pub given_in : Option ℕ → ℕ → List (List ℕ) → List (List ℕ) → Option Key → Result Fact FaultKind
given_in mode line words value (Some key) = if is_listed key.only mode then given_by line words value key else Err UnknownKey
given_in mode line words value None = Err UnknownKey

-- what a key line gives in a section of these keys and this form or kind
unfoldable pub given : List Key → Option ℕ → ℕ → List (List ℕ) → List (List ℕ) → Result Fact FaultKind
given keys mode line words value = given_in mode line words value (find (λ key. fits key.words words) keys)

-- the form or kind of a section: what the first of its lines that tells says
abbrev pub mode_of : List Fact → Option ℕ
mode_of [] = None
mode_of (fact ∷ facts) = or_else fact.told (mode_of facts)
  where
    or_else : Option ℕ → Option ℕ → Option ℕ
    or_else (Some m) other = Some m
    or_else None other = other

-- two facts give a slot in common
abbrev pub overlaps : Fact → Fact → Bool
overlaps a b = a.group == b.group && nat_le a.first b.last && nat_le b.first a.last

-- a fact that gives no slot which an earlier one gives
abbrev pub unless_twice : List Fact → Result Fact FaultKind → Result Fact FaultKind
unless_twice earlier (Ok fact) = if list_any (overlaps fact) earlier then Err Twice else Ok fact
unless_twice earlier (Err fault) = Err fault

-- a meter's first key is `kind`
abbrev pub begins_well : Head → List Fact → List (List ℕ) → Bool
begins_well (heads.Meter name) [] words = fits (codes "kind" ∷ []) words
begins_well _ _ words = true

-- what a key line gives in a section with these facts before it, or its fault
unfoldable pub fact_in : Head → List Fact → ℕ → List (List ℕ) → List (List ℕ) → Result Fact FaultKind
fact_in head earlier line words value =
    if begins_well head earlier words
    then unless_twice earlier (given (keys_of head) (mode_of earlier) line words value)
    else Err BadLine
