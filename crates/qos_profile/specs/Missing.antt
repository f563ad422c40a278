-- What is missing: a required key, class or pipe of a section, or a section.
use Rattle.std.specs.Prelude.{◌==◌, ℕ, ◌+◌, Bool, true, false, not, ◌&&◌, ◌||◌, if◌then◌else◌, List, find, Option, None, Some, min}
use Rattle.std.specs.List.{list_all, range_with_len}
use Rattle.std.specs.Option.{option_map}
use Rattle.qos_profile.specs.declared.fact.Fact.{Fact}
use Rattle.qos_profile.specs.declared.head.Head.{Head}
use Rattle.qos_profile.specs.declared.head.Head.TheVariants as heads
use Rattle.qos_profile.specs.declared.section.Section.{Section}
use Rattle.qos_profile.specs.Facts.{mode_of}
use Rattle.qos_profile.specs.Lookups.{has, has_all, number_at, is_there}

-- a section is in rate form where its lines tell so
abbrev pub is_rate : Option ℕ → Bool
is_rate (Some mode) = mode == 1
is_rate None = false

-- a shaping has its bucket, its thirteen classes and its period
abbrev pub has_shaping : List Fact → Bool
has_shaping facts =
    has facts 0 0 && (is_rate (mode_of facts) || has facts 1 0) && has facts 2 0 && has_all facts 3 0 13 && has facts 4 0

-- a meter other than srtcm has a second rate
abbrev pub has_other_rate : Option ℕ → List Fact → Bool
has_other_rate (Some mode) facts = mode == 0 || (has facts 3 0 && has facts 3 2)
has_other_rate None facts = true

-- a meter has its kind, its rates and its sizes
abbrev pub has_meter : List Fact → Bool
has_meter facts =
    has facts 0 0 && has facts 2 0 && has facts 2 2 && has_other_rate (mode_of facts) facts && has facts 4 0 && has facts 5 0

-- a subport has its profile, its pipes, its sizes, and a line for each pipe
abbrev pub has_subport : List Fact → Bool
has_subport facts = has facts 0 0 && has facts 1 0 && has facts 2 0 && has_all facts 3 0 (number_at facts 1 0 0)

-- a rule has its port, its subport, its pipe and its code
abbrev pub has_rule : List Fact → Bool
has_rule facts = has facts 5 0 && has facts 6 0 && has facts 7 0 && has facts 8 0

-- a section has all that it owes
abbrev pub is_complete : Head → List Fact → Bool
is_complete heads.Pool facts = true
is_complete (heads.Port n) facts = has facts 0 0 && has facts 1 0
is_complete (heads.SubportKind n) facts = has_shaping facts
is_complete (heads.PipeKind n) facts = has_shaping facts
is_complete (heads.Subport p k) facts = has_subport facts
is_complete heads.Codes facts = true
is_complete (heads.Meter name) facts = has_meter facts
is_complete (heads.Rule n) facts = has_rule facts
is_complete heads.Red facts = true

-- one more than the number of a port, which is at most 15
abbrev pub ports_to : Head → ℕ
ports_to (heads.Port n) = min n 15 + 1
ports_to _ = 0

-- a port's subports are there
abbrev pub has_subports : List Section → Head → List Fact → Bool
has_subports sections (heads.Port n) facts =
    list_all (λ k. is_there sections (heads.Subport n k)) (range_with_len 0 (number_at facts 1 0 0))
has_subports sections _ facts = true

-- the ports up to one are there
abbrev pub has_ports : List Section → ℕ → Bool
has_ports sections count = list_all (λ n. is_there sections (heads.Port n)) (range_with_len 0 count)

-- every section that has to be there is: port 0, the ports below one that is there, and the subports of each
abbrev pub has_sections : List Section → Bool
has_sections sections =
    has_ports sections 1 && list_all (λ s. has_ports sections (ports_to s.head)) sections && list_all (λ s. has_subports sections s.head s.facts) sections

-- the line at which something is missing: 0 for a section, else the first section without all that it owes
unfoldable pub missing_line : List Section → Option ℕ
missing_line sections =
    if has_sections sections
    then option_map (λ s. s.line) (find (λ s. not (is_complete s.head s.facts)) sections)
    else Some 0
