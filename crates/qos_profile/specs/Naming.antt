-- Names of profiles, ports, subports, pipes and meters that are not there.
use Rattle.std.specs.Prelude.{◌==◌, ℕ, Bool, true, not, ◌&&◌, ◌||◌, nat_lt, if◌then◌else◌, List, [], ◌∷◌, find, Option, None, Some}
use Rattle.std.specs.Option.{option_map}
use Rattle.qos_profile.specs.declared.value.Value.{Value}
use Rattle.qos_profile.specs.declared.value.Value.TheVariants as values
use Rattle.qos_profile.specs.declared.fact.Fact.{Fact}
use Rattle.qos_profile.specs.declared.head.Head.{Head}
use Rattle.qos_profile.specs.declared.head.Head.TheVariants as heads
use Rattle.qos_profile.specs.declared.section.Section.{Section}
use Rattle.qos_profile.specs.Lookups.{number_at, is_there, facts_at}

-- the subports of a port; 0 where it is not there
abbrev pub subports_of : List Section → ℕ → ℕ
subports_of sections port = number_at (facts_at sections (heads.Port port)) 1 0 0

-- the pipes of a subport; 0 where it is not there
abbrev pub pipes_of : List Section → ℕ → ℕ → ℕ
pipes_of sections port subport = number_at (facts_at sections (heads.Subport port subport)) 1 0 0

-- a subport is below those of its port
abbrev pub is_subport : List Section → ℕ → ℕ → Bool
is_subport sections port subport = nat_lt subport (subports_of sections port)

-- a subport's profile, and the pipes and pipe profile of its lines
abbrev pub names_in_subport : List Section → List Fact → Fact → Value → Bool
names_in_subport sections facts fact (values.Number n) =
    (not (fact.group == 0) || is_there sections (heads.SubportKind n))
    && (not (fact.group == 3) || (is_there sections (heads.PipeKind n) && nat_lt fact.last (number_at facts 1 0 0)))
names_in_subport sections facts fact _ = true

-- the port and the subport that a rule names
abbrev pub port_of_rule : List Fact → ℕ
port_of_rule facts = number_at facts 5 0 0

-- the subport that a rule names
abbrev pub subport_of_rule : List Fact → ℕ
subport_of_rule facts = number_at facts 6 0 0

-- a rule's port; its subport, where the port is there; its pipe, where the subport is there
abbrev pub number_in_rule : List Section → ℕ → ℕ → ℕ → ℕ → Bool
number_in_rule sections port subport group n =
    if group == 5 then is_there sections (heads.Port n)
    else (if group == 6 then not (is_there sections (heads.Port port)) || is_subport sections port n
    else (if group == 7 then not (is_subport sections port subport) || nat_lt n (pipes_of sections port subport)
    else true))

-- the same, and its meter
abbrev pub names_in_rule : List Section → List Fact → Fact → Value → Bool
names_in_rule sections facts fact (values.Number n) =
    number_in_rule sections (port_of_rule facts) (subport_of_rule facts) fact.group n
names_in_rule sections facts fact (values.Name name) = is_there sections (heads.Meter name)
names_in_rule sections facts fact _ = true

-- what a line names is there
abbrev pub names_of_fact : List Section → Head → List Fact → Fact → Bool
names_of_fact sections (heads.Subport p k) facts fact = names_in_subport sections facts fact fact.value
names_of_fact sections (heads.Rule n) facts fact = names_in_rule sections facts fact fact.value
names_of_fact sections _ facts fact = true

-- what a head names is there: a subport section is one of a port
abbrev pub names_of_head : List Section → Head → Bool
names_of_head sections (heads.Subport p k) = is_subport sections p k
names_of_head sections _ = true

-- the first line of a section at which a name is not there
abbrev pub unnamed_in : List Section → Section → Option ℕ
unnamed_in sections s =
    if names_of_head sections s.head
    then option_map (λ fact. fact.line) (find (λ fact. not (names_of_fact sections s.head s.facts fact)) s.facts)
    else Some s.line

-- a line, or the next
abbrev pub or_next : Option ℕ → Option ℕ → Option ℕ
or_next (Some line) next = Some line
or_next None next = next

-- the first line of some sections at which a name is not there among all
abbrev pub unnamed_among : List Section → List Section → Option ℕ
unnamed_among all [] = None
unnamed_among all (s ∷ sections) = or_next (unnamed_in all s) (unnamed_among all sections)

-- the first line at which a name is not there
unfoldable pub unnamed_line : List Section → Option ℕ
unnamed_line sections = unnamed_among sections sections
