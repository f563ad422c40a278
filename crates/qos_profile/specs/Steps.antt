-- What one more line does to the sections before it. The program goes line by line; that this agrees with the sections of all
-- lines is proved.
use Rattle.std.specs.Prelude.{◌≡◌, ℕ, List, [], ◌∷◌, ◌++◌, map, None, Some, Result, Ok, Err}
use Rattle.std.specs.Str.Lines.{lines}
use Rattle.profile_lines.specs.Lines.{Line, NotText, Blank, Head as HeadLine, Entry, Neither, line_of}
use Rattle.qos_profile.specs.declared.fault.ProfileError.{ProfileError}
use Rattle.qos_profile.specs.declared.fault.ProfileError.TheVariants as errors
use Rattle.qos_profile.specs.declared.reading.Stop.{Stop}
use Rattle.qos_profile.specs.declared.reading.Stop.TheVariants as stops
use Rattle.qos_profile.specs.declared.section.Section.{Section}
use Rattle.qos_profile.specs.Heads.{head_of}
use Rattle.qos_profile.specs.Sections.{fact_of_line, section_with, head_or_red, fault_at, first_fault, sections_of}

-- the lines of a text
abbrev pub lines_of : List ℕ → List Line
lines_of text = map line_of (lines text)

-- a section with what one more line gives
abbrev pub with_fact : ℕ → Line → Section → Section
with_fact n line s = record { line = s.line; head = s.head; facts = s.facts ++ fact_of_line s.head n line }

-- the last section has one more line
abbrev pub add_to_last : ℕ → Line → List Section → List Section
add_to_last n line [] = []
add_to_last n line (s ∷ []) = with_fact n line s ∷ []
add_to_last n line (s ∷ t ∷ more) = s ∷ add_to_last n line (t ∷ more)

-- the sections after one more line
abbrev pub with_line : List Section → ℕ → Line → List Section
with_line sections n (HeadLine words) = sections ++ section_with n [] (head_or_red (head_of words)) ∷ []
with_line sections n NotText = sections
with_line sections n Blank = sections
with_line sections n (Entry words value) = add_to_last n (Entry words value) sections
with_line sections n Neither = sections

-- what taking one line ensures
abbrev pub Takes : {X : Type 0} → List Section → List Section → ℕ → Line → Result X Stop → Type 0
Takes old new n line (Ok x) = (fault_at old n line ≡ None) × (new ≡ with_line old n line)
Takes old new n line (Err (stops.Fault kind)) = fault_at old n line ≡ Some kind
Takes old new n line (Err stops.NoMemory) = Unit {0}

-- the sections of the lines, or their first fault, or want of memory
abbrev pub ReadsSections : List Line → Result (List Section) ProfileError → Type 0
ReadsSections lines (Ok sections) = (first_fault [] lines ≡ None) × (sections ≡ sections_of 1 lines)
ReadsSections lines (Err (errors.Fault fault)) = (first_fault [] lines ≡ Some (fault.line, fault.kind)) × (fault.total ≡ 0)
ReadsSections lines (Err errors.NoMemory) = Unit {0}

-- the error of a line that was not taken
abbrev pub error_of : ℕ → Stop → ProfileError
error_of n (stops.Fault kind) = errors.Fault (record { line = n; kind = kind; total = 0 })
error_of n stops.NoMemory = errors.NoMemory
