-- The first fault of a text, in this order: the text's length, the lines, what is missing, what is named and not
-- there, ranges across keys, and what is too large.
use Rattle.std.specs.Prelude.{◌≡◌, ℕ, nat_lt, if◌then◌else◌, List, [], length, Option, None, Some, Result, Ok, Err}
use Rattle.profile_lines.specs.Lines.{Line}
use Rattle.qos_profile.specs.declared.fault.FaultKind.{FaultKind}
use Rattle.qos_profile.specs.declared.fault.FaultKind.TheVariants.{Missing, NoSuchName, OutOfRange, TooLarge}
use Rattle.qos_profile.specs.declared.fault.ProfileFault.{ProfileFault}
use Rattle.qos_profile.specs.declared.fault.ProfileError.{ProfileError}
use Rattle.qos_profile.specs.declared.fault.ProfileError.TheVariants as errors
use Rattle.qos_profile.specs.declared.section.Section.{Section}
use Rattle.qos_profile.specs.Sections.{first_fault, sections_of}
use Rattle.qos_profile.specs.Steps.{lines_of}
use Rattle.qos_profile.specs.Missing.{missing_line}
use Rattle.qos_profile.specs.Naming.{unnamed_line}
use Rattle.qos_profile.specs.Across.{across_line}
use Rattle.qos_profile.specs.Large.{too_large}

-- a fault at a line
abbrev pub at_line : FaultKind → ℕ → ProfileFault
at_line kind line = record { line = line; kind = kind; total = 0 }

-- a total that is too large
abbrev pub with_total : ℕ → ProfileFault
with_total total = record { line = 0; kind = TooLarge; total = total }

-- the first that there is
abbrev pub first_of : Option ℕ → Option ℕ → Option ℕ → Option ℕ → Option ProfileFault
first_of (Some line) unnamed across large = Some (at_line Missing line)
first_of None (Some line) across large = Some (at_line NoSuchName line)
first_of None None (Some line) large = Some (at_line OutOfRange line)
first_of None None None (Some total) = Some (with_total total)
first_of None None None None = None

-- the first fault of the sections as a whole
abbrev pub fault_of_sections : List Section → Option ProfileFault
fault_of_sections sections = first_of (missing_line sections) (unnamed_line sections) (across_line sections) (too_large sections)

-- the first fault of a line, or else of the sections
abbrev pub or_of_sections : Option (ℕ × FaultKind) → List Section → Option ProfileFault
or_of_sections (Some found) sections = Some (at_line found.1 found.0)
or_of_sections None sections = fault_of_sections sections

-- the first fault of a text, if it has any
unfoldable pub fault_of_text : List ℕ → Option ProfileFault
fault_of_text text =
    if nat_lt 1048576 (length text)
    then Some (with_total (length text))
    else or_of_sections (first_fault [] (lines_of text)) (sections_of 1 (lines_of text))

-- sections of lines that have no fault
abbrev pub AreClear : List Section → Type 0
AreClear sections = (lines : List Line) × (first_fault [] lines ≡ None) × (sections ≡ sections_of 1 lines)

-- the answer is this fault, or Ok where there is none; want of memory is free
abbrev pub Answers : {X : Type 0} → Result X ProfileError → Option ProfileFault → Type 0
Answers (Ok x) fault = fault ≡ None
Answers (Err (errors.Fault f)) fault = fault ≡ Some f
Answers (Err errors.NoMemory) fault = Unit {0}
