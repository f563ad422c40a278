-- The sections of a text and the first fault of a line. A line is judged with the lines before it; a section has the lines up
-- to the next head.
use Rattle.std.specs.Prelude.{◌==◌, ℕ, ◌+◌, ◌-◌, Bool, true, false, ◌&&◌, if◌then◌else◌, List, [], ◌∷◌, ◌++◌, length, slice_get, Option, None, Some, Result, Ok, Err}
use Rattle.std.specs.List.{list_any, take_while}
use Rattle.std.specs.Str.{bytes_eq}
use Rattle.profile_lines.specs.Lines.{Line, NotText, Blank, Head as HeadLine, Entry, Neither}
use Rattle.qos_profile.specs.declared.fault.FaultKind.{FaultKind}
use Rattle.qos_profile.specs.declared.fault.FaultKind.TheVariants.{BadLine, Twice}
use Rattle.qos_profile.specs.declared.fault.FaultKind.TheVariants as faults
use Rattle.qos_profile.specs.declared.head.Head.{Head}
use Rattle.qos_profile.specs.declared.head.Head.TheVariants as heads
use Rattle.qos_profile.specs.declared.fact.Fact.{Fact}
use Rattle.qos_profile.specs.declared.section.Section.{Section}
use Rattle.qos_profile.specs.Heads.{head_of}
use Rattle.qos_profile.specs.Facts.{keys_of, given, fact_in}

-- a line that begins no section
abbrev pub is_no_head : Line → Bool
is_no_head (HeadLine words) = false
is_no_head NotText = true
is_no_head Blank = true
is_no_head (Entry words value) = true
is_no_head Neither = true

-- a fact, or none
abbrev pub or_none : Result Fact FaultKind → List Fact
or_none (Ok fact) = fact ∷ []
or_none (Err fault) = []

-- the fact that one line gives in a section
abbrev pub fact_of_line : Head → ℕ → Line → List Fact
fact_of_line head n (Entry words value) = or_none (given (keys_of head) None n words value)
fact_of_line head n NotText = []
fact_of_line head n Blank = []
fact_of_line head n (HeadLine words) = []
fact_of_line head n Neither = []

-- the facts that lines give, which are numbered from n on
abbrev pub facts_of : Head → ℕ → List Line → List Fact
facts_of head n [] = []
facts_of head n (line ∷ lines) = fact_of_line head n line ++ facts_of head (n + 1) lines

-- a head that is not listed has no keys
abbrev pub head_or_red : Result Head FaultKind → Head
head_or_red (Ok head) = head
head_or_red (Err fault) = heads.Red

-- a section has the lines up to the next head
abbrev pub section_with : ℕ → List Line → Head → Section
section_with n lines head = record { line = n; head = head; facts = facts_of head (n + 1) (take_while is_no_head lines) }

-- the section that a line begins
abbrev pub section_at : ℕ → Line → List Line → List Section
section_at n (HeadLine words) lines = section_with n lines (head_or_red (head_of words)) ∷ []
section_at n NotText lines = []
section_at n Blank lines = []
section_at n (Entry words value) lines = []
section_at n Neither lines = []

-- the sections of lines, which are numbered from n on
unfoldable pub sections_of : ℕ → List Line → List Section
sections_of n [] = []
sections_of n (line ∷ lines) = section_at n line lines ++ sections_of (n + 1) lines

-- the last section of some
abbrev pub last_of : List Section → Option Section
last_of sections = slice_get sections (length sections - 1)

-- two heads are the same; each section `[red]` is its own
abbrev pub same_head : Head → Head → Bool
same_head heads.Pool heads.Pool = true
same_head (heads.Port n) (heads.Port m) = n == m
same_head (heads.SubportKind n) (heads.SubportKind m) = n == m
same_head (heads.PipeKind n) (heads.PipeKind m) = n == m
same_head (heads.Subport n k) (heads.Subport m l) = n == m && k == l
same_head heads.Codes heads.Codes = true
same_head (heads.Meter a) (heads.Meter b) = a.length == b.length && bytes_eq a.bytes b.bytes
same_head (heads.Rule n) (heads.Rule m) = n == m
same_head _ _ = false

-- the fault of a head after these sections: its own, or a section given twice
abbrev pub fault_of_head : List Section → Result Head FaultKind → Option FaultKind
fault_of_head sections (Ok head) = if list_any (λ s. same_head s.head head) sections then Some Twice else None
fault_of_head sections (Err fault) = Some fault

-- the fault of an answer, if it is one
abbrev pub fault_of : {X : Type 0} → Result X FaultKind → Option FaultKind
fault_of (Ok x) = None
fault_of (Err fault) = Some fault

-- a section that is skipped
abbrev pub is_red : Head → Bool
is_red heads.Red = true
is_red _ = false

-- the fault of a key line in the section before it
abbrev pub fault_in : ℕ → List (List ℕ) → List (List ℕ) → Option Section → Option FaultKind
fault_in n words value (Some s) = if is_red s.head then None else fault_of (fact_in s.head s.facts n words value)
fault_in n words value None = Some BadLine

-- a line that is neither, in the section before it
abbrev pub fault_of_neither : Option Section → Option FaultKind
fault_of_neither (Some s) = if is_red s.head then None else Some BadLine
fault_of_neither None = Some BadLine

-- the fault of a line with its number, after the sections of the lines before it
abbrev pub fault_at : List Section → ℕ → Line → Option FaultKind
fault_at before n NotText = Some faults.NotText
fault_at before n Blank = None
fault_at before n (HeadLine words) = fault_of_head before (head_of words)
fault_at before n (Entry words value) = fault_in n words value (last_of before)
fault_at before n Neither = fault_of_neither (last_of before)

-- a fault with its line, or another
abbrev pub or_later : ℕ → Option FaultKind → Option (ℕ × FaultKind) → Option (ℕ × FaultKind)
or_later n (Some fault) later = Some (n, fault)
or_later n None later = later

-- the first fault of lines after some lines before them, with its line
unfoldable pub first_fault : List Line → List Line → Option (ℕ × FaultKind)
first_fault before [] = None
first_fault before (line ∷ lines) =
    or_later (length before + 1) (fault_at (sections_of 1 before) (length before + 1) line) (first_fault (before ++ line ∷ []) lines)
