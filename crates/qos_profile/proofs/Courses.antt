-- Where a reading has come to in a text.
use Rattle.std.proofs.Common.{◌≡◌, ℕ, ◌+◌, ◌<◌, ◌≤◌, List, [], ◌∷◌, ◌++◌, length, map, Option, None, Some, Err, refl, sym, ap, subst, ◌∙◌, arith}
use Rattle.std.specs.Str.Lines.{lines}
use Rattle.std.proofs.lemmas.List.{append-nil, append_assoc, length_push, length-append}
use Rattle.profile_lines.specs.Lines.{Line, line_of, NotText, Blank, Head as HeadLine, Entry, Neither}
use Rattle.qos_profile.specs.declared.fault.FaultKind.{FaultKind}
use Rattle.qos_profile.specs.declared.reading.Stop.{Stop}
use Rattle.qos_profile.specs.declared.reading.Stop.TheVariants as stops
use Rattle.qos_profile.specs.declared.section.Section.{Section}
use Rattle.qos_profile.specs.Sections.{sections_of, section_at, fault_at, first_fault, or_later}
use Rattle.qos_profile.specs.Steps.{lines_of, with_line, Takes, ReadsSections, error_of}
use Rattle.qos_profile.proofs.Growing.{sections_of-snoc}

-- these lines were read, those of the rest are left, and no line so far has a fault
pub record IsAt (before : List Line) (text rest : List ℕ) (number : ℕ) (sections : List Section) : Type 0 where
  pub count : length before ≡ number
  pub left : before ++ lines_of rest ≡ lines_of text
  pub faults : first_fault before (lines_of rest) ≡ first_fault [] (lines_of text)
  pub sections_so_far : sections ≡ sections_of 1 before
  pub room : number + length rest ≤ length text

pub at-start : (text : List ℕ) → IsAt [] text text 0 []
unfolding sections_of
at-start text = record { count = refl; left = refl; faults = refl; sections_so_far = refl; room = omega arith }

-- the first fault where the next line has this one, or none
next-fault : (before : List Line) (line : Line) (more : List Line) (sections : List Section) (fault : Option FaultKind) → sections ≡ sections_of 1 before → fault_at sections (length before + 1) line ≡ fault → first_fault before (line ∷ more) ≡ or_later (length before + 1) fault (first_fault (before ++ line ∷ []) more)
unfolding first_fault
next-fault before line more sections fault is h =
    ap (λ f. or_later (length before + 1) f (first_fault (before ++ line ∷ []) more)) (ap (λ s. fault_at s (length before + 1) line) (sym is) ∙ h)

-- a line without a fault is taken
pub at-next : (before : List Line) (text rest line after : List ℕ) (number : ℕ) (old new : List Section) → IsAt before text rest number old → lines rest ≡ line ∷ lines after → length after < length rest → fault_at old (number + 1) (line_of line) ≡ None → new ≡ with_line old (number + 1) (line_of line) → IsAt (before ++ line_of line ∷ []) text after (number + 1) new
at-next before text rest line after number old new at split shorter clear grown =
    let here : lines_of rest ≡ line_of line ∷ lines_of after = ap (map line_of) split in
    let fault : fault_at old (length before + 1) (line_of line) ≡ None = subst (λ k. fault_at old (k + 1) (line_of line) ≡ None) (sym at.count) clear in
    record {
      count = omega (arith, length_push before (line_of line), at.count);
      left = append_assoc before (line_of line ∷ []) (lines_of after) ∙ ap (λ ls. before ++ ls) (sym here) ∙ at.left;
      faults = sym (next-fault before (line_of line) (lines_of after) old None at.sections_so_far fault) ∙ ap (first_fault before) (sym here) ∙ at.faults;
      sections_so_far =
          grown ∙ ap (λ s. with_line s (number + 1) (line_of line)) at.sections_so_far
          ∙ ap (λ k. with_line (sections_of 1 before) k (line_of line)) (let e : number + 1 ≡ 1 + length before = omega (arith, at.count) in e)
          ∙ sym (sections_of-snoc 1 before (line_of line));
      room = omega (arith, at.room);
    }

-- a line with a fault is the first
pub at-fault : (before : List Line) (text rest line after : List ℕ) (number : ℕ) (old : List Section) (kind : FaultKind) → IsAt before text rest number old → lines rest ≡ line ∷ lines after → fault_at old (number + 1) (line_of line) ≡ Some kind → first_fault [] (lines_of text) ≡ Some (number + 1, kind)
at-fault before text rest line after number old kind at split h =
    let here : lines_of rest ≡ line_of line ∷ lines_of after = ap (map line_of) split in
    let fault : fault_at old (length before + 1) (line_of line) ≡ Some kind = subst (λ k. fault_at old (k + 1) (line_of line) ≡ Some kind) (sym at.count) h in
    sym at.faults ∙ ap (first_fault before) here ∙ next-fault before (line_of line) (lines_of after) old (Some kind) at.sections_so_far fault
    ∙ ap (λ k. Some (k + 1, kind)) at.count

-- at the end all lines were read
pub at-end : (before : List Line) (text rest : List ℕ) (number : ℕ) (sections : List Section) → IsAt before text rest number sections → length rest ≡ 0 → (first_fault [] (lines_of text) ≡ None) × (sections ≡ sections_of 1 (lines_of text))
unfolding first_fault
at-end before text [] number sections at e =
    let all : before ≡ lines_of text = sym (append-nil before) ∙ at.left in
    (sym at.faults, at.sections_so_far ∙ ap (sections_of 1) all)
at-end before text (b ∷ bs) number sections at e = absurd (omega arith)

-- a line that was not taken
pub at-stop : (before : List Line) (text rest line after : List ℕ) (number : ℕ) (old new : List Section) (stop : Stop) → IsAt before text rest number old → lines rest ≡ line ∷ lines after → Takes {X = Unit {0}} old new (number + 1) (line_of line) (Err stop) → ReadsSections (lines_of text) (Err (error_of (number + 1) stop))
at-stop before text rest line after number old new (stops.Fault kind) at split h =
    (at-fault before text rest line after number old kind at split h, refl)
at-stop before text rest line after number old new stops.NoMemory at split h = tt

-- there are no more sections than lines
few-sections : (n : ℕ) (ls : List Line) → length (sections_of n ls) ≤ length ls
unfolding sections_of
few-sections n [] = omega arith
few-sections n (x ∷ xs) =
    omega (arith, length-append (section_at n x xs) (sections_of (n + 1) xs), few-sections (n + 1) xs, one x)
  where
    one : (y : Line) → length (section_at n y xs) ≤ 1
    one (HeadLine w) = omega arith
    one NotText = omega arith
    one Blank = omega arith
    one (Entry a b) = omega arith
    one Neither = omega arith

pub at-few : (before : List Line) (text rest : List ℕ) (number : ℕ) (sections : List Section) → IsAt before text rest number sections → length sections ≤ length text
at-few before text rest number sections at =
    omega (arith, few-sections 1 before, at.count, at.room, ap length at.sections_so_far)
