-- The heads of lines without a fault are all different.
use Rattle.std.proofs.Common.{◌≡◌, ℕ, ◌+◌, Bool, true, false, cond, not, ◌&&◌, ◌||◌, List, [], ◌∷◌, ◌++◌, length, map, Option, Some}
use Rattle.std.proofs.Common.{None, Result, Ok, Err, refl, sym, ap, ◌∙◌}
use Rattle.std.specs.List.{list_all, list_any}
use Rattle.std.proofs.lemmas.Bool.{and_parts, and_from, or_parts}
use Rattle.std.proofs.lemmas.List.{append-nil, append_assoc, map-append}
use Rattle.std.proofs.lemmas.List.Folds.{list_all-append}
use Rattle.profile_lines.specs.Lines.{Line, NotText, Blank, Head as HeadLine, Entry, Neither}
use Rattle.qos_profile.specs.declared.fault.FaultKind.{FaultKind}
use Rattle.qos_profile.specs.declared.fault.FaultKind.TheVariants as faults
use Rattle.qos_profile.specs.declared.head.Head.{Head}
use Rattle.qos_profile.specs.declared.section.Section.{Section}
use Rattle.qos_profile.specs.Heads.{head_of}
use Rattle.qos_profile.specs.Sections.{same_head, head_or_red, fault_of_head, fault_at, first_fault, or_later, sections_of, section_with}
use Rattle.qos_profile.specs.Steps.{add_to_last, with_line}
use Rattle.qos_profile.proofs.Growing.{sections_of-snoc}
use Rattle.qos_profile.proofs.Blocks.{each_pair, differs}

-- the heads of sections without a fault are all different
abbrev pub are_apart : List Section → Bool
are_apart ss = each_pair differs (map (λ s. s.head) ss)

pair-snoc : (hs : List Head) (h : Head) → each_pair differs hs ≡ true → list_any (λ g. same_head g h) hs ≡ false →
    each_pair differs (hs ++ h ∷ []) ≡ true
pair-snoc [] h a b = refl
pair-snoc (g ∷ gs) h a b =
    let as' = and_parts (list_all (differs g) gs) (each_pair differs gs) a in
    let bs = or_parts (same_head g h) (list_any (λ x. same_head x h) gs) b in
    let last = and_from (differs g h) true (ap not bs.0) refl in
    let first = list_all-append (differs g) gs (h ∷ []) ∙ and_from (list_all (differs g) gs) (differs g h && true) as'.0 last in
    and_from (list_all (differs g) (gs ++ h ∷ [])) (each_pair differs (gs ++ h ∷ [])) first (pair-snoc gs h as'.1 bs.1)

any-heads : (h : Head) (ss : List Section) → list_any (λ s. same_head s.head h) ss ≡ list_any (λ g. same_head g h) (map (λ s. s.head) ss)
any-heads h [] = refl
any-heads h (s ∷ ss) = ap (λ t. same_head s.head h || t) (any-heads h ss)

same-heads : (n : ℕ) (line : Line) (ss : List Section) → map (λ s. s.head) (add_to_last n line ss) ≡ map (λ s. s.head) ss
same-heads n line [] = refl
same-heads n line (s ∷ []) = refl
same-heads n line (s ∷ t ∷ more) = ap (λ hs. s.head ∷ hs) (same-heads n line (t ∷ more))

-- one more line
apart-step : (ss : List Section) (k n : ℕ) (line : Line) → fault_at ss n line ≡ None → are_apart ss ≡ true →
    are_apart (with_line ss k line) ≡ true
apart-step ss k n NotText e h = absurd (cc)
apart-step ss k n Blank e h = h
apart-step ss k n Neither e h = h
apart-step ss k n (Entry a b) e h = ap (each_pair differs) (same-heads k (Entry a b) ss) ∙ h
apart-step ss k n (HeadLine w) e h = by (head_of w) e
  where
    once : (head : Head) (t : Bool) → list_any (λ s. same_head s.head head) ss ≡ t → cond t (Some faults.Twice) None ≡ None →
        list_any (λ s. same_head s.head head) ss ≡ false
    once head true f g = absurd (cc)
    once head false f g = f

    by : (r : Result Head FaultKind) → fault_of_head ss r ≡ None → are_apart (ss ++ section_with k [] (head_or_red r) ∷ []) ≡ true
    by (Err f) g = absurd (cc)
    by (Ok head) g =
        ap (each_pair differs) (map-append (λ (s : Section). s.head) ss (section_with k [] head ∷ []))
        ∙ pair-snoc (map (λ s. s.head) ss) head h (sym (any-heads head ss) ∙ once head (list_any (λ s. same_head s.head head) ss) refl g)

-- lines after some lines whose sections are apart
abbrev GoApart : List Line → List Line → Type 0
GoApart before ls = first_fault before ls ≡ None → are_apart (sections_of 1 before) ≡ true → are_apart (sections_of 1 (before ++ ls)) ≡ true

apart-lines : (before ls : List Line) → GoApart before ls
unfolding first_fault
apart-lines before [] e h = ap (λ xs. are_apart (sections_of 1 xs)) (append-nil before) ∙ h
apart-lines before (l ∷ ls) e h =
    by (fault_at (sections_of 1 before) (length before + 1) l) refl e (apart-lines (before ++ l ∷ []) ls)
  where
    by : (o : Option FaultKind) → fault_at (sections_of 1 before) (length before + 1) l ≡ o →
        or_later (length before + 1) o (first_fault (before ++ l ∷ []) ls) ≡ None → GoApart (before ++ l ∷ []) ls →
        are_apart (sections_of 1 (before ++ l ∷ ls)) ≡ true
    by (Some f) g i later = absurd (cc)
    by None g i later =
        let step = apart-step (sections_of 1 before) (1 + length before) (length before + 1) l g h in
        ap (λ xs. are_apart (sections_of 1 xs)) (sym (append_assoc before (l ∷ []) ls))
        ∙ later i (ap are_apart (sections_of-snoc 1 before l) ∙ step)

pub sections-apart : (lines : List Line) → first_fault [] lines ≡ None → are_apart (sections_of 1 lines) ≡ true
unfolding sections_of
sections-apart lines clear = apart-lines [] lines clear refl
