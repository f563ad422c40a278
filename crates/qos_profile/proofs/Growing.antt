-- The sections of some lines and of one line more.
use Rattle.std.proofs.Common.{◌≡◌, ℕ, zero, suc, ◌+◌, ◌-◌, Bool, true, false, cond, ◌&&◌, List, [], ◌∷◌, ◌++◌, length, find, Option, None, Some, Result, Ok, Err, refl, sym, ap, ◌∙◌, arith, slice_get, slice_set, ⊎_elim}
use Rattle.std.specs.List.{list_any, list_all, take_while}
use Rattle.std.proofs.lemmas.List.{append-nil, append_assoc}
use Rattle.std.proofs.lemmas.List.Folds.{list_all-append}
use Rattle.std.proofs.lemmas.Bool.{and_parts, and_from, cases_Bool}
use Rattle.std.proofs.lemmas.List.Sums.{take_while-cons}
use Rattle.profile_lines.specs.Lines.{Line, NotText, Blank, Head as HeadLine, Entry, Neither}
use Rattle.qos_profile.specs.declared.fault.FaultKind.{FaultKind}
use Rattle.qos_profile.specs.declared.fault.FaultKind.TheVariants as faults
use Rattle.qos_profile.specs.declared.head.Head.{Head}
use Rattle.qos_profile.specs.declared.head.Head.TheVariants as heads
use Rattle.qos_profile.specs.declared.fact.Fact.{Fact}
use Rattle.qos_profile.specs.declared.section.Section.{Section}
use Rattle.qos_profile.specs.Table.{Key}
use Rattle.qos_profile.specs.Heads.{head_of, fits}
use Rattle.qos_profile.specs.Facts.{keys_of, given, given_in, given_by, mode_of, is_listed, unless_twice, overlaps, begins_well, fact_in}
use Rattle.qos_profile.specs.Sections.{is_no_head, or_none, fault_in, fault_of, last_of, fact_of_line, facts_of, section_with, section_at, sections_of, head_or_red, is_red}
use Rattle.qos_profile.specs.Pushes.{and_fact}
use Rattle.qos_profile.specs.Steps.{with_fact, add_to_last, with_line}

same-some : {X : Type 0} (a b : X) → Some a ≡ Some b → a ≡ b
same-some a b e = cc

-- the last place is written
pub add_to_last-set : (ss : List Section) (i : ℕ) (s : Section) (n : ℕ) (line : Line) → i + 1 ≡ length ss → slice_get ss i ≡ Some s → add_to_last n line ss ≡ slice_set ss i (with_fact n line s)
add_to_last-set [] i s n line e h = absurd (omega arith)
add_to_last-set (x ∷ []) zero s n line e h = ap (λ y. with_fact n line y ∷ []) (same-some x s h)
add_to_last-set (x ∷ []) (suc i) s n line e h = absurd (omega arith)
add_to_last-set (x ∷ y ∷ more) zero s n line e h = absurd (omega arith)
add_to_last-set (x ∷ y ∷ more) (suc i) s n line e h =
    ap (λ ys. x ∷ ys) (add_to_last-set (y ∷ more) i s n line (omega arith) h)

-- a place written with what it has
pub set-same : (ss : List Section) (i : ℕ) (s : Section) → slice_get ss i ≡ Some s → slice_set ss i s ≡ ss
set-same [] i s h = refl
set-same (x ∷ xs) zero s h = ap (λ y. y ∷ xs) (sym (same-some x s h))
set-same (x ∷ xs) (suc i) s h = ap (λ ys. x ∷ ys) (set-same xs i s h)

-- what is there has a place before the end
pub last-place : (ss : List Section) (s : Section) → slice_get ss (length ss - 1) ≡ Some s → (length ss - 1) + 1 ≡ length ss
last-place [] s h = absurd (cc)
last-place (x ∷ xs) s h = omega arith

-- no keys, no fact
given-none : (n : ℕ) (words value : List (List ℕ)) → given [] None n words value ≡ Err faults.UnknownKey
unfolding given
given-none n words value = refl

pub red-gives : (head : Head) (n : ℕ) (words value : List (List ℕ)) → is_red head ≡ true → fact_of_line head n (Entry words value) ≡ []
red-gives heads.Red n words value h = ap or_none (given-none n words value)
red-gives heads.Pool n words value h = absurd (cc)
red-gives (heads.Port a) n words value h = absurd (cc)
red-gives (heads.SubportKind a) n words value h = absurd (cc)
red-gives (heads.PipeKind a) n words value h = absurd (cc)
red-gives (heads.Subport a b) n words value h = absurd (cc)
red-gives heads.Codes n words value h = absurd (cc)
red-gives (heads.Meter a) n words value h = absurd (cc)
red-gives (heads.Rule a) n words value h = absurd (cc)

pub red-stays : (ss : List Section) (s : Section) (n : ℕ) (words value : List (List ℕ)) → slice_get ss (length ss - 1) ≡ Some s → is_red s.head ≡ true → ss ≡ add_to_last n (Entry words value) ss
red-stays ss s n words value h red =
    let same : with_fact n (Entry words value) s ≡ s = ap (λ fs. record { line = s.line; head = s.head; facts = fs }) (ap (λ gs. s.facts ++ gs) (red-gives s.head n words value red) ∙ append-nil s.facts) in
    sym (add_to_last-set ss (length ss - 1) s n (Entry words value) (last-place ss s h) h ∙ ap (λ x. slice_set ss (length ss - 1) x) same ∙ set-same ss (length ss - 1) s h)

-- a listed key gives the same whatever was told
given_in-given : (mode : Option ℕ) (n : ℕ) (words value : List (List ℕ)) (key : Option Key) (fact : Fact) → given_in mode n words value key ≡ Ok fact → given_in None n words value key ≡ Ok fact
given_in-given mode n words value None fact h = absurd (cc)
given_in-given mode n words value (Some key) fact h =
    elim (is_listed key.only mode) as (λ t. cond t (given_by n words value key) (Err faults.UnknownKey) ≡ Ok fact → given_in None n words value (Some key) ≡ Ok fact) [
      | true ↦ λ e. listed key.only ∙ e
      | false ↦ λ e. absurd (cc)
    ] h
  where
    listed : (o : _) → cond (is_listed o None) (given_by n words value key) (Err faults.UnknownKey) ≡ given_by n words value key
    listed o = refl

twice-case : (t : Bool) (f fact : Fact) → cond {A = Result Fact FaultKind} t (Err faults.Twice) (Ok f) ≡ Ok fact → f ≡ fact
twice-case true f fact h = absurd (cc)
twice-case false f fact h = cc

unless_twice-given : (earlier : List Fact) (r : Result Fact FaultKind) (fact : Fact) → unless_twice earlier r ≡ Ok fact → r ≡ Ok fact
unless_twice-given earlier (Ok f) fact h = ap Ok (twice-case (list_any (overlaps f) earlier) f fact h)
unless_twice-given earlier (Err f) fact h = h

-- the fact that a line gives after others is the one that it gives by itself
pub fact_in-given : (head : Head) (earlier : List Fact) (n : ℕ) (words value : List (List ℕ)) (fact : Fact) → fact_in head earlier n words value ≡ Ok fact → fact_of_line head n (Entry words value) ≡ fact ∷ []
unfolding fact_in given
fact_in-given head earlier n words value fact h =
    elim (begins_well head earlier words) as (λ t. cond t (unless_twice earlier (given (keys_of head) (mode_of earlier) n words value)) (Err faults.BadLine) ≡ Ok fact → fact_of_line head n (Entry words value) ≡ fact ∷ []) [
      | true ↦ λ e. ap or_none (given_in-given (mode_of earlier) n words value (find (λ key. fits key.words words) (keys_of head)) fact (unless_twice-given earlier (given (keys_of head) (mode_of earlier) n words value) fact e))
      | false ↦ λ e. absurd (cc)
    ] h

-- one more fact in the last section
pub pushed : (old new : List Section) (s : Section) (n : ℕ) (words value : List (List ℕ)) (fact : Fact) → slice_get old (length old - 1) ≡ Some s → fact_in s.head s.facts n words value ≡ Ok fact → new ≡ slice_set old (length old - 1) (and_fact s fact) → new ≡ add_to_last n (Entry words value) old
pushed old new s n words value fact h given_fact e =
    let same : and_fact s fact ≡ with_fact n (Entry words value) s = ap (λ fs. record { line = s.line; head = s.head; facts = s.facts ++ fs }) (sym (fact_in-given s.head s.facts n words value fact given_fact)) in
    e ∙ ap (λ x. slice_set old (length old - 1) x) same ∙ sym (add_to_last-set old (length old - 1) s n (Entry words value) (last-place old s h) h)

-- a key line's fault, by the last section
pub no-fault : (old : List Section) (s : Section) (n : ℕ) (words value : List (List ℕ)) (fact : Fact) → slice_get old (length old - 1) ≡ Some s → is_red s.head ≡ false → fact_in s.head s.facts n words value ≡ Ok fact → fault_in n words value (last_of old) ≡ None
no-fault old s n words value fact h red given_fact =
    ap (fault_in n words value) h ∙ ap (λ t. cond t None (fault_of (fact_in s.head s.facts n words value))) red ∙ ap fault_of given_fact

pub red-fault : (old : List Section) (s : Section) (n : ℕ) (words value : List (List ℕ)) → slice_get old (length old - 1) ≡ Some s → is_red s.head ≡ true → fault_in n words value (last_of old) ≡ None
red-fault old s n words value h red =
    ap (fault_in n words value) h ∙ ap (λ t. cond t None (fault_of (fact_in s.head s.facts n words value))) red

-- facts of lines and one line more
facts_of-snoc : (head : Head) (n : ℕ) (ls : List Line) (l : Line) → facts_of head n (ls ++ l ∷ []) ≡ facts_of head n ls ++ fact_of_line head (n + length ls) l
facts_of-snoc head n [] l =
    append-nil (fact_of_line head n l) ∙ ap (λ k. fact_of_line head k l) (let e : n ≡ n + 0 = omega arith in e)
facts_of-snoc head n (x ∷ xs) l =
    ap (λ fs. fact_of_line head n x ++ fs) (facts_of-snoc head (n + 1) xs l)
    ∙ sym (append_assoc (fact_of_line head n x) (facts_of head (n + 1) xs) (fact_of_line head (n + 1 + length xs) l))
    ∙ ap (λ k. (fact_of_line head n x ++ facts_of head (n + 1) xs) ++ fact_of_line head k l) (let e : n + 1 + length xs ≡ n + length (x ∷ xs) = omega arith in e)

tw-step : (x : Line) (ys : List Line) → take_while is_no_head (x ∷ ys) ≡ cond (is_no_head x) (x ∷ take_while is_no_head ys) []
tw-step x ys = take_while-cons is_no_head x ys

-- where a head stands among lines, those up to it are not changed by a line at the end
stops : (xs : List Line) (l : Line) → list_all is_no_head xs ≡ false → take_while is_no_head (xs ++ l ∷ []) ≡ take_while is_no_head xs
stops [] l h = absurd (cc)
stops (x ∷ xs) l h =
    let middle : cond (is_no_head x) (x ∷ take_while is_no_head (xs ++ l ∷ [])) [] ≡ cond (is_no_head x) (x ∷ take_while is_no_head xs) [] =
    elim (is_no_head x) as (λ t. (t && list_all is_no_head xs) ≡ false → cond t (x ∷ take_while is_no_head (xs ++ l ∷ [])) [] ≡ cond t (x ∷ take_while is_no_head xs) []) [
      | true ↦ λ e. ap (λ ys. x ∷ ys) (stops xs l e)
      | false ↦ λ e. refl
    ] h in
    tw-step x (xs ++ l ∷ []) ∙ middle ∙ sym (tw-step x xs)

-- a head at the end stops them
stops-at-head : (xs : List Line) (w : List (List ℕ)) → take_while is_no_head (xs ++ HeadLine w ∷ []) ≡ take_while is_no_head xs
stops-at-head [] w = refl
stops-at-head (x ∷ xs) w =
    tw-step x (xs ++ HeadLine w ∷ []) ∙ ap (λ ys. cond (is_no_head x) (x ∷ ys) []) (stops-at-head xs w) ∙ sym (tw-step x xs)

-- without a head all lines are taken
all-taken : (xs : List Line) → list_all is_no_head xs ≡ true → take_while is_no_head xs ≡ xs
all-taken [] h = refl
all-taken (x ∷ xs) h =
    let parts = and_parts (is_no_head x) (list_all is_no_head xs) h in
    tw-step x xs ∙ ap (λ t. cond t (x ∷ take_while is_no_head xs) []) parts.0 ∙ ap (λ ys. x ∷ ys) (all-taken xs parts.1)

-- a line that is no head begins no section
begins-none : (n : ℕ) (l : Line) (ys : List Line) → is_no_head l ≡ true → section_at n l ys ≡ []
begins-none n NotText ys h = refl
begins-none n Blank ys h = refl
begins-none n (Entry a b) ys h = refl
begins-none n Neither ys h = refl
begins-none n (HeadLine w) ys h = absurd (cc)

no-sections : (n : ℕ) (xs : List Line) → list_all is_no_head xs ≡ true → sections_of n xs ≡ []
unfolding sections_of
no-sections n [] h = refl
no-sections n (x ∷ xs) h =
    let parts = and_parts (is_no_head x) (list_all is_no_head xs) h in
    ap (λ s. s ++ sections_of (n + 1) xs) (begins-none n x xs parts.0) ∙ no-sections (n + 1) xs parts.1

some-sections : (n : ℕ) (xs : List Line) → list_all is_no_head xs ≡ false → (t : Section) × (more : List Section) × (sections_of n xs ≡ t ∷ more)
unfolding sections_of
some-sections n [] h = absurd (cc)
some-sections n (HeadLine w ∷ xs) h = (section_with n xs (head_or_red (head_of w)), sections_of (n + 1) xs, refl)
some-sections n (NotText ∷ xs) h = some-sections (n + 1) xs h
some-sections n (Blank ∷ xs) h = some-sections (n + 1) xs h
some-sections n (Entry a b ∷ xs) h = some-sections (n + 1) xs h
some-sections n (Neither ∷ xs) h = some-sections (n + 1) xs h

-- a head at the end begins one more section
grow-head : (n : ℕ) (ls : List Line) (w : List (List ℕ)) → sections_of n (ls ++ HeadLine w ∷ []) ≡ sections_of n ls ++ section_with (n + length ls) [] (head_or_red (head_of w)) ∷ []
unfolding sections_of
grow-head n [] w = ap (λ k. section_with k [] (head_or_red (head_of w)) ∷ []) (let e : n ≡ n + 0 = omega arith in e)
grow-head n (x ∷ xs) w =
    ap (λ s. s ++ sections_of (n + 1) (xs ++ HeadLine w ∷ [])) (same x)
    ∙ ap (λ s. section_at n x xs ++ s) (grow-head (n + 1) xs w)
    ∙ sym (append_assoc (section_at n x xs) (sections_of (n + 1) xs) (section_with (n + 1 + length xs) [] (head_or_red (head_of w)) ∷ []))
    ∙ ap (λ k. (section_at n x xs ++ sections_of (n + 1) xs) ++ section_with k [] (head_or_red (head_of w)) ∷ []) (let e : n + 1 + length xs ≡ n + length (x ∷ xs) = omega arith in e)
  where
    same : (y : Line) → section_at n y (xs ++ HeadLine w ∷ []) ≡ section_at n y xs
    same NotText = refl
    same Blank = refl
    same (Entry a b) = refl
    same Neither = refl
    same (HeadLine v) =
        ap (λ ys. record { line = n; head = head_or_red (head_of v); facts = facts_of (head_or_red (head_of v)) (n + 1) ys } ∷ []) (stops-at-head xs w)

-- a section that no head ends has one more line
section-more : (n : ℕ) (head : Head) (xs : List Line) (l : Line) → list_all is_no_head xs ≡ true → is_no_head l ≡ true → section_with n (xs ++ l ∷ []) head ≡ with_fact (n + 1 + length xs) l (section_with n xs head)
section-more n head xs l h plain =
    let both : list_all is_no_head (xs ++ l ∷ []) ≡ true = list_all-append is_no_head xs (l ∷ []) ∙ and_from (list_all is_no_head xs) (is_no_head l && true) h (and_from (is_no_head l) true plain refl) in
    ap (λ ys. record { line = n; head = head; facts = facts_of head (n + 1) ys }) (all-taken (xs ++ l ∷ []) both)
    ∙ ap (λ fs. record { line = n; head = head; facts = fs }) (facts_of-snoc head (n + 1) xs l)
    ∙ ap (λ ys. record { line = n; head = head; facts = facts_of head (n + 1) ys ++ fact_of_line head (n + 1 + length xs) l }) (sym (all-taken xs h))

-- another line after a first line
grow-step : (n : ℕ) (x : Line) (xs : List Line) (l : Line) → is_no_head l ≡ true → sections_of (n + 1) (xs ++ l ∷ []) ≡ add_to_last (n + 1 + length xs) l (sections_of (n + 1) xs) → section_at n x (xs ++ l ∷ []) ++ sections_of (n + 1) (xs ++ l ∷ []) ≡ add_to_last (n + length (x ∷ xs)) l (section_at n x xs ++ sections_of (n + 1) xs)
grow-step n x xs l plain inside = by x
  where
    place : n + 1 + length xs ≡ n + length (x ∷ xs)
    place = omega arith

    later : sections_of (n + 1) (xs ++ l ∷ []) ≡ add_to_last (n + length (x ∷ xs)) l (sections_of (n + 1) xs)
    later = inside ∙ ap (λ k. add_to_last k l (sections_of (n + 1) xs)) place

    whole : list_all is_no_head xs ≡ true → (head : Head) → (section_with n (xs ++ l ∷ []) head ∷ []) ++ sections_of (n + 1) (xs ++ l ∷ []) ≡ add_to_last (n + length (x ∷ xs)) l ((section_with n xs head ∷ []) ++ sections_of (n + 1) xs)
    whole h head =
        let none : sections_of (n + 1) xs ≡ [] = no-sections (n + 1) xs h in
        ap (λ s. section_with n (xs ++ l ∷ []) head ∷ s) (later ∙ ap (add_to_last (n + length (x ∷ xs)) l) none)
        ∙ ap (λ s. s ∷ []) (section-more n head xs l h plain)
        ∙ ap (λ k. with_fact k l (section_with n xs head) ∷ []) place
        ∙ sym (ap (λ s. add_to_last (n + length (x ∷ xs)) l (section_with n xs head ∷ s)) none)

    cut : list_all is_no_head xs ≡ false → (head : Head) → (section_with n (xs ++ l ∷ []) head ∷ []) ++ sections_of (n + 1) (xs ++ l ∷ []) ≡ add_to_last (n + length (x ∷ xs)) l ((section_with n xs head ∷ []) ++ sections_of (n + 1) xs)
    cut h head =
        let some = some-sections (n + 1) xs h in
        ap (λ ys. record { line = n; head = head; facts = facts_of head (n + 1) ys } ∷ sections_of (n + 1) (xs ++ l ∷ [])) (stops xs l h)
        ∙ ap (λ s. section_with n xs head ∷ s) (later ∙ ap (add_to_last (n + length (x ∷ xs)) l) some.2)
        ∙ sym (ap (λ s. add_to_last (n + length (x ∷ xs)) l (section_with n xs head ∷ s)) some.2)

    by : (y : Line) → section_at n y (xs ++ l ∷ []) ++ sections_of (n + 1) (xs ++ l ∷ []) ≡ add_to_last (n + length (x ∷ xs)) l (section_at n y xs ++ sections_of (n + 1) xs)
    by NotText = later
    by Blank = later
    by (Entry a b) = later
    by Neither = later
    by (HeadLine w) = ⊎_elim (λ h. whole h (head_or_red (head_of w))) (λ h. cut h (head_or_red (head_of w))) (cases_Bool (list_all is_no_head xs))

-- another line at the end is one more line of the last section
grow-other : (n : ℕ) (ls : List Line) (l : Line) → is_no_head l ≡ true → sections_of n (ls ++ l ∷ []) ≡ add_to_last (n + length ls) l (sections_of n ls)
unfolding sections_of
grow-other n [] l plain = ap (λ s. s ++ []) (begins-none n l [] plain)
grow-other n (x ∷ xs) l plain = grow-step n x xs l plain (grow-other (n + 1) xs l plain)

-- a line that gives nothing changes nothing
adds-nothing : (k : ℕ) (l : Line) (ss : List Section) → ((head : Head) → fact_of_line head k l ≡ []) → add_to_last k l ss ≡ ss
adds-nothing k l [] h = refl
adds-nothing k l (s ∷ []) h =
    ap (λ fs. record { line = s.line; head = s.head; facts = s.facts ++ fs } ∷ []) (h s.head) ∙ ap (λ fs. record { line = s.line; head = s.head; facts = fs } ∷ []) (append-nil s.facts)
adds-nothing k l (s ∷ t ∷ more) h = ap (λ ss. s ∷ ss) (adds-nothing k l (t ∷ more) h)

-- the sections of some lines and of one line more
pub sections_of-snoc : (n : ℕ) (ls : List Line) (l : Line) → sections_of n (ls ++ l ∷ []) ≡ with_line (sections_of n ls) (n + length ls) l
sections_of-snoc n ls (HeadLine w) = grow-head n ls w
sections_of-snoc n ls (Entry a b) = grow-other n ls (Entry a b) refl
sections_of-snoc n ls NotText =
    grow-other n ls NotText refl ∙ adds-nothing (n + length ls) NotText (sections_of n ls) (λ head. refl)
sections_of-snoc n ls Blank =
    grow-other n ls Blank refl ∙ adds-nothing (n + length ls) Blank (sections_of n ls) (λ head. refl)
sections_of-snoc n ls Neither =
    grow-other n ls Neither refl ∙ adds-nothing (n + length ls) Neither (sections_of n ls) (λ head. refl)
