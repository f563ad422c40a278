-- In sections without a fault of a line, all lines of a shaping tell one form.
use Rattle.std.proofs.Common.{◌≡◌, ◌==◌, ℕ, suc, ◌+◌, ◌-◌, Bool, true, false, cond, not, ◌&&◌, ◌||◌, List, [], ◌∷◌, ◌++◌, length, find, Option, None, Some, Result, Ok, Err, refl, sym, ap, subst, ◌∙◌, arith, slice_get}
use Rattle.std.specs.List.{list_any, list_all}
use Rattle.std.specs.Option.{option_or}
use Rattle.std.proofs.lemmas.List.{append-nil, append_assoc}
use Rattle.std.proofs.lemmas.List.Folds.{list_all-append}
use Rattle.std.proofs.lemmas.Bool.{and_parts, and_from, eq-eqb}
use Rattle.profile_lines.specs.Lines.{Line, NotText, Blank, Head as HeadLine, Entry, Neither}
use Rattle.qos_profile.specs.declared.fault.FaultKind.{FaultKind}
use Rattle.qos_profile.specs.declared.fault.FaultKind.TheVariants as faults
use Rattle.qos_profile.specs.declared.value.Value.{Value}
use Rattle.qos_profile.specs.declared.table.Only.{Only}
use Rattle.qos_profile.specs.declared.table.Only.TheVariants as only
use Rattle.qos_profile.specs.declared.head.Head.{Head}
use Rattle.qos_profile.specs.declared.head.Head.TheVariants as heads
use Rattle.qos_profile.specs.declared.fact.Fact.{Fact}
use Rattle.qos_profile.specs.declared.section.Section.{Section}
use Rattle.qos_profile.specs.Table.{Key, subport_kind_keys, pipe_kind_keys}
use Rattle.qos_profile.specs.Heads.{head_of, fits}
use Rattle.qos_profile.specs.Facts.{keys_of, given, given_in, given_by, slots_of, word_in_place, mode_of, is_listed, told_by, unless_twice, overlaps, begins_well, fact_in}
use Rattle.qos_profile.specs.Values.{value_of}
use Rattle.qos_profile.specs.Sections.{fault_in, fault_of, last_of, section_with, sections_of, head_or_red, is_red, fault_at, first_fault, or_later}
use Rattle.qos_profile.specs.Steps.{with_fact, add_to_last, with_line}
use Rattle.qos_profile.proofs.Growing.{sections_of-snoc, fact_in-given, red-gives}
use Rattle.qos_profile.proofs.Keeping.{found-passes, made}

-- a fact tells the form of its section, or none
abbrev pub agrees : Option ℕ → Option ℕ → Bool
agrees None mode = true
agrees (Some a) None = false
agrees (Some a) (Some b) = a == b

abbrev pub agree : List Fact → Bool
agree facts = list_all (λ fact. agrees fact.told (mode_of facts)) facts

abbrev pub is_shaping : Head → Bool
is_shaping (heads.SubportKind n) = true
is_shaping (heads.PipeKind n) = true
is_shaping _ = false

abbrev pub section_agrees : Section → Bool
section_agrees s = not (is_shaping s.head) || agree s.facts

-- the key's own word tells no form
abbrev tells_itself : Only → Bool
tells_itself only.Told = true
tells_itself _ = false

-- the form of facts and one more
pub or_else : Option ℕ → Option ℕ → Option ℕ
or_else (Some m) other = Some m
or_else None other = other

mode_of-cons : (f : Fact) (fs : List Fact) → mode_of (f ∷ fs) ≡ or_else f.told (mode_of fs)
unfolding or_else
mode_of-cons f fs = by f.told
  where
    by : (o : Option ℕ) → mode_of ((record f { told = o }) ∷ fs) ≡ or_else o (mode_of fs)
    by None = refl
    by (Some m) = refl

mode_of-push : (fs : List Fact) (f : Fact) → mode_of (fs ++ f ∷ []) ≡ or_else (mode_of fs) f.told
unfolding or_else
mode_of-push [] f = mode_of-cons f [] ∙ by f.told
  where
    by : (o : Option ℕ) → or_else o None ≡ o
    by None = refl
    by (Some m) = refl
mode_of-push (x ∷ xs) f =
    mode_of-cons x (xs ++ f ∷ []) ∙ ap (or_else x.told) (mode_of-push xs f) ∙ by x.told ∙ ap (λ o. or_else o f.told) (sym (mode_of-cons x xs))
  where
    by : (o : Option ℕ) → or_else o (or_else (mode_of xs) f.told) ≡ or_else (or_else o (mode_of xs)) f.told
    by None = refl
    by (Some m) = refl

-- the form of facts and one more, by the form so far
pub mode-push : (fs gs : List Fact) (f : Fact) (m r : Option ℕ) → m ≡ mode_of fs → r ≡ option_or m f.told → gs ≡ fs ++ f ∷ [] → r ≡ mode_of gs
unfolding or_else
mode-push fs gs f m r so_far either pushed =
    either ∙ same m f.told ∙ ap (λ o. or_else o f.told) so_far ∙ sym (mode_of-push fs f) ∙ ap mode_of (sym pushed)
  where
    same : (a b : Option ℕ) → option_or a b ≡ or_else a b
    same None b = refl
    same (Some x) b = refl

-- where no form was told, no fact told one
none-told : (a : Option ℕ) (m : Option ℕ) → agrees a None ≡ true → agrees a m ≡ true
none-told None m h = refl
none-told (Some a) m h = absurd (cc)

all-weaker : (p q : Fact → Bool) (fs : List Fact) → ((f : Fact) → p f ≡ true → q f ≡ true) → list_all p fs ≡ true → list_all q fs ≡ true
all-weaker p q [] h all = refl
all-weaker p q (f ∷ fs) h all =
    let parts = and_parts (p f) (list_all p fs) all in
    and_from (q f) (list_all q fs) (h f parts.0) (all-weaker p q fs h parts.1)

-- one more fact that tells the form so far
agree-push : (fs : List Fact) (f : Fact) → agree fs ≡ true → agrees f.told (or_else (mode_of fs) f.told) ≡ true → agree (fs ++ f ∷ []) ≡ true
unfolding or_else
agree-push fs f all one =
    let mode : mode_of (fs ++ f ∷ []) ≡ or_else (mode_of fs) f.told = mode_of-push fs f in
    subst (λ m. list_all (λ fact. agrees fact.told m) (fs ++ f ∷ []) ≡ true) (sym mode) (list_all-append (λ fact. agrees fact.told (or_else (mode_of fs) f.told)) fs (f ∷ []) ∙ and_from (list_all (λ fact. agrees fact.told (or_else (mode_of fs) f.told)) fs) (agrees f.told (or_else (mode_of fs) f.told) && true) (before (mode_of fs) all) (and_from (agrees f.told (or_else (mode_of fs) f.told)) true one refl))
  where
    before : (m : Option ℕ) → list_all (λ fact. agrees fact.told m) fs ≡ true → list_all (λ fact. agrees fact.told (or_else m f.told)) fs ≡ true
    before None h = all-weaker (λ fact. agrees fact.told None) (λ fact. agrees fact.told f.told) fs (λ x. none-told x.told f.told) h
    before (Some m) h = h

-- a listed key tells the form so far
listed-agrees : (o : Only) (mode : Option ℕ) (value : Value) → tells_itself o ≡ false → is_listed o mode ≡ true → agrees (told_by o value) (or_else mode (told_by o value)) ≡ true
unfolding or_else
listed-agrees only.All mode value t h = refl
listed-agrees (only.In m) None value t h = eq-eqb m m refl
listed-agrees (only.In m) (Some k) value t h = h
listed-agrees (only.NotIn m) mode value t h = refl
listed-agrees only.Told mode value t h = absurd (cc)

-- a fact that is given in a form tells it
given-agrees : (keys : List Key) (mode : Option ℕ) (n : ℕ) (words value : List (List ℕ)) (q : Key → Bool) (o : Option Key) (fact : Fact) → list_all (λ key. not (tells_itself key.only)) keys ≡ true → find q keys ≡ o → given_in mode n words value o ≡ Ok fact → agrees fact.told (or_else mode fact.told) ≡ true
given-agrees keys mode n words value q None fact all f e = absurd (cc)
given-agrees keys mode n words value q (Some key) fact all f e = by (is_listed key.only mode) refl e
  where
    plain : (o : Only) → not (tells_itself o) ≡ true → tells_itself o ≡ false
    plain only.Told h = absurd (cc)
    plain only.All h = refl
    plain (only.In m) h = refl
    plain (only.NotIn m) h = refl

    by : (t : Bool) → is_listed key.only mode ≡ t → cond t (given_by n words value key) (Err faults.UnknownKey) ≡ Ok fact → agrees fact.told (or_else mode fact.told) ≡ true
    by true h g =
        let told : fact.told ≡ told_by key.only fact.value = (made n key (word_in_place key.words words) (slots_of key.place (key.first, key.last) (word_in_place key.words words)) (value_of key.form value) fact refl g).told in
        subst (λ t. agrees t (or_else mode t) ≡ true) (sym told) (listed-agrees key.only mode fact.value (plain key.only (found-passes (λ k. not (tells_itself k.only)) q keys key all f)) h)
    by false h g = absurd (cc)

twice-given : (earlier : List Fact) (r : Result Fact FaultKind) (fact : Fact) → unless_twice earlier r ≡ Ok fact → r ≡ Ok fact
twice-given earlier (Ok f) fact h = ap Ok (by (list_any (overlaps f) earlier) h)
  where
    by : (t : Bool) → cond {A = Result Fact FaultKind} t (Err faults.Twice) (Ok f) ≡ Ok fact → f ≡ fact
    by true h = absurd (cc)
    by false h = cc
twice-given earlier (Err f) fact h = h

-- a fact that follows others without a fault
fact-agrees : (head : Head) (earlier : List Fact) (n : ℕ) (words value : List (List ℕ)) (fact : Fact) → list_all (λ key. not (tells_itself key.only)) (keys_of head) ≡ true → fact_in head earlier n words value ≡ Ok fact → agrees fact.told (or_else (mode_of earlier) fact.told) ≡ true
unfolding fact_in given
fact-agrees head earlier n words value fact all h = by (begins_well head earlier words) h
  where
    by : (t : Bool) → cond t (unless_twice earlier (given (keys_of head) (mode_of earlier) n words value)) (Err faults.BadLine) ≡ Ok fact → agrees fact.told (or_else (mode_of earlier) fact.told) ≡ true
    by true e =
        given-agrees (keys_of head) (mode_of earlier) n words value (λ key. fits key.words words) (find (λ key. fits key.words words) (keys_of head)) fact all refl (twice-given earlier (given (keys_of head) (mode_of earlier) n words value) fact e)
    by false e = absurd (cc)

plain-keys : (head : Head) → is_shaping head ≡ true → list_all (λ key. not (tells_itself key.only)) (keys_of head) ≡ true
unfolding subport_kind_keys pipe_kind_keys
plain-keys (heads.SubportKind n) h = refl
plain-keys (heads.PipeKind n) h = refl
plain-keys heads.Pool h = absurd (cc)
plain-keys (heads.Port n) h = absurd (cc)
plain-keys (heads.Subport p k) h = absurd (cc)
plain-keys heads.Codes h = absurd (cc)
plain-keys (heads.Meter name) h = absurd (cc)
plain-keys (heads.Rule n) h = absurd (cc)
plain-keys heads.Red h = absurd (cc)

no-fault-ok : (r : Result Fact FaultKind) → fault_of r ≡ None → (fact : Fact) × (r ≡ Ok fact)
no-fault-ok (Ok fact) h = (fact, refl)
no-fault-ok (Err fault) h = absurd (cc)

-- a section and one key line more without a fault
one-more : (s : Section) (n : ℕ) (words value : List (List ℕ)) → section_agrees s ≡ true → fault_in n words value (Some s) ≡ None → section_agrees (with_fact n (Entry words value) s) ≡ true
one-more s n words value all h = by (is_red s.head) refl h
  where
    stays : is_red s.head ≡ true → with_fact n (Entry words value) s ≡ s
    stays red = ap (λ fs. record { line = s.line; head = s.head; facts = s.facts ++ fs }) (red-gives s.head n words value red) ∙ ap (λ fs. record { line = s.line; head = s.head; facts = fs }) (append-nil s.facts)

    shaping : (t : Bool) → is_shaping s.head ≡ t → (not t || agree s.facts) ≡ true → (fact : Fact) → fact_in s.head s.facts n words value ≡ Ok fact → (not t || agree (s.facts ++ fact ∷ [])) ≡ true
    shaping true is a fact e = agree-push s.facts fact a (fact-agrees s.head s.facts n words value fact (plain-keys s.head is) e)
    shaping false is a fact e = refl

    by : (t : Bool) → is_red s.head ≡ t → cond t None (fault_of (fact_in s.head s.facts n words value)) ≡ None → section_agrees (with_fact n (Entry words value) s) ≡ true
    by true red e = ap section_agrees (stays red) ∙ all
    by false red e =
        let ok = no-fault-ok (fact_in s.head s.facts n words value) e in
        ap (λ fs. not (is_shaping s.head) || agree (s.facts ++ fs)) (fact_in-given s.head s.facts n words value ok.0 ok.1) ∙ shaping (is_shaping s.head) refl all ok.0 ok.1

-- the last of two or more
last_of-cons : (s t : Section) (more : List Section) → last_of (s ∷ t ∷ more) ≡ last_of (t ∷ more)
last_of-cons s t more =
    ap (slice_get (s ∷ t ∷ more)) (let e : length (s ∷ t ∷ more) - 1 ≡ suc (length (t ∷ more) - 1) = omega arith in e)

last-more : (ss : List Section) (n : ℕ) (words value : List (List ℕ)) → list_all section_agrees ss ≡ true → fault_in n words value (last_of ss) ≡ None → list_all section_agrees (add_to_last n (Entry words value) ss) ≡ true
last-more [] n words value all h = refl
last-more (s ∷ []) n words value all h =
    and_from (section_agrees (with_fact n (Entry words value) s)) true (one-more s n words value (and_parts (section_agrees s) true all).0 h) refl
last-more (s ∷ t ∷ more) n words value all h =
    let parts = and_parts (section_agrees s) (list_all section_agrees (t ∷ more)) all in
    and_from (section_agrees s) (list_all section_agrees (add_to_last n (Entry words value) (t ∷ more))) parts.0 (last-more (t ∷ more) n words value parts.1 (ap (fault_in n words value) (sym (last_of-cons s t more)) ∙ h))

-- sections and one line more without a fault
line-more : (ss : List Section) (n : ℕ) (line : Line) → list_all section_agrees ss ≡ true → fault_at ss n line ≡ None → list_all section_agrees (with_line ss n line) ≡ true
line-more ss n NotText all h = all
line-more ss n Blank all h = all
line-more ss n Neither all h = all
line-more ss n (Entry words value) all h = last-more ss n words value all h
line-more ss n (HeadLine words) all h =
    list_all-append section_agrees ss (section_with n [] (head_or_red (head_of words)) ∷ []) ∙ and_from (list_all section_agrees ss) (section_agrees (section_with n [] (head_or_red (head_of words))) && true) all (and_from (section_agrees (section_with n [] (head_or_red (head_of words)))) true (or-true (is_shaping (head_or_red (head_of words)))) refl)
  where
    or-true : (t : Bool) → (not t || true) ≡ true
    or-true true = refl
    or-true false = refl

later-none : (n : ℕ) (f : Option FaultKind) (later : Option (ℕ × FaultKind)) → or_later n f later ≡ None → (f ≡ None) × (later ≡ None)
later-none n None later h = (refl, h)
later-none n (Some f) later h = absurd (cc)

all-lines : (before lines : List Line) → list_all section_agrees (sections_of 1 before) ≡ true → first_fault before lines ≡ None → list_all section_agrees (sections_of 1 (before ++ lines)) ≡ true
unfolding first_fault
all-lines before [] all h = ap (λ ls. list_all section_agrees (sections_of 1 ls)) (append-nil before) ∙ all
all-lines before (line ∷ lines) all h =
    let parts = later-none (length before + 1) (fault_at (sections_of 1 before) (length before + 1) line) (first_fault (before ++ line ∷ []) lines) h in
    let place : length before + 1 ≡ 1 + length before = omega arith in
    let more : list_all section_agrees (sections_of 1 (before ++ line ∷ [])) ≡ true = ap (list_all section_agrees) (sections_of-snoc 1 before line ∙ ap (λ k. with_line (sections_of 1 before) k line) (sym place)) ∙ line-more (sections_of 1 before) (length before + 1) line all parts.0 in
    ap (λ ls. list_all section_agrees (sections_of 1 ls)) (sym (append_assoc before (line ∷ []) lines)) ∙ all-lines (before ++ line ∷ []) lines more parts.1

-- the sections of lines without a fault
pub lines-agree : (lines : List Line) → first_fault [] lines ≡ None → list_all section_agrees (sections_of 1 lines) ≡ true
unfolding sections_of
lines-agree lines h = all-lines [] lines refl h
