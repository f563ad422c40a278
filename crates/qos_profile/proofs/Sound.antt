-- What stands in sections that have no fault.
use Rattle.std.proofs.Common.{◌≡◌, ◌==◌, ℕ, ◌+◌, ◌≤◌, Bool, true, false, cond, not, ◌&&◌, ◌||◌, nat_le, List, [], ◌∷◌, ◌-◌, length, find, take, replicate, codes, Option, None, Some, Result, Ok, Err, refl, sym, ap, subst, ◌∙◌}
use Rattle.std.specs.List.{list_any, list_all}
use Rattle.std.specs.Option.{option_map}
use Rattle.std.proofs.lemmas.Bool.{and_parts, and_from, eqb-true, leb-true}
use Rattle.std.proofs.lemmas.List.{take_at}
use Rattle.profile_lines.specs.Lines.{Line, NotText, Blank, Head as HeadLine, Entry, Neither}
use Rattle.profile_lines.specs.Numbers.{number_of}
use Rattle.profile_plan.specs.Limits.{Within, is_name_byte}
use Rattle.qos_profile.specs.declared.fault.FaultKind.{FaultKind}
use Rattle.qos_profile.specs.declared.fault.FaultKind.TheVariants as faults
use Rattle.qos_profile.specs.declared.name.Name.{Name}
use Rattle.qos_profile.specs.declared.head.Head.{Head}
use Rattle.qos_profile.specs.declared.head.Head.TheVariants as heads
use Rattle.qos_profile.specs.declared.fact.Fact.{Fact}
use Rattle.qos_profile.specs.declared.section.Section.{Section}
use Rattle.qos_profile.specs.Values.{word_at, name_of, padded}
use Rattle.qos_profile.specs.Heads.{head_of, fits, numbered, number_at_most, subport_head, meter_head}
use Rattle.qos_profile.specs.Sections.{head_or_red, same_head, sections_of, first_fault}
use Rattle.qos_profile.specs.Lookups.{is_there, facts_or_none, facts_at}
use Rattle.qos_profile.specs.Missing.{is_complete, has_ports, ports_to, has_subports, has_sections, missing_line}
use Rattle.qos_profile.specs.Naming.{names_of_fact, names_of_head, unnamed_in, unnamed_among, unnamed_line, or_next}
use Rattle.qos_profile.specs.Across.{keeps_ranges, across_line}
use Rattle.qos_profile.specs.Large.{too_large}
use Rattle.qos_profile.specs.Faults.{first_of, fault_of_sections}
use Rattle.qos_profile.specs.Kept.{IsGiven, EachFact, AreGiven}
use Rattle.qos_profile.proofs.Keeping.{sections-given, number-ok}
use Rattle.qos_profile.proofs.Agreeing.{section_agrees, lines-agree}
use Rattle.qos_profile.proofs.Apart.{are_apart, sections-apart}

-- a name of 1 to 32 letters, digits and `_`
pub record IsNamed (name : Name) : Type 0 where
  pub word : List ℕ
  pub is : name ≡ padded word
  pub size : Within 1 32 (length word)
  pub bytes : list_all is_name_byte word ≡ true

pub name-word : (name : Name) (is : IsNamed name) → take name.length name.bytes ≡ is.word
name-word name is =
    ap (λ n. take n.length n.bytes) is.is ∙ take_at is.word (replicate (32 - length is.word) 0) (length is.word) refl

-- the number of a head is within its limit, and a meter's name is one
abbrev pub IsHeadKept : Head → Type 0
IsHeadKept heads.Pool = Unit {0}
IsHeadKept (heads.Port n) = n ≤ 15
IsHeadKept (heads.SubportKind n) = n ≤ 63
IsHeadKept (heads.PipeKind n) = n ≤ 255
IsHeadKept (heads.Subport p k) = Unit {0}
IsHeadKept heads.Codes = Unit {0}
IsHeadKept (heads.Meter name) = IsNamed name
IsHeadKept (heads.Rule n) = n ≤ 255
IsHeadKept heads.Red = Unit {0}

-- a section without a fault among some
pub record IsSoundIn (all : List Section) (s : Section) : Type 0 where
  pub head : IsHeadKept s.head
  pub given : EachFact (IsGiven s.head) s.facts
  pub agrees : section_agrees s ≡ true
  pub complete : is_complete s.head s.facts ≡ true
  pub ports : has_ports all (ports_to s.head) ≡ true
  pub subports : has_subports all s.head s.facts ≡ true
  pub head_named : names_of_head all s.head ≡ true
  pub named : EachFact (λ fact. names_of_fact all s.head s.facts fact ≡ true) s.facts
  pub ranges : keeps_ranges s.head s.facts ≡ true

-- of each section
abbrev pub EachSection : (Section → Type 0) → List Section → Type 0
EachSection P [] = Unit {0}
EachSection P (s ∷ ss) = P s × EachSection P ss

-- sections without a fault
pub record IsSound (ss : List Section) : Type 0 where
  pub each : EachSection (IsSoundIn ss) ss
  pub apart : are_apart ss ≡ true
  pub there : is_there ss (heads.Port 0) ≡ true
  pub small : too_large ss ≡ None

-- heads

number-head : (P : Head → Type 0) (make : ℕ → Head) (most : ℕ) (word : List ℕ) → ((n : ℕ) → n ≤ most → P (make n)) → P heads.Red → P (head_or_red (numbered make (number_at_most most word)))
number-head P make most word each red = by (number_at_most most word) refl
  where
    by : (r : Result ℕ FaultKind) → number_at_most most word ≡ r → P (head_or_red (numbered make r))
    by (Ok n) e = each n (number-ok 0 most (number_of word) n e).1
    by (Err f) e = red

subport-kept : (p k : Option ℕ) → IsHeadKept (head_or_red (subport_head p k))
subport-kept (Some p) (Some k) = tt
subport-kept (Some p) None = tt
subport-kept None k = tt

meter-kept : (word : List ℕ) → IsHeadKept (head_or_red (meter_head (name_of word)))
unfolding name_of
meter-kept word = by (nat_le 1 (length word) && nat_le (length word) 32 && list_all is_name_byte word) refl
  where
    by : (t : Bool) → (nat_le 1 (length word) && nat_le (length word) 32 && list_all is_name_byte word) ≡ t → IsHeadKept (head_or_red (meter_head (cond t (Some (padded word)) None)))
    by true h =
        let parts = and_parts (nat_le 1 (length word) && nat_le (length word) 32) (list_all is_name_byte word) h in
        let limits = and_parts (nat_le 1 (length word)) (nat_le (length word) 32) parts.0 in
        record { word = word; is = refl; size = (leb-true 1 (length word) limits.0, leb-true (length word) 32 limits.1); bytes = parts.1 }
    by false h = tt

-- the head of any words
head-kept : (words : List (List ℕ)) → IsHeadKept (head_or_red (head_of words))
unfolding head_of
head-kept words =
    by (fits (codes "pool" ∷ []) words) (fits (codes "port" ∷ [] ∷ []) words) (fits (codes "subport" ∷ codes "profile" ∷ [] ∷ []) words) (fits (codes "subport" ∷ [] ∷ [] ∷ []) words) (fits (codes "pipe" ∷ codes "profile" ∷ [] ∷ []) words) (fits (codes "codes" ∷ codes "dscp" ∷ []) words) (fits (codes "meter" ∷ [] ∷ []) words) (fits (codes "rule" ∷ [] ∷ []) words) (fits (codes "red" ∷ []) words)
  where
    by : (a b c d e f g h i : Bool) → IsHeadKept (head_or_red (cond a (Ok heads.Pool) (cond b (numbered heads.Port (number_at_most 15 (word_at words 1))) (cond c (numbered heads.SubportKind (number_at_most 63 (word_at words 2))) (cond d (subport_head (number_of (word_at words 1)) (number_of (word_at words 2))) (cond e (numbered heads.PipeKind (number_at_most 255 (word_at words 2))) (cond f (Ok heads.Codes) (cond g (meter_head (name_of (word_at words 1))) (cond h (numbered heads.Rule (number_at_most 255 (word_at words 1))) (cond i (Ok heads.Red) (Err faults.UnknownKey)))))))))))
    by true b c d e f g h i = tt
    by false true c d e f g h i = number-head IsHeadKept heads.Port 15 (word_at words 1) (λ n h. h) tt
    by false false true d e f g h i = number-head IsHeadKept heads.SubportKind 63 (word_at words 2) (λ n h. h) tt
    by false false false true e f g h i = subport-kept (number_of (word_at words 1)) (number_of (word_at words 2))
    by false false false false true f g h i = number-head IsHeadKept heads.PipeKind 255 (word_at words 2) (λ n h. h) tt
    by false false false false false true g h i = tt
    by false false false false false false true h i = meter-kept (word_at words 1)
    by false false false false false false false true i = number-head IsHeadKept heads.Rule 255 (word_at words 1) (λ n h. h) tt
    by false false false false false false false false true = tt
    by false false false false false false false false false = tt

heads-kept : (n : ℕ) (ls : List Line) → EachSection (λ s. IsHeadKept s.head) (sections_of n ls)
unfolding sections_of
heads-kept n [] = tt
heads-kept n (NotText ∷ ls) = heads-kept (n + 1) ls
heads-kept n (Blank ∷ ls) = heads-kept (n + 1) ls
heads-kept n (Entry a b ∷ ls) = heads-kept (n + 1) ls
heads-kept n (Neither ∷ ls) = heads-kept (n + 1) ls
heads-kept n (HeadLine w ∷ ls) = (head-kept w, heads-kept (n + 1) ls)

-- what the absence of each fault says of each section

not-false : (b : Bool) → not b ≡ false → b ≡ true
not-false true h = refl
not-false false h = absurd (cc)

none-found : {X Y : Type 0} (q : X → Bool) (f : X → Y) (xs : List X) → option_map f (find (λ x. not (q x)) xs) ≡ None → list_all q xs ≡ true
none-found q f [] h = refl
none-found q f (x ∷ xs) h = by (q x) refl h (none-found q f xs)
  where
    by : (t : Bool) → q x ≡ t → option_map f (cond (not t) (Some x) (find (λ y. not (q y)) xs)) ≡ None → (option_map f (find (λ y. not (q y)) xs) ≡ None → list_all q xs ≡ true) → list_all q (x ∷ xs) ≡ true
    by true e g later = and_from (q x) (list_all q xs) e (later g)
    by false e g later = absurd (cc)

each-fact : (q : Fact → Bool) (fs : List Fact) → list_all q fs ≡ true → EachFact (λ f. q f ≡ true) fs
each-fact q [] h = tt
each-fact q (f ∷ fs) h = let parts = and_parts (q f) (list_all q fs) h in (parts.0, each-fact q fs parts.1)

next-none : (a b : Option ℕ) → or_next a b ≡ None → (a ≡ None) × (b ≡ None)
next-none None b h = (refl, h)
next-none (Some line) b h = absurd (cc)

-- the names of one section
unnamed-none : (all : List Section) (s : Section) → unnamed_in all s ≡ None → (names_of_head all s.head ≡ true) × (list_all (names_of_fact all s.head s.facts) s.facts ≡ true)
unnamed-none all s h = by (names_of_head all s.head) refl h
  where
    by : (t : Bool) → names_of_head all s.head ≡ t → cond t (option_map (λ fact. fact.line) (find (λ fact. not (names_of_fact all s.head s.facts fact)) s.facts)) (Some s.line) ≡ None → (names_of_head all s.head ≡ true) × (list_all (names_of_fact all s.head s.facts) s.facts ≡ true)
    by true e g = (e, none-found (names_of_fact all s.head s.facts) (λ fact. fact.line) s.facts g)
    by false e g = absurd (cc)

-- the tests of each section
pub record ArePassed (all : List Section) (ss : List Section) : Type 0 where
  pub agrees : list_all section_agrees ss ≡ true
  pub complete : list_all (λ s. is_complete s.head s.facts) ss ≡ true
  pub ports : list_all (λ s. has_ports all (ports_to s.head)) ss ≡ true
  pub subports : list_all (λ s. has_subports all s.head s.facts) ss ≡ true
  pub named : unnamed_among all ss ≡ None
  pub ranges : list_all (λ s. keeps_ranges s.head s.facts) ss ≡ true

-- all of it together, section by section
together : (all ss : List Section) → EachSection (λ s. IsHeadKept s.head) ss → AreGiven ss → ArePassed all ss → EachSection (IsSoundIn all) ss
together all [] heads given passed = tt
together all (s ∷ ss) heads given passed =
    let agree = and_parts (section_agrees s) (list_all section_agrees ss) passed.agrees in
    let whole = and_parts (is_complete s.head s.facts) (list_all (λ t. is_complete t.head t.facts) ss) passed.complete in
    let port = and_parts (has_ports all (ports_to s.head)) (list_all (λ t. has_ports all (ports_to t.head)) ss) passed.ports in
    let subport = and_parts (has_subports all s.head s.facts) (list_all (λ t. has_subports all t.head t.facts) ss) passed.subports in
    let range = and_parts (keeps_ranges s.head s.facts) (list_all (λ t. keeps_ranges t.head t.facts) ss) passed.ranges in
    let none = next-none (unnamed_in all s) (unnamed_among all ss) passed.named in
    let names = unnamed-none all s none.0 in (
      record { head = heads.0; given = given.0; agrees = agree.0; complete = whole.0; ports = port.0; subports = subport.0; head_named = names.0; named = each-fact (names_of_fact all s.head s.facts) s.facts names.1; ranges = range.0 },
      together all ss heads.1 given.1 (record { agrees = agree.1; complete = whole.1; ports = port.1; subports = subport.1; named = none.1; ranges = range.1 }),
    )

missing-none : (ss : List Section) → missing_line ss ≡ None → (has_sections ss ≡ true) × (list_all (λ s. is_complete s.head s.facts) ss ≡ true)
unfolding missing_line
missing-none ss h = by (has_sections ss) refl h
  where
    by : (t : Bool) → has_sections ss ≡ t → cond t (option_map (λ s. s.line) (find (λ s. not (is_complete s.head s.facts)) ss)) (Some 0) ≡ None → (has_sections ss ≡ true) × (list_all (λ s. is_complete s.head s.facts) ss ≡ true)
    by true e g = (e, none-found (λ s. is_complete s.head s.facts) (λ s. s.line) ss g)
    by false e g = absurd (cc)

first-none : (a b c d : Option ℕ) → first_of a b c d ≡ None → (a ≡ None) × (b ≡ None) × (c ≡ None) × (d ≡ None)
first-none None None None None h = (refl, refl, refl, refl)
first-none (Some x) b c d h = absurd (cc)
first-none None (Some x) c d h = absurd (cc)
first-none None None (Some x) d h = absurd (cc)
first-none None None None (Some x) h = absurd (cc)

-- the sections of lines without a fault
pub lines-sound : (lines : List Line) → first_fault [] lines ≡ None → fault_of_sections (sections_of 1 lines) ≡ None → IsSound (sections_of 1 lines)
unfolding unnamed_line across_line
lines-sound lines clear whole =
    let ss = sections_of 1 lines in
    let none = first-none (missing_line ss) (unnamed_line ss) (across_line ss) (too_large ss) whole in
    let missing = missing-none ss none.0 in
    let parts = and_parts (has_ports ss 1 && list_all (λ s. has_ports ss (ports_to s.head)) ss) (list_all (λ s. has_subports ss s.head s.facts) ss) missing.0 in
    let ports = and_parts (has_ports ss 1) (list_all (λ s. has_ports ss (ports_to s.head)) ss) parts.0 in
    record {
      each = together ss ss (heads-kept 1 lines) (sections-given 1 lines) (record { agrees = lines-agree lines clear; complete = missing.1; ports = ports.1; subports = parts.1; named = none.1; ranges = none-found (λ s. keeps_ranges s.head s.facts) (λ s. s.line) ss none.2 });
      apart = sections-apart lines clear;
      there = (and_parts (is_there ss (heads.Port 0)) true ports.0).0;
      small = none.3;
    }

-- sections that are found

pub found-section : (P : Section → Type 0) (q : Section → Bool) (ss : List Section) → EachSection P ss → list_any q ss ≡ true → (s : Section) × (find q ss ≡ Some s) × P s × (q s ≡ true)
found-section P q [] each h = absurd (cc)
found-section P q (s ∷ ss) each h = by (q s) refl h (found-section P q ss each.1)
  where
    by : (t : Bool) → q s ≡ t → (t || list_any q ss) ≡ true → (list_any q ss ≡ true → (x : Section) × (find q ss ≡ Some x) × P x × (q x ≡ true)) → (x : Section) × (cond t (Some s) (find q ss) ≡ Some x) × P x × (q x ≡ true)
    by true e g later = (s, refl, each.0, e)
    by false e g later = later g

none-there : (q : Section → Bool) (ss : List Section) → list_any q ss ≡ false → find q ss ≡ None
none-there q [] h = refl
none-there q (s ∷ ss) h = by (q s) h (none-there q ss)
  where
    by : (t : Bool) → (t || list_any q ss) ≡ false → (list_any q ss ≡ false → find q ss ≡ None) → cond t (Some s) (find q ss) ≡ None
    by true g later = absurd (cc)
    by false g later = later g

-- a section of a head that is told apart by it
pub record IsSoundAt (all : List Section) (head : Head) (facts : List Fact) : Type 0 where
  pub line : ℕ
  pub sound : IsSoundIn all (record { line = line; head = head; facts = facts })

-- heads that are the same, for all but meters
abbrev pub is_plain : Head → Bool
is_plain (heads.Meter name) = false
is_plain _ = true

pub same-head : (h g : Head) → is_plain g ≡ true → same_head h g ≡ true → h ≡ g
same-head heads.Pool heads.Pool p e = refl
same-head (heads.Port n) (heads.Port m) p e = ap heads.Port (eqb-true n m e)
same-head (heads.SubportKind n) (heads.SubportKind m) p e = ap heads.SubportKind (eqb-true n m e)
same-head (heads.PipeKind n) (heads.PipeKind m) p e = ap heads.PipeKind (eqb-true n m e)
same-head (heads.Subport n k) (heads.Subport m l) p e =
    let parts = and_parts (n == m) (k == l) e in
    ap (λ x. heads.Subport x k) (eqb-true n m parts.0) ∙ ap (heads.Subport m) (eqb-true k l parts.1)
same-head heads.Codes heads.Codes p e = refl
same-head (heads.Rule n) (heads.Rule m) p e = ap heads.Rule (eqb-true n m e)
same-head (heads.Meter a) (heads.Meter b) p e = absurd (cc)
same-head _ _ p e = absurd (cc)

-- the facts of a section that is there
pub sound-at : (ss : List Section) (head : Head) → IsSound ss → is_plain head ≡ true → is_there ss head ≡ true → IsSoundAt ss head (facts_at ss head)
sound-at ss head sound plain there =
    let found = found-section (IsSoundIn ss) (λ s. same_head s.head head) ss sound.each there in
    let s = found.0 in
    let facts : facts_at ss head ≡ s.facts = ap facts_or_none found.1 in
    let same : s.head ≡ head = same-head s.head head plain found.3 in
    record { line = s.line; sound = subst (λ fs. IsSoundIn ss (record { line = s.line; head = head; facts = fs })) (sym facts) (subst (λ h. IsSoundIn ss (record { line = s.line; head = h; facts = s.facts })) same found.2) }

-- the facts of a section, there or not, are given by lines of it
pub given-at : (ss : List Section) (head : Head) → IsSound ss → is_plain head ≡ true → EachFact (IsGiven head) (facts_at ss head)
given-at ss head sound plain = by (is_there ss head) refl
  where
    by : (t : Bool) → is_there ss head ≡ t → EachFact (IsGiven head) (facts_at ss head)
    by true there = (sound-at ss head sound plain there).sound.given
    by false there = subst (EachFact (IsGiven head)) (sym (ap facts_or_none (none-there (λ s. same_head s.head head) ss there))) tt
