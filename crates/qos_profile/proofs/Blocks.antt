-- Sections whose keys each give a fact of their own have no fault, and are read as these facts.
use Rattle.std.proofs.Common.{◌≡◌, ◌==◌, ℕ, ◌+◌, ◌-◌, Bool, true, false, cond, not, ◌&&◌, ◌||◌, nat_lt, nat_le, List, [], ◌∷◌, ◌++◌, length, map, find, slice_get, Option, Some, None, Result, Ok, Err, refl, sym, ap, ◌∙◌, subst, arith, ⊎_elim}
use Rattle.std.specs.List.{list_all, list_any, flat_map}
use Rattle.std.proofs.lemmas.Bool.{and_parts, and_from, or_from, or_cases, ltb-true, lt-leb, ne_eqb, and_right}
use Rattle.std.proofs.lemmas.List.{append-nil, append_assoc, length_push}
use Rattle.std.proofs.lemmas.List.Folds.{list_all-append}
use Rattle.profile_lines.specs.Lines.{Line, Head as HeadLine, Entry}
use Rattle.profile_print.specs.Written.{Words, Key, Block, each_from}
use Rattle.qos_profile.specs.declared.fault.FaultKind.{FaultKind}
use Rattle.qos_profile.specs.declared.fault.FaultKind.TheVariants as faults
use Rattle.qos_profile.specs.declared.fact.Fact.{Fact}
use Rattle.qos_profile.specs.declared.head.Head.{Head}
use Rattle.qos_profile.specs.declared.head.Head.TheVariants as heads
use Rattle.qos_profile.specs.declared.section.Section.{Section}
use Rattle.qos_profile.specs.Table as table
use Rattle.qos_profile.specs.Heads.{head_of, fits}
use Rattle.qos_profile.specs.Facts.{keys_of, given, given_in, given_by, mode_of, is_listed, overlaps, unless_twice, begins_well, fact_in}
use Rattle.qos_profile.specs.Sections.{same_head, is_red, fault_in, fault_of_head, fault_at, first_fault, or_later, last_of, sections_of, section_with, head_or_red}
use Rattle.qos_profile.specs.Steps.{with_fact, add_to_last}
use Rattle.qos_profile.proofs.Growing.{sections_of-snoc, fact_in-given, no-fault}
use Rattle.profile_print.specs.Plain.{key_line, block_lines}
use Rattle.qos_profile.specs.Printed.{Part, at_line, sections_from}

-- what passes one test passes another
pub all-weaker : {X : Type 0} (p q : X → Bool) → ((b : X) → p b ≡ true → q b ≡ true) → (bs : List X) → list_all p bs ≡ true → list_all q bs ≡ true
all-weaker p q w [] h = refl
all-weaker p q w (b ∷ bs) h =
    let parts = and_parts (p b) (list_all p bs) h in
    and_from (q b) (list_all q bs) (w b parts.0) (all-weaker p q w bs parts.1)

-- a test of each item with each later one
abbrev pub each_pair : {X : Type 0} → (X → X → Bool) → List X → Bool
each_pair r [] = true
each_pair r (x ∷ xs) = list_all (r x) xs && each_pair r xs

-- a fact's slots stand before another's
abbrev pub precedes : Fact → Fact → Bool
precedes a b = nat_lt a.group b.group || (a.group == b.group && nat_lt a.last b.first)

-- two heads are of different sections
abbrev pub differs : Head → Head → Bool
differs a b = not (same_head a b)

-- a key line in a section of this form or kind gives this fact
pub record Says (head : Head) (mode : Option ℕ) (key : Key) (fact : Fact) : Type 0 where
  pub is : (n : ℕ) → given (keys_of head) mode n key.words key.value ≡ Ok (at_line n fact)
  pub told : mode ≡ None → fact.told ≡ None

-- so do the keys of a section, one by one
abbrev pub SaysAll : Head → Option ℕ → List Key → List Fact → Type 0
SaysAll head mode [] [] = Unit {0}
SaysAll head mode [] (fact ∷ facts) = ⊥
SaysAll head mode (key ∷ keys) [] = ⊥
SaysAll head mode (key ∷ keys) (fact ∷ facts) = Says head mode key fact × SaysAll head mode keys facts

abbrev pub FirstTells : Option ℕ → List Fact → Type 0
FirstTells mode [] = Unit {0}
FirstTells mode (fact ∷ facts) = fact.told ≡ mode

abbrev pub BeginsWell : Head → List Key → Type 0
BeginsWell head [] = Unit {0}
BeginsWell head (key ∷ keys) = begins_well head [] key.words ≡ true

-- a section that is written is read as a part
pub record IsRead (block : Block) (part : Part) : Type 0 where
  pub mode : Option ℕ
  pub head : head_of block.head ≡ Ok part.head
  pub listed : is_red part.head ≡ false
  pub keys : SaysAll part.head mode block.keys part.facts
  pub first : FirstTells mode part.facts
  pub begins : BeginsWell part.head block.keys
  pub apart : each_pair precedes part.facts ≡ true

abbrev pub AreRead : List Block → List Part → Type 0
AreRead [] [] = Unit {0}
AreRead [] (part ∷ parts) = ⊥
AreRead (block ∷ blocks) [] = ⊥
AreRead (block ∷ blocks) (part ∷ parts) = IsRead block part × AreRead blocks parts

-- a fact that tells this
abbrev with_told : Fact → Option ℕ → Fact
with_told f t = record { line = f.line; group = f.group; first = f.first; last = f.last; told = t; value = f.value }

-- the form or kind after one more fact
mode-stays : (m : ℕ) (earlier : List Fact) (f : Fact) → mode_of earlier ≡ Some m → mode_of (earlier ++ f ∷ []) ≡ Some m
mode-stays m [] f h = absurd (cc)
mode-stays m (e ∷ es) f h =
    elim e.told as (λ t. mode_of (with_told e t ∷ es) ≡ Some m → mode_of (with_told e t ∷ (es ++ f ∷ [])) ≡ Some m) [
      | Some k ↦ λ g. g
      | None ↦ λ g. mode-stays m es f g
    ] h

mode-one : (mode : Option ℕ) (f : Fact) → f.told ≡ mode → mode_of (f ∷ []) ≡ mode
mode-one mode f h =
    elim f.told as (λ t. t ≡ mode → mode_of (with_told f t ∷ []) ≡ mode) [ Some k ↦ λ g. g | None ↦ λ g. g ] h

mode-none : (earlier : List Fact) (f : Fact) → mode_of earlier ≡ None → f.told ≡ None → mode_of (earlier ++ f ∷ []) ≡ None
mode-none [] f h g = mode-one None f g
mode-none (e ∷ es) f h g =
    elim e.told as (λ t. mode_of (with_told e t ∷ es) ≡ None → mode_of (with_told e t ∷ (es ++ f ∷ [])) ≡ None) [
      | Some k ↦ λ i. absurd (cc)
      | None ↦ λ i. mode-none es f i g
    ] h

mode-step : (mode : Option ℕ) (earlier : List Fact) (f : Fact) → mode_of earlier ≡ mode → (mode ≡ None → f.told ≡ None) → mode_of (earlier ++ f ∷ []) ≡ mode
mode-step (Some m) earlier f h g = mode-stays m earlier f h
mode-step None earlier f h g = mode-none earlier f h (g refl)

-- what a key gives in a form or kind it gives wherever nothing was told
given-any : (mode : Option ℕ) (n : ℕ) (words value : Words) (key : Option table.Key) (fact : Fact) → given_in mode n words value key ≡ Ok fact → given_in None n words value key ≡ Ok fact
given-any mode n words value None fact h = absurd (cc)
given-any mode n words value (Some key) fact h =
    elim (is_listed key.only mode) as (λ t. cond t (given_by n words value key) (Err faults.UnknownKey) ≡ Ok fact → given_in None n words value (Some key) ≡ Ok fact) [
      | true ↦ λ e. e
      | false ↦ λ e. absurd (cc)
    ] h

given-first : (head : Head) (mode : Option ℕ) (n : ℕ) (words value : Words) (fact : Fact) → given (keys_of head) mode n words value ≡ Ok fact → given (keys_of head) None n words value ≡ Ok fact
unfolding given
given-first head mode n words value fact h =
    given-any mode n words value (find (λ key. fits key.words words) (keys_of head)) fact h

-- a later fact overlaps no earlier one
precedes-apart : (a b : Fact) → precedes a b ≡ true → overlaps b a ≡ false
precedes-apart a b h =
    ⊎_elim
    (λ e. let below = ltb-true a.group b.group e in
    ap (λ t. (t && nat_le b.first a.last) && nat_le a.first b.last) (ne_eqb b.group a.group (λ same. absurd (omega arith))))
    (λ e. let below = ltb-true a.last b.first (and_parts (a.group == b.group) (nat_lt a.last b.first) e).1 in
    ap (λ t. t && nat_le a.first b.last) (and_right (b.group == a.group) (nat_le b.first a.last) (lt-leb b.first a.last below)))
    (or_cases (nat_lt a.group b.group) (a.group == b.group && nat_lt a.last b.first) h)

none-overlaps : (f : Fact) (fs earlier : List Fact) → list_all (λ e. list_all (precedes e) (f ∷ fs)) earlier ≡ true → list_any (overlaps f) earlier ≡ false
none-overlaps f fs [] h = refl
none-overlaps f fs (e ∷ es) h =
    let parts = and_parts (list_all (precedes e) (f ∷ fs)) (list_all (λ x. list_all (precedes x) (f ∷ fs)) es) h in
    or_from (overlaps f e) (list_any (overlaps f) es) (precedes-apart e f (and_parts (precedes e f) (list_all (precedes e) fs) parts.0).0) (none-overlaps f fs es parts.1)

-- the fact of a key after others
fact-read : (head : Head) (earlier : List Fact) (n : ℕ) (words value : Words) (fact : Fact) → begins_well head earlier words ≡ true → given (keys_of head) (mode_of earlier) n words value ≡ Ok fact → list_any (overlaps fact) earlier ≡ false → fact_in head earlier n words value ≡ Ok fact
unfolding fact_in
fact-read head earlier n words value fact begins is apart =
    ap (λ t. cond t (unless_twice earlier (given (keys_of head) (mode_of earlier) n words value)) (Err faults.BadLine)) begins
    ∙ ap (unless_twice earlier) is
    ∙ ap (λ t. cond {A = Result Fact FaultKind} t (Err faults.Twice) (Ok fact)) apart

-- the last of some sections
last-section : (ss : List Section) (s : Section) → slice_get (ss ++ s ∷ []) (length (ss ++ s ∷ []) - 1) ≡ Some s
last-section ss s =
    ap (λ k. slice_get (ss ++ s ∷ []) k) (let e : length (ss ++ s ∷ []) - 1 ≡ length ss = omega (arith, length_push ss s) in e) ∙ at-end ss
  where
    at-end : (xs : List Section) → slice_get (xs ++ s ∷ []) (length xs) ≡ Some s
    at-end [] = refl
    at-end (x ∷ xs) = at-end xs

add-last : (n : ℕ) (line : Line) (ss : List Section) (s : Section) → add_to_last n line (ss ++ s ∷ []) ≡ ss ++ with_fact n line s ∷ []
add-last n line [] s = refl
add-last n line (x ∷ []) s = refl
add-last n line (x ∷ y ∷ more) s = ap (λ ys. x ∷ ys) (add-last n line (y ∷ more) s)

-- a section with its line and its facts
abbrev pub section : ℕ → Head → List Fact → Section
section line head facts = record { line = line; head = head; facts = facts }

-- where a reading has come to: these lines were read, and the last of their sections is this one
pub record Within (before : List Line) (n : ℕ) (ss : List Section) (line : ℕ) (head : Head) (earlier : List Fact) : Type 0 where
  pub count : length before + 1 ≡ n
  pub read : sections_of 1 before ≡ ss ++ section line head earlier ∷ []
  pub listed : is_red head ≡ false

-- one more key
one-key : (before : List Line) (n : ℕ) (ss : List Section) (line : ℕ) (head : Head) (earlier : List Fact) (words value : Words) (fact : Fact) (more : List Line) → Within before n ss line head earlier → fact_in head earlier n words value ≡ Ok fact → (first_fault before (Entry words value ∷ more) ≡ first_fault (before ++ Entry words value ∷ []) more) × Within (before ++ Entry words value ∷ []) (n + 1) ss line head (earlier ++ fact ∷ [])
unfolding first_fault
one-key before n ss line head earlier words value fact more at is =
    let s = section line head earlier in
    let l = Entry words value in
    let last : slice_get (sections_of 1 before) (length (sections_of 1 before) - 1) ≡ Some s = subst (λ xs. slice_get xs (length xs - 1) ≡ Some s) (sym at.read) (last-section ss s) in
    let clear : fault_in n words value (last_of (sections_of 1 before)) ≡ None = no-fault (sections_of 1 before) s n words value fact last at.listed is in
    let clear_here : fault_at (sections_of 1 before) (length before + 1) l ≡ None = subst (λ k. fault_in k words value (last_of (sections_of 1 before)) ≡ None) (sym at.count) clear in
    let place : 1 + length before ≡ n = omega (arith, at.count) in (
      ap (λ f. or_later (length before + 1) f (first_fault (before ++ l ∷ []) more)) clear_here,
      record {
        count = omega (arith, length_push before l, at.count);
        read =
            sections_of-snoc 1 before l
            ∙ ap (λ k. add_to_last k l (sections_of 1 before)) place
            ∙ ap (add_to_last n l) at.read
            ∙ add-last n l ss s
            ∙ ap (λ fs. ss ++ section line head (earlier ++ fs) ∷ []) (fact_in-given head earlier n words value fact is);
        listed = at.listed;
      },
    )

within-same : (b c : List Line) (n m : ℕ) (ss : List Section) (line : ℕ) (head : Head) (fs gs : List Fact) → b ≡ c → n ≡ m → fs ≡ gs → Within b n ss line head fs → Within c m ss line head gs
within-same b c n m ss line head fs gs p q r at =
    subst (λ x. Within x m ss line head gs) p (subst (λ k. Within b k ss line head gs) q (subst (λ xs. Within b n ss line head xs) r at))

-- only the first key of a meter is asked for
begins-later : (head : Head) (earlier : List Fact) (f : Fact) (words : Words) → begins_well head (earlier ++ f ∷ []) words ≡ true
begins-later (heads.Meter name) [] f words = refl
begins-later (heads.Meter name) (e ∷ es) f words = refl
begins-later heads.Pool earlier f words = refl
begins-later (heads.Port a) earlier f words = refl
begins-later (heads.SubportKind a) earlier f words = refl
begins-later (heads.PipeKind a) earlier f words = refl
begins-later (heads.Subport a b) earlier f words = refl
begins-later heads.Codes earlier f words = refl
begins-later (heads.Rule a) earlier f words = refl
begins-later heads.Red earlier f words = refl

-- the rest of the keys
rest-clean : (before : List Line) (n : ℕ) (ss : List Section) (line : ℕ) (head : Head) (mode : Option ℕ) (earlier : List Fact) (keys : List Key) (facts : List Fact) (more : List Line) → Within before n ss line head earlier → mode_of earlier ≡ mode → ((words : Words) → begins_well head earlier words ≡ true) → SaysAll head mode keys facts → list_all (λ e. list_all (precedes e) facts) earlier ≡ true → each_pair precedes facts ≡ true → (first_fault before (map key_line keys ++ more) ≡ first_fault (before ++ map key_line keys) more) × Within (before ++ map key_line keys) (n + length facts) ss line head (earlier ++ each_from at_line n facts)
rest-clean before n ss line head mode earlier [] [] more at told begins says apart pairs = (
  ap (λ b. first_fault b more) (sym (append-nil before)),
  within-same before (before ++ []) n (n + 0) ss line head earlier (earlier ++ []) (sym (append-nil before)) (omega arith) (sym (append-nil earlier)) at,
)
rest-clean before n ss line head mode earlier [] (f ∷ fs) more at told begins says apart pairs = absurd says
rest-clean before n ss line head mode earlier (k ∷ ks) [] more at told begins says apart pairs = absurd says
rest-clean before n ss line head mode earlier (k ∷ ks) (f ∷ fs) more at told begins says apart pairs =
    let fact = at_line n f in
    let l = key_line k in
    let split = and_parts (list_all (precedes f) fs) (each_pair precedes fs) pairs in
    let is : fact_in head earlier n k.words k.value ≡ Ok fact = fact-read head earlier n k.words k.value fact (begins k.words) (subst (λ m. given (keys_of head) m n k.words k.value ≡ Ok fact) (sym told) (says.0.is n)) (none-overlaps f fs earlier apart) in
    let one = one-key before n ss line head earlier k.words k.value fact (map key_line ks ++ more) at is in
    let later : list_all (λ e. list_all (precedes e) fs) (earlier ++ fact ∷ []) ≡ true =
    list_all-append (λ e. list_all (precedes e) fs) earlier (fact ∷ [])
    ∙ and_from (list_all (λ e. list_all (precedes e) fs) earlier) (list_all (precedes f) fs && true) (all-weaker (λ e. list_all (precedes e) (f ∷ fs)) (λ e. list_all (precedes e) fs) (λ e h. (and_parts (precedes e f) (list_all (precedes e) fs) h).1) earlier apart) (and_from (list_all (precedes f) fs) true split.0 refl) in
    let rest = rest-clean (before ++ l ∷ []) (n + 1) ss line head mode (earlier ++ fact ∷ []) ks fs more one.1 (mode-step mode earlier fact told says.0.told) (begins-later head earlier fact) says.1 later split.1 in (
      one.0 ∙ rest.0 ∙ ap (λ b. first_fault b more) (append_assoc before (l ∷ []) (map key_line ks)),
      within-same ((before ++ l ∷ []) ++ map key_line ks) (before ++ l ∷ map key_line ks) (n + 1 + length fs) (n + length (f ∷ fs)) ss line head ((earlier ++ fact ∷ []) ++ each_from at_line (n + 1) fs) (earlier ++ fact ∷ each_from at_line (n + 1) fs) (append_assoc before (l ∷ []) (map key_line ks)) (omega arith) (append_assoc earlier (fact ∷ []) (each_from at_line (n + 1) fs)) rest.1,
    )

-- all keys
keys-clean : (before : List Line) (n : ℕ) (ss : List Section) (line : ℕ) (head : Head) (mode : Option ℕ) (keys : List Key) (facts : List Fact) (more : List Line) → Within before n ss line head [] → SaysAll head mode keys facts → FirstTells mode facts → BeginsWell head keys → each_pair precedes facts ≡ true → (first_fault before (map key_line keys ++ more) ≡ first_fault (before ++ map key_line keys) more) × Within (before ++ map key_line keys) (n + length facts) ss line head (each_from at_line n facts)
keys-clean before n ss line head mode [] [] more at says first begins pairs = (
  ap (λ b. first_fault b more) (sym (append-nil before)),
  within-same before (before ++ []) n (n + 0) ss line head [] [] (sym (append-nil before)) (omega arith) refl at,
)
keys-clean before n ss line head mode [] (f ∷ fs) more at says first begins pairs = absurd says
keys-clean before n ss line head mode (k ∷ ks) [] more at says first begins pairs = absurd says
keys-clean before n ss line head mode (k ∷ ks) (f ∷ fs) more at says first begins pairs =
    let fact = at_line n f in
    let l = key_line k in
    let split = and_parts (list_all (precedes f) fs) (each_pair precedes fs) pairs in
    let is : fact_in head [] n k.words k.value ≡ Ok fact = fact-read head [] n k.words k.value fact begins (given-first head mode n k.words k.value fact (says.0.is n)) refl in
    let one = one-key before n ss line head [] k.words k.value fact (map key_line ks ++ more) at is in
    let rest = rest-clean (before ++ l ∷ []) (n + 1) ss line head mode (fact ∷ []) ks fs more one.1 (mode-one mode fact first) (begins-later head [] fact) says.1 (and_from (list_all (precedes f) fs) true split.0 refl) split.1 in (
      one.0 ∙ rest.0 ∙ ap (λ b. first_fault b more) (append_assoc before (l ∷ []) (map key_line ks)),
      within-same ((before ++ l ∷ []) ++ map key_line ks) (before ++ l ∷ map key_line ks) (n + 1 + length fs) (n + length (f ∷ fs)) ss line head (fact ∷ each_from at_line (n + 1) fs) (fact ∷ each_from at_line (n + 1) fs) (append_assoc before (l ∷ []) (map key_line ks)) (omega arith) refl rest.1,
    )

-- a head that is new
one-head : (before : List Line) (n : ℕ) (ss : List Section) (words : Words) (head : Head) (more : List Line) → length before + 1 ≡ n → sections_of 1 before ≡ ss → head_of words ≡ Ok head → is_red head ≡ false → list_any (λ s. same_head s.head head) ss ≡ false → (first_fault before (HeadLine words ∷ more) ≡ first_fault (before ++ HeadLine words ∷ []) more) × Within (before ++ HeadLine words ∷ []) (n + 1) ss n head []
unfolding first_fault
one-head before n ss words head more count read is listed new =
    let l = HeadLine words in
    let clear : fault_at (sections_of 1 before) (length before + 1) l ≡ None =
    ap (λ r. fault_of_head (sections_of 1 before) r) is
    ∙ ap (λ xs. fault_of_head xs (Ok head)) read
    ∙ ap (λ t. cond t (Some faults.Twice) None) new in
    let place : 1 + length before ≡ n = omega (arith, count) in (
      ap (λ f. or_later (length before + 1) f (first_fault (before ++ l ∷ []) more)) clear,
      record {
        count = omega (arith, length_push before l, count);
        read =
            sections_of-snoc 1 before l
            ∙ ap (λ xs. xs ++ section_with (1 + length before) [] (head_or_red (head_of words)) ∷ []) read
            ∙ ap (λ r. ss ++ section_with (1 + length before) [] (head_or_red r) ∷ []) is
            ∙ ap (λ k. ss ++ section k head [] ∷ []) place;
        listed = listed;
      },
    )

-- a head that differs from those before it
new-head : (part : Part) (parts : List Part) (ss : List Section) → list_all (λ s. list_all (λ q. differs s.head q.head) (part ∷ parts)) ss ≡ true → list_any (λ s. same_head s.head part.head) ss ≡ false
new-head part parts [] h = refl
new-head part parts (s ∷ ss) h =
    let split = and_parts (list_all (λ q. differs s.head q.head) (part ∷ parts)) (list_all (λ x. list_all (λ q. differs x.head q.head) (part ∷ parts)) ss) h in
    let here = (and_parts (differs s.head part.head) (list_all (λ q. differs s.head q.head) parts) split.0).0 in
    or_from (same_head s.head part.head) (list_any (λ x. same_head x.head part.head) ss) (elim (same_head s.head part.head) as (λ t. not t ≡ true → t ≡ false) [ true ↦ λ e. absurd (cc) | false ↦ λ e. refl ] here) (new-head part parts ss split.1)

-- sections that are written have no fault, and are read as their parts
pub blocks-clean : (before : List Line) (n : ℕ) (ss : List Section) (blocks : List Block) (parts : List Part) → length before + 1 ≡ n → sections_of 1 before ≡ ss → AreRead blocks parts → list_all (λ s. list_all (λ q. differs s.head q.head) parts) ss ≡ true → each_pair (λ p q. differs p.head q.head) parts ≡ true → (first_fault before (flat_map block_lines blocks) ≡ None) × (sections_of 1 (before ++ flat_map block_lines blocks) ≡ ss ++ sections_from n parts)
unfolding first_fault
blocks-clean before n ss [] [] count read reads new pairs =
    (refl, ap (sections_of 1) (append-nil before) ∙ read ∙ sym (append-nil ss))
blocks-clean before n ss [] (part ∷ parts) count read reads new pairs = absurd reads
blocks-clean before n ss (block ∷ blocks) [] count read reads new pairs = absurd reads
blocks-clean before n ss (block ∷ blocks) (part ∷ parts) count read reads new pairs =
    let r = reads.0 in
    let rest = flat_map block_lines blocks in
    let keys = map key_line block.keys in
    let s = section n part.head (each_from at_line (n + 1) part.facts) in
    let split = and_parts (list_all (λ q. differs part.head q.head) parts) (each_pair (λ p q. differs p.head q.head) parts) pairs in
    let h = one-head before n ss block.head part.head (keys ++ rest) count read r.head r.listed (new-head part parts ss new) in
    let k = keys-clean (before ++ HeadLine block.head ∷ []) (n + 1) ss n part.head r.mode block.keys part.facts rest h.1 r.keys r.first r.begins r.apart in
    let later : list_all (λ x. list_all (λ q. differs x.head q.head) parts) (ss ++ s ∷ []) ≡ true =
    list_all-append (λ x. list_all (λ q. differs x.head q.head) parts) ss (s ∷ [])
    ∙ and_from (list_all (λ x. list_all (λ q. differs x.head q.head) parts) ss) (list_all (λ q. differs part.head q.head) parts && true) (all-weaker (λ x. list_all (λ q. differs x.head q.head) (part ∷ parts)) (λ x. list_all (λ q. differs x.head q.head) parts) (λ x e. (and_parts (differs x.head part.head) (list_all (λ q. differs x.head q.head) parts) e).1) ss new) (and_from (list_all (λ q. differs part.head q.head) parts) true split.0 refl) in
    let more = blocks-clean ((before ++ HeadLine block.head ∷ []) ++ keys) (n + 1 + length part.facts) (ss ++ s ∷ []) blocks parts k.1.count k.1.read reads.1 later split.1 in (
      h.0 ∙ k.0 ∙ more.0,
      ap (sections_of 1) (sym (append_assoc (before ++ HeadLine block.head ∷ []) keys rest ∙ append_assoc before (HeadLine block.head ∷ []) (keys ++ rest)))
          ∙ more.1
          ∙ append_assoc ss (s ∷ []) (sections_from (n + 1 + length part.facts) parts),
    )
