-- What a line gives is free of what stands before it.
use Rattle.std.proofs.Common.{◌≡◌, ℕ, ◌≤◌, Bool, true, false, cond, ◌&&◌, nat_le, List, find, Option, None, Some, Result, Ok, Err, refl, subst, arith}
use Rattle.std.specs.List.{list_all, list_any}
use Rattle.std.proofs.lemmas.Bool.{and_parts, leb-true}
use Rattle.qos_profile.specs.declared.fault.FaultKind.{FaultKind}
use Rattle.qos_profile.specs.declared.fault.FaultKind.TheVariants as faults
use Rattle.qos_profile.specs.declared.table.Place.{Place}
use Rattle.qos_profile.specs.declared.table.Place.TheVariants.{Nothing, Range, One}
use Rattle.qos_profile.specs.declared.fact.Fact.{Fact}
use Rattle.qos_profile.specs.declared.head.Head.{Head}
use Rattle.qos_profile.specs.declared.head.Head.TheVariants as heads
use Rattle.qos_profile.specs.Table.{Key, pool_keys, port_keys, subport_kind_keys, pipe_kind_keys, subport_keys, code_keys, meter_keys, rule_keys}
use Rattle.profile_lines.specs.Numbers.{range_of}
use Rattle.qos_profile.specs.Values.{value_of}
use Rattle.qos_profile.specs.Heads.{fits, number_at_most}
use Rattle.qos_profile.specs.Facts.{keys_of, given, given_in, given_by, slots_of, range_in, twice_that, word_in_place, mode_of, is_listed, unless_twice, overlaps, begins_well, fact_in}
use Rattle.qos_profile.specs.Taken.{IsFree}
use Rattle.qos_profile.proofs.Keeping.{found-passes, made}
use Rattle.qos_profile.proofs.Slots.{same-slots}

-- a key's own slots are in order
abbrev in_order : Key → Bool
in_order key = nat_le key.first key.last

all-in-order : (head : Head) → list_all in_order (keys_of head) ≡ true
unfolding pool_keys port_keys subport_kind_keys pipe_kind_keys subport_keys code_keys meter_keys rule_keys
all-in-order heads.Pool = refl
all-in-order (heads.Port n) = refl
all-in-order (heads.SubportKind n) = refl
all-in-order (heads.PipeKind n) = refl
all-in-order (heads.Subport p k) = refl
all-in-order heads.Codes = refl
all-in-order (heads.Meter name) = refl
all-in-order (heads.Rule n) = refl
all-in-order heads.Red = refl

range-order : (most : ℕ) (o : Option (ℕ × ℕ)) (s : ℕ × ℕ) → range_in most o ≡ Ok s → s.0 ≤ s.1
range-order most None s e = absurd (cc)
range-order most (Some r) s e = by (nat_le r.0 r.1 && nat_le r.1 most) refl e
  where
    by : (t : Bool) → (nat_le r.0 r.1 && nat_le r.1 most) ≡ t → (let A : Type 0 = Result (ℕ × ℕ) FaultKind in ◌≡◌ {A = A} (cond t (Ok r) (Err faults.OutOfRange)) (Ok s)) → s.0 ≤ s.1
    by true h g = subst (λ x. x.0 ≤ x.1) (same-slots r s g) (leb-true r.0 r.1 (and_parts (nat_le r.0 r.1) (nat_le r.1 most) h).0)
    by false h g = absurd (cc)

twice-order : (r : Result ℕ FaultKind) (s : ℕ × ℕ) → twice_that r ≡ Ok s → s.0 ≤ s.1
twice-order (Ok n) s e = subst (λ x. x.0 ≤ x.1) (same-slots (n, n) s e) (omega arith)
twice-order (Err f) s e = absurd (cc)

slots-order : (place : Place) (own : ℕ × ℕ) (word : List ℕ) (s : ℕ × ℕ) → own.0 ≤ own.1 → slots_of place own word ≡ Ok s → s.0 ≤ s.1
slots-order Nothing own word s low e = subst (λ x. x.0 ≤ x.1) (same-slots own s e) low
slots-order (Range most) own word s low e = range-order most (range_of word) s e
slots-order (One most) own word s low e = twice-order (number_at_most most word) s e

given-order : (keys : List Key) (mode : Option ℕ) (n : ℕ) (words value : List (List ℕ)) (q : Key → Bool) (o : Option Key) (fact : Fact) → list_all in_order keys ≡ true → find q keys ≡ o → given_in mode n words value o ≡ Ok fact → fact.first ≤ fact.last
given-order keys mode n words value q None fact all f e = absurd (cc)
given-order keys mode n words value q (Some key) fact all f e = by (is_listed key.only mode) e
  where
    by : (t : Bool) → cond t (given_by n words value key) (Err faults.UnknownKey) ≡ Ok fact → fact.first ≤ fact.last
    by true g =
        let word = word_in_place key.words words in
        let from = made n key word (slots_of key.place (key.first, key.last) word) (value_of key.form value) fact refl g in
        slots-order key.place (key.first, key.last) word (fact.first, fact.last) (leb-true key.first key.last (found-passes in_order q keys key all f)) from.slots
    by false g = absurd (cc)

-- a fact that is not given twice
once : (earlier : List Fact) (r : Result Fact FaultKind) (fact : Fact) → unless_twice earlier r ≡ Ok fact → (r ≡ Ok fact) × (list_any (overlaps fact) earlier ≡ false)
once earlier (Ok f) fact h = by (list_any (overlaps f) earlier) refl h
  where
    same : (let A : Type 0 = Result Fact FaultKind in ◌≡◌ {A = A} (Ok f) (Ok fact)) → f ≡ fact
    same e = cc

    by : (t : Bool) → list_any (overlaps f) earlier ≡ t → cond {A = Result Fact FaultKind} t (Err faults.Twice) (Ok f) ≡ Ok fact → (let A : Type 0 = Result Fact FaultKind in ◌≡◌ {A = A} (Ok f) (Ok fact)) × (list_any (overlaps fact) earlier ≡ false)
    by true e g = absurd (cc)
    by false e g = (g, subst (λ x. list_any (overlaps x) earlier ≡ false) (same g) e)
once earlier (Err f) fact h = absurd (cc)

-- what a line gives is free
pub fact-free : (head : Head) (earlier : List Fact) (n : ℕ) (words value : List (List ℕ)) (fact : Fact) → fact_in head earlier n words value ≡ Ok fact → IsFree earlier fact
unfolding fact_in given
fact-free head earlier n words value fact h = by (begins_well head earlier words) h
  where
    by : (t : Bool) → cond t (unless_twice earlier (given (keys_of head) (mode_of earlier) n words value)) (Err faults.BadLine) ≡ Ok fact → IsFree earlier fact
    by true e =
        let alone = once earlier (given (keys_of head) (mode_of earlier) n words value) fact e in
        (given-order (keys_of head) (mode_of earlier) n words value (λ key. fits key.words words) (find (λ key. fits key.words words) (keys_of head)) fact (all-in-order head) refl alone.0, alone.1)
    by false e = absurd (cc)
