-- The numbers that slots have, by the keys that may give them.
use Rattle.std.proofs.Common.{◌≡◌, ◌==◌, ℕ, Bool, true, false, cond, not, ◌&&◌, ◌||◌, nat_le, List, [], ◌∷◌, find, Option, None, Some, Result, Ok, refl, sym, ap, subst, ◌∙◌}
use Rattle.std.specs.List.{list_all, list_any}
use Rattle.std.specs.Option.{option_map}
use Rattle.std.proofs.lemmas.Bool.{and_parts, and_from}
use Rattle.profile_plan.specs.Limits.{Within}
use Rattle.qos_profile.specs.declared.fault.FaultKind.{FaultKind}
use Rattle.qos_profile.specs.declared.value.Value.{Value}
use Rattle.qos_profile.specs.declared.table.Place.{Place}
use Rattle.qos_profile.specs.declared.table.Place.TheVariants.{Nothing, Range, One}
use Rattle.qos_profile.specs.declared.table.Only.{Only}
use Rattle.qos_profile.specs.declared.table.Only.TheVariants as only
use Rattle.qos_profile.specs.declared.fact.Fact.{Fact}
use Rattle.qos_profile.specs.declared.head.Head.{Head}
use Rattle.qos_profile.specs.Table.{Key}
use Rattle.qos_profile.specs.Values.{value_of}
use Rattle.qos_profile.specs.Facts.{keys_of, slots_of, told_by}
use Rattle.qos_profile.specs.Lookups.{covers, value_at, has, number_or, number_at}
use Rattle.qos_profile.specs.Kept.{IsGiven, EachFact, is_number_form, IsNumberIn}
use Rattle.qos_profile.proofs.Keeping.{IsFrom, given-from, found-passes, form-number}

-- the slots that a key may give
abbrev pub may_cover : Place → ℕ → ℕ → ℕ → Bool
may_cover Nothing slot first last = nat_le first slot && nat_le slot last
may_cover (Range most) slot first last = true
may_cover (One most) slot first last = true

abbrev pub may_give : ℕ → ℕ → Key → Bool
may_give group slot key = key.group == group && may_cover key.place slot key.first key.last

-- the forms or kinds that a key may tell
abbrev pub may_tell : (ℕ → Bool) → Only → Bool
may_tell p only.All = true
may_tell p (only.In mode) = p mode
may_tell p (only.NotIn mode) = true
may_tell p only.Told = true

-- a fact tells one of these forms, or none
abbrev pub tells : (ℕ → Bool) → Option ℕ → Bool
tells p None = true
tells p (Some mode) = p mode

abbrev pub any_mode : ℕ → Bool
any_mode mode = true

-- the keys that may give a slot, in these forms
abbrev pub may : ℕ → ℕ → (ℕ → Bool) → Key → Bool
may group slot p key = may_give group slot key && may_tell p key.only

-- among these keys those that may give a slot pass a test
abbrev pub each_key : ℕ → ℕ → (ℕ → Bool) → (Key → Bool) → List Key → Bool
each_key group slot p test keys = list_all (λ key. not (may group slot p key) || test key) keys

-- a fact of a section of this head, in these forms
abbrev pub IsFactOf : Head → (ℕ → Bool) → Fact → Type 0
IsFactOf head p fact = IsGiven head fact × (tells p fact.told ≡ true)

tells-any : (o : Option ℕ) → tells any_mode o ≡ true
tells-any None = refl
tells-any (Some m) = refl

pub facts-any : (head : Head) (facts : List Fact) → EachFact (IsGiven head) facts → EachFact (IsFactOf head any_mode) facts
facts-any head [] each = tt
facts-any head (f ∷ fs) each = ((each.0, tells-any f.told), facts-any head fs each.1)

pub same-slots : (x y : ℕ × ℕ) → (let A : Type 0 = Result (ℕ × ℕ) FaultKind in ◌≡◌ {A = A} (Ok x) (Ok y)) → x ≡ y
same-slots x y e = cc

covers-key : (place : Place) (first last slot : ℕ) (word : List ℕ) (a b : ℕ) → slots_of place (first, last) word ≡ Ok (a, b) → nat_le a slot ≡ true → nat_le slot b ≡ true → may_cover place slot first last ≡ true
covers-key Nothing first last slot word a b e low high =
    let same : (first, last) ≡ (a, b) = same-slots (first, last) (a, b) e in
    and_from (nat_le first slot) (nat_le slot last) (ap (λ p. nat_le p.0 slot) same ∙ low) (ap (λ p. nat_le slot p.1) same ∙ high)
covers-key (Range most) first last slot word a b e low high = refl
covers-key (One most) first last slot word a b e low high = refl

tells-key : (p : ℕ → Bool) (o : Only) (value : Value) → tells p (told_by o value) ≡ true → may_tell p o ≡ true
tells-key p only.All value h = refl
tells-key p (only.In mode) value h = h
tells-key p (only.NotIn mode) value h = refl
tells-key p only.Told value h = refl

-- the key of a fact that gives a slot
pub key-may : (head : Head) (p : ℕ → Bool) (group slot : ℕ) (fact : Fact) (from : IsFrom (keys_of head) fact) → covers group slot fact ≡ true → tells p fact.told ≡ true → may group slot p from.key ≡ true
key-may head p group slot fact from at told =
    let ends = and_parts (fact.group == group && nat_le fact.first slot) (nat_le slot fact.last) at in
    let parts = and_parts (fact.group == group) (nat_le fact.first slot) ends.0 in
    let made = from.made_of in
    let group_same : (from.key.group == group) ≡ true = ap (λ g. g == group) (sym made.group) ∙ parts.0 in
    and_from (may_give group slot from.key) (may_tell p from.key.only) (and_from (from.key.group == group) (may_cover from.key.place slot from.key.first from.key.last) group_same (covers-key from.key.place from.key.first from.key.last slot from.word fact.first fact.last made.slots parts.1 ends.1)) (tells-key p from.key.only fact.value (ap (tells p) (sym made.told) ∙ told))

-- what the value of a slot is, by a test of the keys that may give it
pub record IsValueOf (test : Key → Bool) (value : Value) : Type 0 where
  pub key : Key
  pub words : List (List ℕ)
  pub passes : test key ≡ true
  pub gives : value_of key.form words ≡ Ok value

or-right : (a b : Bool) → (not a || b) ≡ true → a ≡ true → b ≡ true
or-right true b h e = h
or-right false b h e = absurd (cc)

pub fact-value : (head : Head) (p : ℕ → Bool) (group slot : ℕ) (test : Key → Bool) (fact : Fact) → each_key group slot p test (keys_of head) ≡ true → IsFactOf head p fact → covers group slot fact ≡ true → IsValueOf test fact.value
fact-value head p group slot test fact all is at =
    let from = given-from head fact is.0 in
    record {
      key = from.key;
      words = from.words;
      passes = or-right (may group slot p from.key) (test from.key) (found-passes (λ key. not (may group slot p key) || test key) from.found.0 (keys_of head) from.key all from.found.1) (key-may head p group slot fact from at is.1);
      gives = from.made_of.made;
    }

-- a fact that is found among facts
pub found-fact : (P : Fact → Type 0) (q : Fact → Bool) (facts : List Fact) (fact : Fact) → EachFact P facts → find q facts ≡ Some fact → P fact × (q fact ≡ true)
found-fact P q [] fact each e = absurd (cc)
found-fact P q (f ∷ fs) fact each e =
    elim (q f) as (λ t. q f ≡ t → cond t (Some f) (find q fs) ≡ Some fact → P fact × (q fact ≡ true)) [
      | true ↦ λ h g. subst (λ x. P x × (q x ≡ true)) (same f fact g) (each.0, h)
      | false ↦ λ h g. found-fact P q fs fact each.1 g
    ] refl e
  where
    same : (a b : Fact) → Some a ≡ Some b → a ≡ b
    same a b h = cc

-- where a line gives a slot, that slot has a value
pub has-found : (q : Fact → Bool) (facts : List Fact) → list_any q facts ≡ true → (fact : Fact) × (find q facts ≡ Some fact)
has-found q [] h = absurd (cc)
has-found q (f ∷ fs) h =
    elim (q f) as (λ t. (t || list_any q fs) ≡ true → (fact : Fact) × (cond t (Some f) (find q fs) ≡ Some fact)) [
      | true ↦ λ e. (f, refl)
      | false ↦ λ e. has-found q fs e
    ] h

-- the value of a slot, if it has one
pub slot-value : (head : Head) (p : ℕ → Bool) (group slot : ℕ) (test : Key → Bool) (facts : List Fact) (value : Value) → each_key group slot p test (keys_of head) ≡ true → EachFact (IsFactOf head p) facts → value_at facts group slot ≡ Some value → IsValueOf test value
slot-value head p group slot test facts value all each e = by (find (covers group slot) facts) refl e
  where
    same : (a b : Value) → Some a ≡ Some b → a ≡ b
    same a b h = cc

    by : (o : Option Fact) → find (covers group slot) facts ≡ o → option_map (λ fact. fact.value) o ≡ Some value → IsValueOf test value
    by None f h = absurd (cc)
    by (Some fact) f h =
        let found = found-fact (IsFactOf head p) (covers group slot) facts fact each f in
        subst (IsValueOf test) (same fact.value value h) (fact-value head p group slot test fact all found.0 found.1)

-- a value by a number key is a number in its range
pub number-value : (least most : ℕ) (value : Value) → IsValueOf (λ key. is_number_form least most key.form) value → IsNumberIn least most value
number-value least most value is = form-number least most is.key.form is.words value is.passes is.gives

pub number-within : (least most other : ℕ) (value : Value) → IsNumberIn least most value → Within least most (number_or other (Some value))
number-within least most other value (n, same, low, high) =
    subst (λ v. Within least most (number_or other (Some v))) (sym same) (low, high)

-- the number of a slot whose keys are numbers in a range, or another in that range
pub number-default : (head : Head) (p : ℕ → Bool) (group slot least most other : ℕ) (facts : List Fact) → each_key group slot p (λ key. is_number_form least most key.form) (keys_of head) ≡ true → EachFact (IsFactOf head p) facts → Within least most other → Within least most (number_at facts group slot other)
number-default head p group slot least most other facts all each within = by (value_at facts group slot) refl
  where
    by : (o : Option Value) → value_at facts group slot ≡ o → Within least most (number_or other o)
    by None e = within
    by (Some value) e = number-within least most other value (number-value least most value (slot-value head p group slot (λ key. is_number_form least most key.form) facts value all each e))

-- the number of a slot that a line gives
pub number-there : (head : Head) (p : ℕ → Bool) (group slot least most other : ℕ) (facts : List Fact) → each_key group slot p (λ key. is_number_form least most key.form) (keys_of head) ≡ true → EachFact (IsFactOf head p) facts → has facts group slot ≡ true → Within least most (number_at facts group slot other)
number-there head p group slot least most other facts all each there =
    let found = has-found (covers group slot) facts there in
    let value : value_at facts group slot ≡ Some found.0.value = ap (option_map (λ fact. fact.value)) found.1 in
    subst (λ o. Within least most (number_or other o)) (sym value) (number-within least most other found.0.value (number-value least most found.0.value (slot-value head p group slot (λ key. is_number_form least most key.form) facts found.0.value all each value)))
