-- The limits of the meters.
use Rattle.std.proofs.Common.{◌≡◌, ◌==◌, ℕ, ◌+◌, ◌^◌, ◌<◌, ◌≤◌, Bool, true, false, cond, not, ◌&&◌, ◌||◌, nat_le, List, [], ◌∷◌, length, find, take, Option, None, Some, Ok, refl, sym, ap, subst, ◌∙◌, arith, ⊎_elim}
use Rattle.std.specs.Prelude.{All}
use Rattle.std.specs.List.{list_any, list_all, position_or_len}
use Rattle.std.specs.Option.{option_map}
use Rattle.std.proofs.lemmas.Bool.{and_parts, and_from, eq-eqb, leb-true, cases_eq}
use Rattle.std.proofs.lemmas.List.{length-map}
use Rattle.std.proofs.lemmas.List.Elements.{All-map, All-filter, filter_passes}
use Rattle.std.proofs.lemmas.List.Sums.{sum_by-cons}
use Rattle.profile_plan.specs.Limits.{Within, IsMeterRate, IsLawful, is_name_byte, IsMeter}
use Rattle.profile_plan.specs.Meter.{periods_of}
use Rattle.profile_plan.specs.declared.meter.MeterRate.TheVariants.{Periods, PerSecond}
use Rattle.profile_plan.specs.declared.meter.MeterPlan.{MeterPlan}
use Rattle.profile_plan.specs.declared.meter.MeterKind.{MeterKind}
use Rattle.profile_plan.specs.declared.meter.MeterKind.TheVariants.{SrTcm, TrTcm, Rfc4115}
use Rattle.qos_profile.specs.declared.name.Name.{Name}
use Rattle.qos_profile.specs.declared.value.Value.{Value}
use Rattle.qos_profile.specs.declared.table.Place.{Place}
use Rattle.qos_profile.specs.declared.table.Place.TheVariants.{Nothing, Range, One}
use Rattle.qos_profile.specs.declared.fact.Fact.{Fact}
use Rattle.qos_profile.specs.declared.head.Head.{Head}
use Rattle.qos_profile.specs.declared.head.Head.TheVariants as heads
use Rattle.qos_profile.specs.declared.section.Section.{Section}
use Rattle.qos_profile.specs.Table.{Key, Form, meter_keys}
use Rattle.qos_profile.specs.Table as table
use Rattle.qos_profile.specs.Values.{value_of}
use Rattle.qos_profile.specs.Facts.{keys_of, mode_of, slots_of}
use Rattle.qos_profile.specs.Sections.{same_head}
use Rattle.qos_profile.specs.Lookups.{covers, value_at, has, number_or, number_at, is_there}
use Rattle.qos_profile.specs.Across.{rate_at, is_at_most, keeps_kind, keeps_ranges}
use Rattle.qos_profile.specs.Large.{meters_in, meter_total}
use Rattle.qos_profile.specs.Kept.{IsGiven, EachFact, is_number_form}
use Rattle.qos_profile.specs.Planned.{is_meter, meter_kind_of, other_rate_of, choice_at, drops_of, meter_of, meter_sections, meters_of, meter_number}
use Rattle.qos_profile.proofs.Keeping.{IsMadeOf, given-from, found-passes, form-number}
use Rattle.qos_profile.proofs.Slots.{any_mode, may_cover, may_give, may, each_key, IsFactOf, facts-any, number-default, number-within, key-may, slot-value, found-fact, same-slots}
use Rattle.qos_profile.proofs.Sound.{IsHeadKept, name-word, IsSound, IsSoundIn}
use Rattle.qos_profile.proofs.PartLimits.{totals-small}
use Rattle.qos_profile.proofs.SubportLimits.{both-facts}
use Rattle.qos_profile.proofs.PortLimits.{each-all}

-- a number up to a limit
abbrev is_up_to : ℕ → Form → Bool
is_up_to most (table.Number l m) = nat_le m most
is_up_to most _ = false

up-to-form : (most : ℕ) (form : Form) (words : List (List ℕ)) (value : Value) → is_up_to most form ≡ true → value_of form words ≡ Ok value → number_or 0 (Some value) ≤ most
up-to-form most (table.Number l m) words value h e =
    let is = form-number l m (table.Number l m) words value (and_from (l == l) (m == m) (eq-eqb l l refl) (eq-eqb m m refl)) e in
    let high : m ≤ most = leb-true m most h in
    subst (λ v. number_or 0 (Some v) ≤ most) (sym is.1) (omega (arith, is.3))
up-to-form most _ words value h e = absurd (cc)

up-to : (head : Head) (group slot most : ℕ) (facts : List Fact) → each_key group slot any_mode (λ key. is_up_to most key.form) (keys_of head) ≡ true → EachFact (IsFactOf head any_mode) facts → number_at facts group slot 0 ≤ most
up-to head group slot most facts all each = by (value_at facts group slot) refl
  where
    by : (o : Option Value) → value_at facts group slot ≡ o → number_or 0 o ≤ most
    by None e = omega arith
    by (Some value) e =
        let is = slot-value head any_mode group slot (λ key. is_up_to most key.form) facts value all each e in
        up-to-form most is.key.form is.words value is.passes is.gives

-- a key that gives its last slot alone
abbrev gives_alone : ℕ → Key → Bool
gives_alone group key = may group 2 any_mode key && not (may_give group 1 key)

abbrev has_no_place : Place → Bool
has_no_place Nothing = true
has_no_place _ = false

none-covers : (q : Fact → Bool) (facts : List Fact) → list_any q facts ≡ false → EachFact (λ f. q f ≡ false) facts
none-covers q [] h = tt
none-covers q (f ∷ fs) h = by (q f) refl h (none-covers q fs)
  where
    by : (t : Bool) → q f ≡ t → (t || list_any q fs) ≡ false → (list_any q fs ≡ false → EachFact (λ g. q g ≡ false) fs) → EachFact (λ g. q g ≡ false) (f ∷ fs)
    by false e g later = (e, later g)
    by true e g later = absurd (cc)

not-given : (group : ℕ) (key : Key) (word : List ℕ) (fact : Fact) (value : _) → IsMadeOf key word value fact → has_no_place key.place ≡ true → covers group 1 fact ≡ false → may_give group 1 key ≡ false
not-given group key word fact value made plain none = by key.place refl plain made.slots
  where
    by : (place : Place) → key.place ≡ place → has_no_place place ≡ true → slots_of place (key.first, key.last) word ≡ Ok (fact.first, fact.last) → (key.group == group && may_cover key.place 1 key.first key.last) ≡ false
    by Nothing is p e =
        let same : (key.first, key.last) ≡ (fact.first, fact.last) = same-slots (key.first, key.last) (fact.first, fact.last) e in
        ap (λ place. key.group == group && may_cover place 1 key.first key.last) is ∙ ap (λ g. g == group && (nat_le key.first 1 && nat_le 1 key.last)) (sym made.group) ∙ ap (λ s. fact.group == group && (nat_le s.0 1 && nat_le 1 s.1)) same ∙ flat (fact.group == group) (nat_le fact.first 1) (nat_le 1 fact.last) ∙ none
      where
        flat : (a b c : Bool) → (a && (b && c)) ≡ (a && b && c)
        flat true b c = refl
        flat false b c = refl
    by (Range most) is p e = absurd (cc)
    by (One most) is p e = absurd (cc)

-- the period of a rate that no line gives by the second
period-limits : (head : Head) (group : ℕ) (facts : List Fact) → list_all (λ key. has_no_place key.place) (keys_of head) ≡ true → list_all (λ key. not (gives_alone group key) || is_number_form 1 (2 ^ 40) key.form) (keys_of head) ≡ true → EachFact (IsFactOf head any_mode) facts → has facts group 1 ≡ false → Within 1 (2 ^ 40) (number_at facts group 2 1)
period-limits head group facts plain all each none = by (find (covers group 2) facts) refl
  where
    or-right : (a b : Bool) → (not a || b) ≡ true → a ≡ true → b ≡ true
    or-right true b h e = h
    or-right false b h e = absurd (cc)

    by : (o : Option Fact) → find (covers group 2) facts ≡ o → Within 1 (2 ^ 40) (number_or 1 (option_map (λ fact. fact.value) o))
    by None e = (omega arith, omega arith)
    by (Some fact) e =
        let found = found-fact (λ f. IsFactOf head any_mode f × (covers group 1 f ≡ false)) (covers group 2) facts fact (both-facts (IsFactOf head any_mode) (λ f. covers group 1 f ≡ false) facts each (none-covers (covers group 1) facts none)) e in
        let from = given-from head fact found.0.0.0 in
        let place = found-passes (λ key. has_no_place key.place) from.found.0 (keys_of head) from.key plain from.found.1 in
        let alone : gives_alone group from.key ≡ true = and_from (may group 2 any_mode from.key) (not (may_give group 1 from.key)) (key-may head any_mode group 2 fact from found.1 found.0.0.1) (ap not (not-given group from.key from.word fact (value_of from.key.form from.words) from.made_of place found.0.1)) in
        let form = or-right (gives_alone group from.key) (is_number_form 1 (2 ^ 40) from.key.form) (found-passes (λ key. not (gives_alone group key) || is_number_form 1 (2 ^ 40) key.form) from.found.0 (keys_of head) from.key all from.found.1) alone in
        number-within 1 (2 ^ 40) 1 fact.value (form-number 1 (2 ^ 40) from.key.form from.words fact.value form from.made_of.made)

-- the tests that the keys of a rate pass
pub record AreRateKeys (head : Head) (group : ℕ) : Type 0 where
  pub plain : list_all (λ key. has_no_place key.place) (keys_of head) ≡ true
  pub second : each_key group 1 any_mode (λ key. is_number_form 0 12500000000 key.form) (keys_of head) ≡ true
  pub bytes : each_key group 0 any_mode (λ key. is_up_to (2 ^ 40) key.form) (keys_of head) ≡ true
  pub period : list_all (λ key. not (gives_alone group key) || is_number_form 1 (2 ^ 40) key.form) (keys_of head) ≡ true

rate-limits : (head : Head) (group : ℕ) (facts : List Fact) → AreRateKeys head group → EachFact (IsFactOf head any_mode) facts → IsMeterRate (rate_at facts group)
rate-limits head group facts keys each = by (has facts group 1) refl
  where
    by : (t : Bool) → has facts group 1 ≡ t → IsMeterRate (cond t (PerSecond (number_at facts group 1 0)) (Periods (number_at facts group 0 0) (number_at facts group 2 1)))
    by true e = (number-default head any_mode group 1 0 12500000000 0 facts keys.second each (omega arith, omega arith)).1
    by false e = (up-to head group 0 (2 ^ 40) facts keys.bytes each, period-limits head group facts keys.plain keys.period each e)

committed-keys : (name : Name) → AreRateKeys (heads.Meter name) 2
unfolding meter_keys
committed-keys name = record { plain = refl; second = refl; bytes = refl; period = refl }

other-keys : (name : Name) → AreRateKeys (heads.Meter name) 3
unfolding meter_keys
other-keys name = record { plain = refl; second = refl; bytes = refl; period = refl }

size-limits : (name : Name) (facts : List Fact) → EachFact (IsFactOf (heads.Meter name) any_mode) facts → (number_at facts 4 0 0 ≤ 2 ^ 40) × (number_at facts 5 0 0 ≤ 2 ^ 40)
unfolding meter_keys
size-limits name facts each =
    (up-to (heads.Meter name) 4 0 (2 ^ 40) facts refl each, up-to (heads.Meter name) 5 0 (2 ^ 40) facts refl each)

-- a meter of some kind
with-mode : Name → List Fact → Option ℕ → MeterPlan
with-mode name facts mode =
    record {
      name = take name.length name.bytes;
      kind = meter_kind_of mode;
      aware = choice_at facts 1 0 == 1;
      cir = rate_at facts 2;
      other = other_rate_of (meter_kind_of mode) facts;
      cbs = number_at facts 4 0 0;
      other_size = number_at facts 5 0 0;
      drops = drops_of facts;
    }

no-both : (a b : ℕ) → not (a == 0 && b == 0) ≡ true → 0 < a + b
no-both a b h = ⊎_elim (λ (x : a ≡ 0). ⊎_elim (λ (y : b ≡ 0). absurd (both x y)) (λ (y : b ≡ 0 → ⊥). omega (arith, y)) (cases_eq b 0)) (λ (x : a ≡ 0 → ⊥). omega (arith, x)) (cases_eq a 0)
  where
    both : a ≡ 0 → b ≡ 0 → ⊥
    both x y = let s = eq-eqb a 0 x in let t = eq-eqb b 0 y in let all : (a == 0 && b == 0) ≡ true = and_from (a == 0) (b == 0) s t in absurd (clash (ap not all) h)
      where
        clash : not (a == 0 && b == 0) ≡ false → not (a == 0 && b == 0) ≡ true → ⊥
        clash f g = cc

no-zero : (a : ℕ) → not (a == 0) ≡ true → 0 < a
no-zero a h = ⊎_elim (λ (x : a ≡ 0). let s = eq-eqb a 0 x in absurd (clash (ap not s) h)) (λ (x : a ≡ 0 → ⊥). omega (arith, x)) (cases_eq a 0)
  where
    clash : not (a == 0) ≡ false → not (a == 0) ≡ true → ⊥
    clash f g = cc

lawful : (name : Name) (facts : List Fact) (mode : Option ℕ) → keeps_kind mode facts ≡ true → IsLawful (meter_kind_of mode) (with-mode name facts mode)
unfolding with-mode
lawful name facts None h = tt
lawful name facts (Some mode) h = by (mode == 0) (mode == 1) h
  where
    by : (a b : Bool) → cond a (not (number_at facts 4 0 0 == 0 && number_at facts 5 0 0 == 0)) (cond b (not (number_at facts 4 0 0 == 0) && not (number_at facts 5 0 0 == 0) && is_at_most (periods_of (rate_at facts 2)) (periods_of (rate_at facts 3))) true) ≡ true → IsLawful (cond a SrTcm (cond b TrTcm Rfc4115)) (record { name = take name.length name.bytes; kind = cond a SrTcm (cond b TrTcm Rfc4115); aware = choice_at facts 1 0 == 1; cir = rate_at facts 2; other = other_rate_of (cond a SrTcm (cond b TrTcm Rfc4115)) facts; cbs = number_at facts 4 0 0; other_size = number_at facts 5 0 0; drops = drops_of facts })
    by true b e = (no-both (number_at facts 4 0 0) (number_at facts 5 0 0) e, refl)
    by false true e =
        let ends = and_parts (not (number_at facts 4 0 0 == 0) && not (number_at facts 5 0 0 == 0)) (is_at_most (periods_of (rate_at facts 2)) (periods_of (rate_at facts 3))) e in
        let sizes = and_parts (not (number_at facts 4 0 0 == 0)) (not (number_at facts 5 0 0 == 0)) ends.0 in
        (no-zero (number_at facts 4 0 0) sizes.0, no-zero (number_at facts 5 0 0) sizes.1, leb-true _ _ ends.1)
    by false false e = tt

other-limits : (kind : MeterKind) (facts : List Fact) → IsMeterRate (rate_at facts 3) → IsMeterRate (other_rate_of kind facts)
other-limits SrTcm facts h = (omega arith, (omega arith, omega arith))
other-limits TrTcm facts h = h
other-limits Rfc4115 facts h = h

meter-limits : (ss : List Section) (s : Section) (h : Head) → IsSoundIn ss s → s.head ≡ h → is_meter h ≡ true → IsMeter (meter_of h s.facts)
unfolding meter_of with-mode
meter-limits ss s (heads.Meter name) sound e is =
    let given = subst (λ h. EachFact (IsGiven h) s.facts) e sound.given in
    let each = facts-any (heads.Meter name) s.facts given in
    let sizes = size-limits name s.facts each in
    let named = subst IsHeadKept e sound.head in
    let word = sym (name-word name named) in
    record {
      name = subst (λ w. Within 1 32 (length w)) word named.size;
      letters = subst (λ w. list_all is_name_byte w ≡ true) word named.bytes;
      cir = rate-limits (heads.Meter name) 2 s.facts (committed-keys name) each;
      other = other-limits (meter_kind_of (mode_of s.facts)) s.facts (rate-limits (heads.Meter name) 3 s.facts (other-keys name) each);
      cbs = sizes.0;
      other_size = sizes.1;
      lawful = lawful name s.facts (mode_of s.facts) (subst (λ h. keeps_ranges h s.facts ≡ true) e sound.ranges);
    }
meter-limits ss s _ sound e is = absurd (cc)

pub meters-limits : (ss : List Section) → IsSound ss → All IsMeter (meters_of ss)
meters-limits ss sound =
    All-map IsMeter (λ s. meter_of s.head s.facts) (meter_sections ss) (λ k d below. meter-limits ss _ _ (All-filter (λ s. is_meter s.head) (IsSoundIn ss) ss (λ j e h. each-all (IsSoundIn ss) ss sound.each j e h) k d below) refl (filter_passes (λ s. is_meter s.head) ss k d below))

-- how many meters there are
count-step : (h : Head) (s : Section) (xs : List Section) (n : ℕ) → length xs ≡ n → length (cond (is_meter h) (s ∷ xs) xs) ≡ meters_in h + n
count-step (heads.Meter name) s xs n e = omega arith
count-step _ s xs n e = omega arith

meter-count : (ss : List Section) → length (meter_sections ss) ≡ meter_total ss
meter-count [] = refl
meter-count (s ∷ ss) =
    count-step s.head s (meter_sections ss) (meter_total ss) (meter-count ss) ∙ sym (sum_by-cons (λ x. meters_in x.head) s ss)

pub meters-length : (ss : List Section) → length (meters_of ss) ≡ length (meter_sections ss)
meters-length ss = length-map (meter_sections ss) (λ s. meter_of s.head s.facts)

pub meters-few : (ss : List Section) → IsSound ss → length (meters_of ss) ≤ 64
meters-few ss sound = omega (arith, meters-length ss, meter-count ss, (totals-small ss sound).meters)

-- a meter that is there has a number
place-below : (q : Section → Bool) (xs : List Section) → list_any q xs ≡ true → position_or_len q xs < length xs
place-below q [] h = absurd (cc)
place-below q (x ∷ xs) h = by (q x) h (place-below q xs)
  where
    by : (t : Bool) → (t || list_any q xs) ≡ true → (list_any q xs ≡ true → position_or_len q xs < length xs) → cond (not t) (1 + position_or_len q xs) 0 < length (x ∷ xs)
    by true g later = omega arith
    by false g later = omega (arith, later g)

same-is-meter : (h : Head) (name : Name) → same_head h (heads.Meter name) ≡ true → is_meter h ≡ true
same-is-meter (heads.Meter other) name e = refl
same-is-meter _ name e = absurd (cc)

among-meters : (name : Name) (ss : List Section) → is_there ss (heads.Meter name) ≡ true → list_any (λ s. same_head s.head (heads.Meter name)) (meter_sections ss) ≡ true
among-meters name [] h = absurd (cc)
among-meters name (s ∷ ss) h = by (is_meter s.head) (same_head s.head (heads.Meter name)) refl refl h (among-meters name ss)
  where
    by : (m t : Bool) → is_meter s.head ≡ m → same_head s.head (heads.Meter name) ≡ t → (t || is_there ss (heads.Meter name)) ≡ true → (is_there ss (heads.Meter name) ≡ true → list_any (λ x. same_head x.head (heads.Meter name)) (meter_sections ss) ≡ true) → list_any (λ x. same_head x.head (heads.Meter name)) (cond m (s ∷ meter_sections ss) (meter_sections ss)) ≡ true
    by true true a b g later = ap (λ t. t || list_any (λ x. same_head x.head (heads.Meter name)) (meter_sections ss)) b
    by true false a b g later = ap (λ t. t || list_any (λ x. same_head x.head (heads.Meter name)) (meter_sections ss)) b ∙ later g
    by false true a b g later = let is = same-is-meter s.head name b in absurd (cc)
    by false false a b g later = later g

pub meter-numbered : (ss : List Section) (name : Name) → is_there ss (heads.Meter name) ≡ true → meter_number ss name < length (meters_of ss)
meter-numbered ss name there =
    omega (arith, meters-length ss, place-below (λ s. same_head s.head (heads.Meter name)) (meter_sections ss) (among-meters name ss there))
