-- What values of a form keep: a number or a word, a prefix, an entry.
use Rattle.std.proofs.Common.{◌≡◌, ◌==◌, ℕ, ◌/◌, ◌-◌, ◌^◌, ◌<◌, ◌≤◌, Bool, true, false, cond, ◌&&◌, ◌||◌, nat_le, nat_lt, List, length, codes, Option, None, Some, Ok, Err, refl, sym, ap, subst, ◌∙◌, arith}
use Rattle.std.proofs.Math.Nat.{mul-mod_left}
use Rattle.std.specs.Str.{bytes_eq}
use Rattle.std.proofs.lemmas.Bool.{and_parts, and_from, eqb-true, eq-eqb, leb-true, ltb-true}
use Rattle.profile_lines.specs.Numbers.{number_of}
use Rattle.profile_plan.specs.Limits.{IsPrefix}
use Rattle.qos_base.specs.declared.packet.Colour.{Colour}
use Rattle.code_table.specs.declared.entry.Entry.{Entry}
use Rattle.code_table.specs.Entry.{IsValid}
use Rattle.qos_profile.specs.declared.fault.FaultKind.TheVariants as faults
use Rattle.qos_profile.specs.declared.value.Value.{Value}
use Rattle.qos_profile.specs.declared.value.Value.TheVariants as values
use Rattle.qos_profile.specs.Table.{Form}
use Rattle.qos_profile.specs.Table as table
use Rattle.qos_profile.specs.Values.{value_of, as_word, choice_of, as_number, number_in, prefix_with, prefix_of, prefix_or_any, front, rest, is_within, masked, address_of, entry_with, entry_at, entry_of, code_of, word_at, place_among, colours, colour_at, is_place}
use Rattle.qos_profile.proofs.Keeping.{form-number}

-- a word, or a number in a range

abbrev pub is_number_or : ℕ → ℕ → Form → Bool
is_number_or least most (table.NumberOr l m words) = l == least && m == most
is_number_or least most _ = false

as-number-kept : (P : Value → Type 0) (least most : ℕ) (words : List (List ℕ)) (value : Value) → ((n : ℕ) → least ≤ n → n ≤ most → P (values.Number n)) → as_number (number_in least most words) ≡ Ok value → P value
unfolding value_of
as-number-kept P least most words value number e =
    let is = form-number least most (table.Number least most) words value (and_from (least == least) (most == most) (eq-eqb least least refl) (eq-eqb most most refl)) e in
    subst P (sym is.1) (number is.0 is.2 is.3)

pub number-or-kept : (P : Value → Type 0) (least most : ℕ) (form : Form) (words : List (List ℕ)) (value : Value) → ((n : ℕ) → P (values.Word n)) → ((n : ℕ) → least ≤ n → n ≤ most → P (values.Number n)) → is_number_or least most form ≡ true → value_of form words ≡ Ok value → P value
unfolding value_of
number-or-kept P least most (table.NumberOr l m choices) words value word number h e =
    let parts = and_parts (l == least) (m == most) h in
    let low : l ≡ least = eqb-true l least parts.0 in
    let high : m ≡ most = eqb-true m most parts.1 in
    by (choice_of choices words) (ap (λ k. as_word (choice_of choices words) (as_number (number_in k most words))) (sym low) ∙ ap (λ k. as_word (choice_of choices words) (as_number (number_in l k words))) (sym high) ∙ e)
  where
    by : (o : Option ℕ) → as_word o (as_number (number_in least most words)) ≡ Ok value → P value
    by (Some n) g =
        let same : values.Word n ≡ value = cc in subst P same (word n)
    by None g = as-number-kept P least most words value number g
number-or-kept P least most _ words value word number h e = absurd (cc)

-- a prefix, or a word

abbrev pub is_address : Form → Bool
is_address table.Address = true
is_address _ = false

prefix-kept : (P : Value → Type 0) (a b c d bits : Option ℕ) (value : Value) → ((n : ℕ) → P (values.Word n)) → ((addr n : ℕ) → IsPrefix (record { addr = addr; bits = n }) → P (values.Prefix (record { addr = addr; bits = n }))) → prefix_with a b c d bits ≡ Ok value → P value
prefix-kept P (Some a) (Some b) (Some c) (Some d) (Some bits) value word prefix e =
    by (is_within 0 255 a && is_within 0 255 b && is_within 0 255 c && is_within 0 255 d) (is_within 0 32 bits) refl e
  where
    by : (s t : Bool) → is_within 0 32 bits ≡ t → cond (s && t) (Ok (values.Prefix (record { addr = masked (address_of a b c d) bits; bits = bits }))) (Err faults.OutOfRange) ≡ Ok value → P value
    by true true h g =
        let same : values.Prefix (record { addr = masked (address_of a b c d) bits; bits = bits }) ≡ value = cc in
        subst P same (prefix (masked (address_of a b c d) bits) bits (record { bits = leb-true bits 32 (and_parts (nat_le 0 bits) (nat_le bits 32) h).1; rest = mul-mod_left (address_of a b c d / 2 ^ (32 - bits)) (2 ^ (32 - bits)) }))
    by true false h g = absurd (cc)
    by false t h g = absurd (cc)
prefix-kept P (Some a) (Some b) (Some c) (Some d) None value word prefix e = absurd (cc)
prefix-kept P (Some a) (Some b) (Some c) None bits value word prefix e = absurd (cc)
prefix-kept P (Some a) (Some b) None d bits value word prefix e = absurd (cc)
prefix-kept P (Some a) None c d bits value word prefix e = absurd (cc)
prefix-kept P None b c d bits value word prefix e = absurd (cc)

pub address-kept : (P : Value → Type 0) (form : Form) (words : List (List ℕ)) (value : Value) → ((n : ℕ) → P (values.Word n)) → ((addr n : ℕ) → IsPrefix (record { addr = addr; bits = n }) → P (values.Prefix (record { addr = addr; bits = n }))) → is_address form ≡ true → value_of form words ≡ Ok value → P value
unfolding value_of prefix_or_any
address-kept P table.Address words value word prefix h e =
    by (length words == 1) (bytes_eq (word_at words 0) (codes "any")) e
  where
    w : List ℕ
    w = word_at words 0

    by : (s t : Bool) → cond s (cond t (Ok (values.Word 0)) (prefix_of (word_at words 0))) (Err faults.BadNumber) ≡ Ok value → P value
    by true true g = let same : values.Word 0 ≡ value = cc in subst P same (word 0)
    by true false g =
        let a = front 47 (word_at words 0) in
        prefix-kept P (number_of (front 46 a)) (number_of (front 46 (rest 46 a))) (number_of (front 46 (rest 46 (rest 46 a)))) (number_of (rest 46 (rest 46 (rest 46 a)))) (number_of (rest 47 (word_at words 0))) value word prefix g
    by false t g = absurd (cc)
address-kept P _ words value word prefix h e = absurd (cc)

-- an entry

pub place-valid : (class queue : ℕ) (colour : Colour) → is_place class queue ≡ true → IsValid (record { class = class; queue = queue; colour = colour })
place-valid class queue colour h = by (nat_lt class 12) (queue == 0) (class == 12) (nat_le queue 3) refl refl refl refl h
  where
    by : (a b c d : Bool) → nat_lt class 12 ≡ a → (queue == 0) ≡ b → (class == 12) ≡ c → nat_le queue 3 ≡ d → ((a && b) || (c && d)) ≡ true → IsValid (record { class = class; queue = queue; colour = colour })
    by true true c d e f g h i =
        let below : class < 12 = ltb-true class 12 e in
        let none : queue ≡ 0 = eqb-true queue 0 f in
        (omega arith, λ low. none, λ at. absurd (omega arith))
    by a b true true e f g h i =
        let at : class ≡ 12 = eqb-true class 12 g in
        let few : queue ≤ 3 = leb-true queue 3 h in
        (omega arith, λ low. absurd (omega arith), λ same. few)
    by false b false d e f g h i = absurd (cc)
    by false b true false e f g h i = absurd (cc)
    by true false false d e f g h i = absurd (cc)
    by true false true false e f g h i = absurd (cc)

entry-kept : (P : Value → Type 0) (class queue colour : Option ℕ) (value : Value) → ((entry : Entry) → IsValid entry → P (values.Entry entry)) → entry_with class queue colour ≡ Ok value → P value
entry-kept P (Some class) (Some queue) (Some colour) value each e = by (is_place class queue) refl e
  where
    by : (t : Bool) → is_place class queue ≡ t → cond t (Ok (values.Entry (record { class = class; queue = queue; colour = colour_at colour }))) (Err faults.OutOfRange) ≡ Ok value → P value
    by true h g =
        let same : values.Entry (record { class = class; queue = queue; colour = colour_at colour }) ≡ value = cc in
        subst P same (each (record { class = class; queue = queue; colour = colour_at colour }) (place-valid class queue (colour_at colour) h))
    by false h g = absurd (cc)
entry-kept P (Some class) (Some queue) None value each e = absurd (cc)
entry-kept P (Some class) None colour value each e = absurd (cc)
entry-kept P None queue colour value each e = absurd (cc)

entry-at-kept : (P : Value → Type 0) (a b c : List ℕ) (value : Value) → ((entry : Entry) → IsValid entry → P (values.Entry entry)) → entry_at a b c ≡ Ok value → P value
entry-at-kept P a b c value each e = entry-kept P (number_of a) (number_of b) (place_among colours c) value each e

abbrev pub is_mark : Form → Bool
is_mark table.Mark = true
is_mark _ = false

pub mark-kept : (P : Value → Type 0) (form : Form) (words : List (List ℕ)) (value : Value) → ((entry : Entry) → IsValid entry → P (values.Entry entry)) → is_mark form ≡ true → value_of form words ≡ Ok value → P value
unfolding value_of entry_of
mark-kept P table.Mark words value each h e = by (length words == 3) e
  where
    by : (t : Bool) → cond t (entry_at (word_at words 0) (word_at words 1) (word_at words 2)) (Err faults.BadNumber) ≡ Ok value → P value
    by true g = entry-at-kept P (word_at words 0) (word_at words 1) (word_at words 2) value each g
    by false g = absurd (cc)
mark-kept P _ words value each h e = absurd (cc)

abbrev pub is_code : Form → Bool
is_code table.Code = true
is_code _ = false

pub code-kept : (P : Value → Type 0) (form : Form) (words : List (List ℕ)) (value : Value) → ((n : ℕ) → P (values.Word n)) → ((entry : Entry) → IsValid entry → P (values.Entry entry)) → is_code form ≡ true → value_of form words ≡ Ok value → P value
unfolding value_of code_of
code-kept P table.Code words value word each h e =
    by (length words == 1 && bytes_eq (word_at words 0) (codes "dscp")) (length words == 4 && bytes_eq (word_at words 0) (codes "fixed")) e
  where
    by : (s t : Bool) → cond s (Ok (values.Word 0)) (cond t (entry_at (word_at words 1) (word_at words 2) (word_at words 3)) (Err faults.BadNumber)) ≡ Ok value → P value
    by true t g = let same : values.Word 0 ≡ value = cc in subst P same (word 0)
    by false true g = entry-at-kept P (word_at words 1) (word_at words 2) (word_at words 3) value each g
    by false false g = absurd (cc)
code-kept P _ words value word each h e = absurd (cc)
