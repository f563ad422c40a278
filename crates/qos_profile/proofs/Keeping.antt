-- Facts keep the ranges of their keys.
use Rattle.std.proofs.Common.{◌≡◌, ◌==◌, ℕ, ◌+◌, ◌≤◌, Bool, true, false, cond, not, ◌&&◌, ◌||◌, List, [], ◌∷◌, ◌++◌, length, find, Option, None, Some, Result, Ok, Err, refl, sym, ap, subst, ◌∙◌, nat_le}
use Rattle.std.specs.List.{list_all, take_while}
use Rattle.std.proofs.lemmas.Bool.{and_parts, leb-true, eqb-true, eq-eqb}
use Rattle.profile_lines.specs.Lines.{Line, NotText, Blank, Head as HeadLine, Entry, Neither}
use Rattle.profile_lines.specs.Numbers.{number_of}
use Rattle.qos_profile.specs.declared.fault.FaultKind.{FaultKind}
use Rattle.qos_profile.specs.declared.fault.FaultKind.TheVariants as faults
use Rattle.qos_profile.specs.declared.value.Value.{Value}
use Rattle.qos_profile.specs.declared.value.Value.TheVariants as values
use Rattle.qos_profile.specs.declared.fact.Fact.{Fact}
use Rattle.qos_profile.specs.declared.head.Head.{Head}
use Rattle.qos_profile.specs.Table.{Form, Key}
use Rattle.qos_profile.specs.Table as table
use Rattle.qos_profile.specs.Values.{in_range, number_in, as_number, value_of, word_at}
use Rattle.qos_profile.specs.Heads.{fits, head_of}
use Rattle.qos_profile.specs.Facts.{keys_of, given, given_in, fact_with, slots_of, told_by, word_in_place}
use Rattle.qos_profile.specs.Sections.{is_no_head, or_none, fact_of_line, facts_of, sections_of, head_or_red}
use Rattle.qos_profile.specs.Kept.{IsGiven, EachFact, AreGiven, is_number_form, is_number_group, IsNumberIn}

EachFact-append : (P : Fact → Type 0) (xs ys : List Fact) → EachFact P xs → EachFact P ys → EachFact P (xs ++ ys)
EachFact-append P [] ys a b = b
EachFact-append P (x ∷ xs) ys a b = (a.0, EachFact-append P xs ys a.1 b)

given-one : (head : Head) (n : ℕ) (words value : List (List ℕ)) (r : Result Fact FaultKind) → given (keys_of head) None n words value ≡ r → EachFact (IsGiven head) (or_none r)
given-one head n words value (Ok fact) e = ((n, words, value, e), tt)
given-one head n words value (Err fault) e = tt

given-line : (head : Head) (n : ℕ) (line : Line) → EachFact (IsGiven head) (fact_of_line head n line)
given-line head n NotText = tt
given-line head n Blank = tt
given-line head n (HeadLine w) = tt
given-line head n (Entry words value) = given-one head n words value (given (keys_of head) None n words value) refl
given-line head n Neither = tt

given-lines : (head : Head) (n : ℕ) (ls : List Line) → EachFact (IsGiven head) (facts_of head n ls)
given-lines head n [] = tt
given-lines head n (l ∷ ls) =
    EachFact-append (IsGiven head) (fact_of_line head n l) (facts_of head (n + 1) ls) (given-line head n l) (given-lines head (n + 1) ls)

-- all sections of lines have facts of their keys
pub sections-given : (n : ℕ) (ls : List Line) → AreGiven (sections_of n ls)
unfolding sections_of
sections-given n [] = tt
sections-given n (NotText ∷ ls) = sections-given (n + 1) ls
sections-given n (Blank ∷ ls) = sections-given (n + 1) ls
sections-given n (Entry a b ∷ ls) = sections-given (n + 1) ls
sections-given n (Neither ∷ ls) = sections-given (n + 1) ls
sections-given n (HeadLine w ∷ ls) =
    (given-lines (head_or_red (head_of w)) (n + 1) (take_while is_no_head ls), sections-given (n + 1) ls)

-- what a test says of all keys it says of the one that is found
pub found-passes : (P q : Key → Bool) (keys : List Key) (key : Key) → list_all P keys ≡ true → find q keys ≡ Some key → P key ≡ true
found-passes P q [] key all e = absurd (cc)
found-passes P q (k ∷ keys) key all e =
    let parts = and_parts (P k) (list_all P keys) all in
    elim (q k) as (λ t. cond t (Some k) (find q keys) ≡ Some key → P key ≡ true) [
      | true ↦ λ h. subst (λ x. P x ≡ true) (same-some k key h) parts.0
      | false ↦ λ h. found-passes P q keys key parts.1 h
    ] e
  where
    same-some : (a b : Key) → Some a ≡ Some b → a ≡ b
    same-some a b h = cc

-- a fact with its slots, what it tells, and its value
pub record IsMadeOf (key : Key) (word : List ℕ) (value : Result Value FaultKind) (fact : Fact) : Type 0 where
  pub group : fact.group ≡ key.group
  pub slots : slots_of key.place (key.first, key.last) word ≡ Ok (fact.first, fact.last)
  pub told : fact.told ≡ told_by key.only fact.value
  pub made : value ≡ Ok fact.value

ok-same : (a b : Fact) → let A : Type 0 = Result Fact FaultKind in ◌≡◌ {A = A} (Ok a) (Ok b) → a ≡ b
ok-same a b h = cc

pub made : (n : ℕ) (key : Key) (word : List ℕ) (slots : Result (ℕ × ℕ) FaultKind) (value : Result Value FaultKind) (fact : Fact) → slots_of key.place (key.first, key.last) word ≡ slots → fact_with n key slots value ≡ Ok fact → IsMadeOf key word value fact
made n key word (Ok s) (Ok v) fact at e =
    let same = ok-same _ _ e in
    record {
      group = ap (λ f. f.group) (sym same);
      slots = at ∙ ap (λ f. Ok (f.first, f.last)) same;
      told = ap (λ f. f.told) (sym same) ∙ ap (λ f. told_by key.only f.value) same;
      made = ap (λ f. Ok f.value) same;
    }
made n key word (Ok s) (Err f) fact at e = absurd (cc)
made n key word (Err f) value fact at e = absurd (cc)

-- what a fact is made of
pub record IsFrom (keys : List Key) (fact : Fact) : Type 0 where
  pub key : Key
  pub word : List ℕ
  pub words : List (List ℕ)
  pub found : (q : Key → Bool) × (find q keys ≡ Some key)
  pub made_of : IsMadeOf key word (value_of key.form words) fact

from-key : (keys : List Key) (q : Key → Bool) (n : ℕ) (words value : List (List ℕ)) (o : Option Key) (fact : Fact) → find q keys ≡ o → given_in None n words value o ≡ Ok fact → IsFrom keys fact
from-key keys q n words value None fact f e = absurd (cc)
from-key keys q n words value (Some key) fact f e =
    record { key = key; word = word_in_place key.words words; words = value; found = (q, f); made_of = made n key (word_in_place key.words words) (slots_of key.place (key.first, key.last) (word_in_place key.words words)) (value_of key.form value) fact refl e }

pub given-from : (head : Head) (fact : Fact) → IsGiven head fact → IsFrom (keys_of head) fact
unfolding given
given-from head fact (n, words, value, e) =
    from-key (keys_of head) (λ key. fits key.words words) n words value (find (λ key. fits key.words words) (keys_of head)) fact refl e

-- a number in its range
pub number-ok : (least most : ℕ) (o : Option ℕ) (n : ℕ) → in_range least most o ≡ Ok n → (least ≤ n) × (n ≤ most)
number-ok least most None n e = absurd (cc)
number-ok least most (Some k) n e =
    elim (nat_le least k && nat_le k most) as (λ t. (nat_le least k && nat_le k most) ≡ t → (let A : Type 0 = Result ℕ FaultKind in ◌≡◌ {A = A} (cond t (Ok k) (Err faults.OutOfRange)) (Ok n)) → (least ≤ n) × (n ≤ most)) [
      | true ↦ λ h f. let parts = and_parts (nat_le least k) (nat_le k most) h in let same : k ≡ n = cc in subst (λ m. (least ≤ m) × (m ≤ most)) same (leb-true least k parts.0, leb-true k most parts.1)
      | false ↦ λ h f. absurd (cc)
    ] refl e

value-number : (least most : ℕ) (r : Result ℕ FaultKind) (v : Value) → ((n : ℕ) → r ≡ Ok n → (least ≤ n) × (n ≤ most)) → as_number r ≡ Ok v → IsNumberIn least most v
value-number least most (Err f) v each e = absurd (cc)
value-number least most (Ok n) v each e = (n, sym-value, (each n refl).0, (each n refl).1)
  where
    sym-value : v ≡ values.Number n
    sym-value = cc

number-word : (least most : ℕ) (words : List (List ℕ)) (n : ℕ) → number_in least most words ≡ Ok n → (least ≤ n) × (n ≤ most)
number-word least most words n e =
    elim (length words == 1) as (λ t. (let A : Type 0 = Result ℕ FaultKind in ◌≡◌ {A = A} (cond t (in_range least most (number_of (word_at words 0))) (Err faults.BadNumber)) (Ok n)) → (least ≤ n) × (n ≤ most)) [
      | true ↦ λ h. number-ok least most (number_of (word_at words 0)) n h
      | false ↦ λ h. absurd (cc)
    ] e

pub form-number : (least most : ℕ) (form : Form) (words : List (List ℕ)) (v : Value) → is_number_form least most form ≡ true → value_of form words ≡ Ok v → IsNumberIn least most v
unfolding value_of
form-number least most (table.Number l m) words v h e =
    let parts = and_parts (l == least) (m == most) h in
    let range : (l ≡ least) × (m ≡ most) = (eqb-true l least parts.0, eqb-true m most parts.1) in
    let value = value-number l m (number_in l m words) v (λ n f. number-word l m words n f) e in
    subst (λ a. IsNumberIn a most v) range.0 (subst (λ b. IsNumberIn l b v) range.1 value)
form-number least most (table.Word w) words v h e = absurd (cc)
form-number least most (table.NumberOr a b w) words v h e = absurd (cc)
form-number least most table.Sizes words v h e = absurd (cc)
form-number least most table.Weights words v h e = absurd (cc)
form-number least most table.Address words v h e = absurd (cc)
form-number least most table.Mark words v h e = absurd (cc)
form-number least most table.Code words v h e = absurd (cc)
form-number least most table.Named words v h e = absurd (cc)

-- a fact of a group of numbers is a number in their range
pub number-kept : (head : Head) (group least most : ℕ) (fact : Fact) → is_number_group group least most (keys_of head) ≡ true → IsGiven head fact → fact.group ≡ group → IsNumberIn least most fact.value
number-kept head group least most fact all is same =
    let from = given-from head fact is in
    let passes = found-passes (λ key. not (key.group == group) || is_number_form least most key.form) from.found.0 (keys_of head) from.key all from.found.1 in
    let group_test : (from.key.group == group) ≡ true = eq-eqb from.key.group group (sym from.made_of.group ∙ same) in
    let form : is_number_form least most from.key.form ≡ true = subst (λ t. (not t || is_number_form least most from.key.form) ≡ true) group_test passes in
    form-number least most from.key.form from.words fact.value form from.made_of.made
