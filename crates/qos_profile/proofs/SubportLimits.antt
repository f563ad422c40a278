-- The limits of a subport: its profile and those of its pipes are there.
use Rattle.std.proofs.Common.{◌≡◌, ◌==◌, ℕ, ◌+◌, ◌<◌, ◌≤◌, ◌^◌, ◌-◌, Bool, true, false, not, ◌&&◌, ◌||◌, nat_lt, List, [], ◌∷◌, length, Option, None, Some, Result, Ok, Err, refl, sym, ap, subst, ◌∙◌, arith}
use Rattle.std.specs.Prelude.{All, IsSome}
use Rattle.std.specs.List.{range_with_len}
use Rattle.std.specs.Option.{option_map}
use Rattle.std.proofs.lemmas.Bool.{and_parts}
use Rattle.std.proofs.lemmas.List.Elements.{All-map, All-replicate}
use Rattle.std.proofs.lemmas.List.FromFn.{get_or-range_with_len, length-range_with_len, length-map-range_with_len}
use Rattle.std.proofs.lemmas.List.Sums.{AllPass-from_list_all}
use Rattle.profile_plan.specs.Limits.{Within}
use Rattle.profile_plan.specs.Profile.{IsSubport}
use Rattle.profile_plan.specs.Profile as plan
use Rattle.qos_profile.specs.declared.fault.FaultKind.{FaultKind}
use Rattle.qos_profile.specs.declared.value.Value.{Value}
use Rattle.qos_profile.specs.declared.value.Value.TheVariants as values
use Rattle.qos_profile.specs.declared.fact.Fact.{Fact}
use Rattle.qos_profile.specs.declared.head.Head.{Head}
use Rattle.qos_profile.specs.declared.head.Head.TheVariants as heads
use Rattle.qos_profile.specs.declared.section.Section.{Section}
use Rattle.qos_profile.specs.Table.{Key, Form, subport_keys}
use Rattle.qos_profile.specs.Table as table
use Rattle.qos_profile.specs.Values.{value_of, numbers_in, as_sizes}
use Rattle.qos_profile.specs.Facts.{keys_of}
use Rattle.qos_profile.specs.Lookups.{covers, value_at, has, has_all, number_or, number_at, is_there, facts_at}
use Rattle.qos_profile.specs.Missing.{is_complete}
use Rattle.qos_profile.specs.Naming.{names_of_fact, names_in_subport}
use Rattle.qos_profile.specs.Kept.{IsGiven, EachFact, is_number_form}
use Rattle.qos_profile.specs.Planned.{sizes_or, pipes_of, subport_of, subport_kinds_of, pipe_kinds_of}
use Rattle.qos_profile.specs.Fits.{FitsSubport}
use Rattle.qos_profile.proofs.Slots.{any_mode, each_key, IsFactOf, facts-any, number-there, slot-value, fact-value, number-value, found-fact, has-found}
use Rattle.qos_profile.proofs.Sound.{IsSound, sound-at}
use Rattle.qos_profile.proofs.KindLimits.{sizes-words, subport-kind-found, pipe-kind-found}

-- facts of which two things hold
pub both-facts : (P Q : Fact → Type 0) (fs : List Fact) → EachFact P fs → EachFact Q fs → EachFact (λ f. P f × Q f) fs
both-facts P Q [] p q = tt
both-facts P Q (f ∷ fs) p q = ((p.0, q.0), both-facts P Q fs p.1 q.1)

-- a line that gives a number, and what is named by it
pub record IsNumbered (P : Fact → Type 0) (facts : List Fact) (group slot : ℕ) : Type 0 where
  pub fact : Fact
  pub there : P fact
  pub group_is : (fact.group == group) ≡ true
  pub value : fact.value ≡ values.Number (number_at facts group slot 0)

pub numbered-there : (head : Head) (P : Fact → Type 0) (group slot least most : ℕ) (facts : List Fact) → each_key group slot any_mode (λ key. is_number_form least most key.form) (keys_of head) ≡ true → EachFact (IsGiven head) facts → EachFact P facts → has facts group slot ≡ true → IsNumbered P facts group slot
numbered-there head P group slot least most facts all given each there =
    let found = has-found (covers group slot) facts there in
    let at = found-fact (λ f. IsFactOf head any_mode f × P f) (covers group slot) facts found.0 (both-facts (IsFactOf head any_mode) P facts (facts-any head facts given) each) found.1 in
    let number = number-value least most found.0.value (fact-value head any_mode group slot (λ key. is_number_form least most key.form) found.0 all at.0.0 at.1) in
    let value : number_at facts group slot 0 ≡ number.0 = ap (λ o. number_or 0 (option_map (λ fact. fact.value) o)) found.1 ∙ ap (λ v. number_or 0 (Some v)) number.1 in
    record { fact = found.0; there = at.0.1; group_is = (and_parts (found.0.group == group) _ (and_parts _ _ at.1).0).0; value = number.1 ∙ ap values.Number (sym value) }

-- what a section of a subport owes
pub record OwesSubport (facts : List Fact) : Type 0 where
  pub kind : has facts 0 0 ≡ true
  pub pipes : has facts 1 0 ≡ true
  pub sizes : has facts 2 0 ≡ true
  pub each : has_all facts 3 0 (number_at facts 1 0 0) ≡ true

pub owes-subport : (p k : ℕ) (facts : List Fact) → is_complete (heads.Subport p k) facts ≡ true → OwesSubport facts
owes-subport p k facts h =
    let a = and_parts (has facts 0 0 && has facts 1 0 && has facts 2 0) (has_all facts 3 0 (number_at facts 1 0 0)) h in
    let b = and_parts (has facts 0 0 && has facts 1 0) (has facts 2 0) a.0 in
    let c = and_parts (has facts 0 0) (has facts 1 0) b.0 in
    record { kind = c.0; pipes = c.1; sizes = b.1; each = a.1 }

or-left : (a b : Bool) → (not a || b) ≡ true → a ≡ true → b ≡ true
or-left true b h e = h
or-left false b h e = absurd (cc)

-- the profile of a subport
subport-kind : (ss : List Section) (p k : ℕ) (facts : List Fact) → EachFact (IsGiven (heads.Subport p k)) facts → EachFact (λ f. names_of_fact ss (heads.Subport p k) facts f ≡ true) facts → has facts 0 0 ≡ true → is_there ss (heads.SubportKind (number_at facts 0 0 0)) ≡ true
unfolding subport_keys
subport-kind ss p k facts given named there =
    let n = numbered-there (heads.Subport p k) (λ f. names_of_fact ss (heads.Subport p k) facts f ≡ true) 0 0 0 (2 ^ 64 - 1) facts refl given named there in
    let names : names_in_subport ss facts n.fact (values.Number (number_at facts 0 0 0)) ≡ true = ap (names_in_subport ss facts n.fact) (sym n.value) ∙ n.there in
    or-left (n.fact.group == 0) (is_there ss (heads.SubportKind (number_at facts 0 0 0))) (and_parts (not (n.fact.group == 0) || is_there ss (heads.SubportKind (number_at facts 0 0 0))) _ names).0 n.group_is

-- the profile of a pipe
pipe-kind : (ss : List Section) (p k pipe : ℕ) (facts : List Fact) → EachFact (IsGiven (heads.Subport p k)) facts → EachFact (λ f. names_of_fact ss (heads.Subport p k) facts f ≡ true) facts → has facts 3 pipe ≡ true → is_there ss (heads.PipeKind (number_at facts 3 pipe 0)) ≡ true
unfolding subport_keys
pipe-kind ss p k pipe facts given named there =
    let n = numbered-there (heads.Subport p k) (λ f. names_of_fact ss (heads.Subport p k) facts f ≡ true) 3 pipe 0 (2 ^ 64 - 1) facts refl given named there in
    let kind = number_at facts 3 pipe 0 in
    let names : names_in_subport ss facts n.fact (values.Number kind) ≡ true = ap (names_in_subport ss facts n.fact) (sym n.value) ∙ n.there in
    let pipes = or-left (n.fact.group == 3) (is_there ss (heads.PipeKind kind) && nat_lt n.fact.last (number_at facts 1 0 0)) (and_parts _ (not (n.fact.group == 3) || (is_there ss (heads.PipeKind kind) && nat_lt n.fact.last (number_at facts 1 0 0))) names).1 n.group_is in
    (and_parts (is_there ss (heads.PipeKind kind)) _ pipes).0

abbrev is_sizes : Form → Bool
is_sizes table.Sizes = true
is_sizes _ = false

sizes-form : (form : Form) (words : List (List ℕ)) (value : Value) → is_sizes form ≡ true → value_of form words ≡ Ok value → All (λ n. n ≤ 65536) (sizes_or (Some value))
unfolding value_of
sizes-form table.Sizes words value h e = by (numbers_in 13 0 65536 words) refl e
  where
    by : (r : Result (List ℕ) FaultKind) → numbers_in 13 0 65536 words ≡ r → as_sizes r ≡ Ok value → All (λ n. n ≤ 65536) (sizes_or (Some value))
    by (Ok ns) f g =
        let same : values.Sizes ns ≡ value = cc in
        subst (λ v. All (λ n. n ≤ 65536) (sizes_or (Some v))) same (sizes-words words ns f)
    by (Err fault) f g = absurd (cc)
sizes-form _ words value h e = absurd (cc)

pub sizes-limits : (p k : ℕ) (facts : List Fact) → EachFact (IsGiven (heads.Subport p k)) facts → All (λ n. n ≤ 65536) (sizes_or (value_at facts 2 0))
unfolding subport_keys
sizes-limits p k facts given = by (value_at facts 2 0) refl
  where
    by : (o : Option Value) → value_at facts 2 0 ≡ o → All (λ n. n ≤ 65536) (sizes_or o)
    by None e = All-replicate (λ n. n ≤ 65536) 13 0 (omega arith)
    by (Some value) e =
        let is = slot-value (heads.Subport p k) any_mode 2 0 (λ key. is_sizes key.form) facts value refl (facts-any (heads.Subport p k) facts given) e in
        sizes-form is.key.form is.words value is.passes is.gives

pub pipes-within : (p k : ℕ) (facts : List Fact) → EachFact (IsGiven (heads.Subport p k)) facts → has facts 1 0 ≡ true → Within 1 4096 (number_at facts 1 0 0)
unfolding subport_keys
pipes-within p k facts given there =
    number-there (heads.Subport p k) any_mode 1 0 1 4096 0 facts refl (facts-any (heads.Subport p k) facts given) there

-- each pipe below the count has a line
pipe-there : (facts : List Fact) (count pipe : ℕ) → has_all facts 3 0 count ≡ true → pipe < count → has facts 3 pipe ≡ true
pipe-there facts count pipe all below =
    let test = AllPass-from_list_all (has facts 3) (range_with_len 0 count) all pipe 0 (omega (arith, length-range_with_len 0 count)) in
    let at : 0 + pipe ≡ pipe = omega arith in
    subst (λ n. has facts 3 n ≡ true) (get_or-range_with_len 0 count pipe 0 below ∙ at) test

pub subport-limits : (ss : List Section) (p k : ℕ) → IsSound ss → is_there ss (heads.Subport p k) ≡ true → IsSubport (subport_kinds_of ss) (pipe_kinds_of ss) (subport_of (facts_at ss (heads.Subport p k))) × FitsSubport (subport_of (facts_at ss (heads.Subport p k)))
unfolding subport_of
subport-limits ss p k sound there =
    let facts = facts_at ss (heads.Subport p k) in
    let s = (sound-at ss (heads.Subport p k) sound refl there).sound in
    let owes = owes-subport p k facts s.complete in
    let kind = subport-kind-found ss (number_at facts 0 0 0) sound (subport-kind ss p k facts s.given s.named owes.kind) in
    let count = pipes-within p k facts s.given owes.pipes in
    let length_is : length (pipes_of facts) ≡ number_at facts 1 0 0 = length-map-range_with_len (λ pipe. number_at facts 3 pipe 0) 0 (number_at facts 1 0 0) in
    let pipe = λ (n : ℕ) (below : n < number_at facts 1 0 0). pipe-kind-found ss (number_at facts 3 n 0) sound (pipe-kind ss p k n facts s.given s.named (pipe-there facts (number_at facts 1 0 0) n owes.each below)) in (
      record {
        kind = kind.1;
        sizes = sizes-limits p k facts s.given;
        pipes = subst (Within 1 4096) (sym length_is) count;
        each_pipe = each-pipe (λ n. IsSome (plan.pipe_kind_of (pipe_kinds_of ss) n)) facts (λ n below. (pipe n below).1);
      },
      record { kind = kind.0; count = subst (λ n. n ≤ 4096) (sym length_is) count.1; pipes = each-pipe (λ n. n ≤ 255) facts (λ n below. (pipe n below).0) },
    )
  where
    each-pipe : (P : ℕ → Type 0) (facts : List Fact) → ((n : ℕ) → n < number_at facts 1 0 0 → P (number_at facts 3 n 0)) → All P (pipes_of facts)
    each-pipe P facts each =
        All-map P (λ pipe. number_at facts 3 pipe 0) (range_with_len 0 (number_at facts 1 0 0)) (λ k d below. let within : k < number_at facts 1 0 0 = omega (arith, length-range_with_len 0 (number_at facts 1 0 0)) in subst (λ n. P (number_at facts 3 n 0)) (sym (get_or-range_with_len 0 (number_at facts 1 0 0) k d within ∙ (let e : 0 + k ≡ k = omega arith in e))) (each k within))
