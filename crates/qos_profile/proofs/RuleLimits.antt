-- The limits of the rules, and of the entries of the code points.
use Rattle.std.proofs.Common.{◌≡◌, ◌==◌, ℕ, ◌+◌, ◌<◌, ◌≤◌, ◌^◌, ◌-◌, Bool, true, false, cond, not, ◌&&◌, ◌||◌, nat_lt, List, [], ◌∷◌, length, find, slice_get, Option, None, Some, Ok, refl, sym, ap, subst, ◌∙◌, arith}
use Rattle.std.specs.Prelude.{All, IsSome, IfSome}
use Rattle.std.specs.List.{list_all}
use Rattle.std.specs.Option.{option_map, option_map_or, option_and_then}
use Rattle.std.proofs.lemmas.Bool.{and_parts, eqb-true, ltb-true}
use Rattle.std.proofs.lemmas.List.FromFn.{length-map-range_with_len}
use Rattle.qos_base.specs.declared.packet.Colour.TheVariants.{Green}
use Rattle.code_table.specs.declared.entry.Entry.{Entry}
use Rattle.code_table.specs.Entry.{IsValid}
use Rattle.code_table.specs.Dscp.{in_best_effort, default_rows, default_entry}
use Rattle.profile_plan.specs.Limits.{IsVlan, IsPrefix, IsCode}
use Rattle.profile_plan.specs.Profile.{IsRule, IsBelow}
use Rattle.profile_plan.specs.Profile as plan
use Rattle.profile_plan.specs.declared.rule.VlanTest.TheVariants.{Any, Untagged}
use Rattle.profile_plan.specs.declared.rule.PipeChoice.TheVariants as pipes
use Rattle.qos_profile.specs.declared.value.Value.{Value}
use Rattle.qos_profile.specs.declared.value.Value.TheVariants as values
use Rattle.qos_profile.specs.declared.fact.Fact.{Fact}
use Rattle.qos_profile.specs.declared.head.Head.{Head}
use Rattle.qos_profile.specs.declared.head.Head.TheVariants as heads
use Rattle.qos_profile.specs.declared.section.Section.{Section}
use Rattle.qos_profile.specs.Table.{Key, code_keys, rule_keys}
use Rattle.qos_profile.specs.Values.{value_of, is_place}
use Rattle.qos_profile.specs.Facts.{keys_of}
use Rattle.qos_profile.specs.Lookups.{covers, value_at, has, number_at, is_there, facts_at}
use Rattle.qos_profile.specs.Missing.{is_complete}
use Rattle.qos_profile.specs.Naming.{is_subport, number_in_rule, names_in_rule, names_of_fact}
use Rattle.qos_profile.specs.Naming as naming
use Rattle.qos_profile.specs.Kept.{IsGiven, EachFact}
use Rattle.qos_profile.specs.Planned.{subport_of, port_of, port_count, ports_of, entry_or, codes_of, input_of, vlan_of, prefix_in, pipe_choice_of, code_choice_of, meter_in, rule_of, rules_of, meters_of}
use Rattle.qos_profile.specs.Fits.{FitsPipe, FitsRule, FitCodes, FitRules}
use Rattle.qos_profile.proofs.Slots.{any_mode, each_key, facts-any, slot-value, found-fact}
use Rattle.qos_profile.proofs.FormLimits.{place-valid, is_number_or, number-or-kept, is_address, address-kept, is_mark, mark-kept, is_code, code-kept}
use Rattle.qos_profile.proofs.Sound.{IsSound, sound-at, given-at}
use Rattle.qos_profile.proofs.PartLimits.{port-numbers}
use Rattle.qos_profile.proofs.KindLimits.{number-kept, each-there}
use Rattle.qos_profile.proofs.SubportLimits.{numbered-there}
use Rattle.qos_profile.proofs.PortLimits.{each-below, made-at, port-below, port-subports, subport-there}
use Rattle.qos_profile.proofs.TotalLimits.{subport-pipes, few-pipes}
use Rattle.qos_profile.proofs.MeterLimits.{meter-numbered}

-- what holds of every value that the keys of a slot may have, and where no line gives one
slot-kept : (head : Head) (group : ℕ) (test : Key → Bool) (P : Option Value → Type 0) (facts : List Fact) → each_key group 0 any_mode test (keys_of head) ≡ true → EachFact (IsGiven head) facts → P None → ((key : Key) (words : List (List ℕ)) (value : Value) → test key ≡ true → value_of key.form words ≡ Ok value → P (Some value)) → P (value_at facts group 0)
slot-kept head group test P facts all given none some = by (value_at facts group 0) refl
  where
    by : (o : Option Value) → value_at facts group 0 ≡ o → P o
    by None e = none
    by (Some value) e =
        let is = slot-value head any_mode group 0 test facts value all (facts-any head facts given) e in
        some is.key is.words value is.passes is.gives

input-limits : (n : ℕ) (facts : List Fact) → EachFact (IsGiven (heads.Rule n)) facts → IfSome (input_of (value_at facts 0 0)) (λ k. k ≤ 15)
unfolding rule_keys
input-limits n facts given =
    slot-kept (heads.Rule n) 0 (λ key. is_number_or 0 15 key.form) (λ o. IfSome (input_of o) (λ k. k ≤ 15)) facts refl given tt (λ key words value h e. number-or-kept (λ v. IfSome (input_of (Some v)) (λ k. k ≤ 15)) 0 15 key.form words value (λ k. tt) (λ k low high. high) h e)

vlan-limits : (n : ℕ) (facts : List Fact) → EachFact (IsGiven (heads.Rule n)) facts → IsVlan (vlan_of (value_at facts 1 0))
unfolding rule_keys
vlan-limits n facts given =
    slot-kept (heads.Rule n) 1 (λ key. is_number_or 0 4095 key.form) (λ o. IsVlan (vlan_of o)) facts refl given tt (λ key words value h e. number-or-kept (λ v. IsVlan (vlan_of (Some v))) 0 4095 key.form words value (λ k. word (k == 1)) (λ k low high. high) h e)
  where
    word : (t : Bool) → IsVlan (cond t Untagged Any)
    word true = tt
    word false = tt

src-limits : (n : ℕ) (facts : List Fact) → EachFact (IsGiven (heads.Rule n)) facts → IfSome (prefix_in (value_at facts 3 0)) IsPrefix
unfolding rule_keys
src-limits n facts given =
    slot-kept (heads.Rule n) 3 (λ key. is_address key.form) (λ o. IfSome (prefix_in o) IsPrefix) facts refl given tt (λ key words value h e. address-kept (λ v. IfSome (prefix_in (Some v)) IsPrefix) key.form words value (λ k. tt) (λ addr bits is. is) h e)

dst-limits : (n : ℕ) (facts : List Fact) → EachFact (IsGiven (heads.Rule n)) facts → IfSome (prefix_in (value_at facts 4 0)) IsPrefix
unfolding rule_keys
dst-limits n facts given =
    slot-kept (heads.Rule n) 4 (λ key. is_address key.form) (λ o. IfSome (prefix_in o) IsPrefix) facts refl given tt (λ key words value h e. address-kept (λ v. IfSome (prefix_in (Some v)) IsPrefix) key.form words value (λ k. tt) (λ addr bits is. is) h e)

code-limits : (n : ℕ) (facts : List Fact) → EachFact (IsGiven (heads.Rule n)) facts → IsCode (code_choice_of (value_at facts 8 0))
unfolding rule_keys
code-limits n facts given =
    slot-kept (heads.Rule n) 8 (λ key. is_code key.form) (λ o. IsCode (code_choice_of o)) facts refl given tt (λ key words value h e. code-kept (λ v. IsCode (code_choice_of (Some v))) key.form words value (λ k. tt) (λ entry is. is) h e)

-- what a section of a rule owes
pub record OwesRule (facts : List Fact) : Type 0 where
  pub port : has facts 5 0 ≡ true
  pub subport : has facts 6 0 ≡ true

owes-rule : (n : ℕ) (facts : List Fact) → is_complete (heads.Rule n) facts ≡ true → OwesRule facts
owes-rule n facts h =
    let a = and_parts (has facts 5 0 && has facts 6 0 && has facts 7 0) (has facts 8 0) h in
    let b = and_parts (has facts 5 0 && has facts 6 0) (has facts 7 0) a.0 in
    let c = and_parts (has facts 5 0) (has facts 6 0) b.0 in
    record { port = c.0; subport = c.1 }

-- what a fact of a rule names
abbrev pub IsNamed : List Section → ℕ → List Fact → Fact → Type 0
IsNamed ss n facts fact = names_of_fact ss (heads.Rule n) facts fact ≡ true

in-group : (ss : List Section) (facts : List Fact) (fact : Fact) (group k : ℕ) → names_in_rule ss facts fact (values.Number k) ≡ true → (fact.group == group) ≡ true → number_in_rule ss (number_at facts 5 0 0) (number_at facts 6 0 0) group k ≡ true
in-group ss facts fact group k h e =
    subst (λ g. number_in_rule ss (number_at facts 5 0 0) (number_at facts 6 0 0) g k ≡ true) (eqb-true fact.group group e) h

port-named : (ss : List Section) (n : ℕ) (facts : List Fact) → EachFact (IsGiven (heads.Rule n)) facts → EachFact (IsNamed ss n facts) facts → has facts 5 0 ≡ true → is_there ss (heads.Port (number_at facts 5 0 0)) ≡ true
unfolding rule_keys
port-named ss n facts given named there =
    let at = numbered-there (heads.Rule n) (IsNamed ss n facts) 5 0 0 (2 ^ 64 - 1) facts refl given named there in
    in-group ss facts at.fact 5 (number_at facts 5 0 0) (ap (names_in_rule ss facts at.fact) (sym at.value) ∙ at.there) at.group_is

or-right : (a b : Bool) → (not a || b) ≡ true → a ≡ true → b ≡ true
or-right true b h e = h
or-right false b h e = absurd (cc)

subport-named : (ss : List Section) (n : ℕ) (facts : List Fact) → EachFact (IsGiven (heads.Rule n)) facts → EachFact (IsNamed ss n facts) facts → has facts 6 0 ≡ true → is_there ss (heads.Port (number_at facts 5 0 0)) ≡ true → is_subport ss (number_at facts 5 0 0) (number_at facts 6 0 0) ≡ true
unfolding rule_keys
subport-named ss n facts given named there port =
    let at = numbered-there (heads.Rule n) (IsNamed ss n facts) 6 0 0 (2 ^ 64 - 1) facts refl given named there in
    or-right (is_there ss (heads.Port (number_at facts 5 0 0))) (is_subport ss (number_at facts 5 0 0) (number_at facts 6 0 0)) (in-group ss facts at.fact 6 (number_at facts 6 0 0) (ap (names_in_rule ss facts at.fact) (sym at.value) ∙ at.there) at.group_is) port

-- a line that gives a value, and what is named by it
pub record IsValued (P : Fact → Type 0) (group : ℕ) (v : Value) : Type 0 where
  pub fact : Fact
  pub there : P fact
  pub group_is : (fact.group == group) ≡ true
  pub value : fact.value ≡ v

valued : (P : Fact → Type 0) (group : ℕ) (facts : List Fact) (v : Value) → EachFact P facts → value_at facts group 0 ≡ Some v → IsValued P group v
valued P group facts v each e = by (find (covers group 0) facts) refl e
  where
    by : (o : Option Fact) → find (covers group 0) facts ≡ o → option_map (λ fact. fact.value) o ≡ Some v → IsValued P group v
    by None f h = absurd (cc)
    by (Some fact) f h =
        let found = found-fact P (covers group 0) facts fact each f in
        record { fact = fact; there = found.0; group_is = (and_parts (fact.group == group) _ (and_parts _ _ found.1).0).0; value = same fact.value v h }
      where
        same : (a b : Value) → Some a ≡ Some b → a ≡ b
        same a b g = cc

-- the subport that a rule names
pub found-subport : (ss : List Section) (p k : ℕ) → p < port_count ss → k < number_at (facts_at ss (heads.Port p)) 1 0 0 → plan.subport_of (ports_of ss) p k ≡ Some (subport_of (facts_at ss (heads.Subport p k)))
found-subport ss p k low below =
    let port : slice_get (ports_of ss) p ≡ Some (port_of ss p (facts_at ss (heads.Port p))) = made-at (λ n. port_of ss n (facts_at ss (heads.Port n))) 0 (port_count ss) p low ∙ ap (λ n. Some (port_of ss n (facts_at ss (heads.Port n)))) (let e : 0 + p ≡ p = omega arith in e) in
    ap (option_and_then (λ q. slice_get q.subports k)) port
    ∙ ap (λ subports. slice_get subports k) (port-subports ss p)
    ∙ made-at (λ n. subport_of (facts_at ss (heads.Subport p n))) 0 (number_at (facts_at ss (heads.Port p)) 1 0 0) k below
    ∙ ap (λ n. Some (subport_of (facts_at ss (heads.Subport p n)))) (let e : 0 + k ≡ k = omega arith in e)

-- the pipe that a rule names
pipe-named : (ss : List Section) (n : ℕ) (facts : List Fact) → EachFact (IsNamed ss n facts) facts → is_subport ss (number_at facts 5 0 0) (number_at facts 6 0 0) ≡ true → IsBelow (pipe_choice_of (value_at facts 7 0)) (naming.pipes_of ss (number_at facts 5 0 0) (number_at facts 6 0 0))
pipe-named ss n facts named subport = by (value_at facts 7 0) refl
  where
    word : (k : Bool) → IsBelow (cond k pipes.Vlan pipes.Host) (naming.pipes_of ss (number_at facts 5 0 0) (number_at facts 6 0 0))
    word true = tt
    word false = tt

    by : (o : Option Value) → value_at facts 7 0 ≡ o → IsBelow (pipe_choice_of o) (naming.pipes_of ss (number_at facts 5 0 0) (number_at facts 6 0 0))
    by (Some (values.Number k)) e =
        let at = valued (IsNamed ss n facts) 7 facts (values.Number k) named e in
        ltb-true k (naming.pipes_of ss (number_at facts 5 0 0) (number_at facts 6 0 0)) (or-right (is_subport ss (number_at facts 5 0 0) (number_at facts 6 0 0)) (nat_lt k (naming.pipes_of ss (number_at facts 5 0 0) (number_at facts 6 0 0))) (in-group ss facts at.fact 7 k (ap (names_in_rule ss facts at.fact) (sym at.value) ∙ at.there) at.group_is) subport)
    by (Some (values.Word k)) e = word (k == 0)
    by _ e = tt

-- the meter that a rule names
meter-named : (ss : List Section) (n : ℕ) (facts : List Fact) → EachFact (IsNamed ss n facts) facts → IfSome (meter_in ss (value_at facts 9 0)) (λ k. k < length (meters_of ss))
meter-named ss n facts named = by (value_at facts 9 0) refl
  where
    by : (o : Option Value) → value_at facts 9 0 ≡ o → IfSome (meter_in ss o) (λ k. k < length (meters_of ss))
    by (Some (values.Name name)) e =
        let at = valued (IsNamed ss n facts) 9 facts (values.Name name) named e in
        meter-numbered ss name (ap (names_in_rule ss facts at.fact) (sym at.value) ∙ at.there)
    by _ e = tt

few-below : (pipe : _) (count : ℕ) → count ≤ 4096 → IsBelow pipe count → FitsPipe pipe
few-below (pipes.Fixed k) count few below = omega arith
few-below pipes.Vlan count few below = tt
few-below pipes.Host count few below = tt

rule-limits : (ss : List Section) (n : ℕ) → IsSound ss → is_there ss (heads.Rule n) ≡ true → n < 256 → IsRule (ports_of ss) (meters_of ss) (rule_of ss n (facts_at ss (heads.Rule n))) × FitsRule (rule_of ss n (facts_at ss (heads.Rule n)))
unfolding rule_of
rule-limits ss n sound there low =
    let facts = facts_at ss (heads.Rule n) in
    let s = (sound-at ss (heads.Rule n) sound refl there).sound in
    let owes = owes-rule n facts s.complete in
    let p = number_at facts 5 0 0 in
    let k = number_at facts 6 0 0 in
    let port = port-named ss n facts s.given s.named owes.port in
    let subport = subport-named ss n facts s.given s.named owes.subport port in
    let below : k < number_at (facts_at ss (heads.Port p)) 1 0 0 = ltb-true k (number_at (facts_at ss (heads.Port p)) 1 0 0) subport in
    let found = found-subport ss p k (port-below ss p sound port) below in
    let here = subport-there ss p k sound port below in
    let q = (sound-at ss (heads.Port p) sound refl port).sound in
    let subports = (port-numbers p (facts_at ss (heads.Port p)) q.given q.complete).subports in
    let pipe = pipe-named ss n facts s.named subport in
    let input = input-limits n facts s.given in
    let vlan = vlan-limits n facts s.given in
    let kept : p ≤ 15 = number-kept ss (heads.Port p) sound refl port in (
      record {
        number = omega arith;
        input = input;
        vlan = vlan;
        src = src-limits n facts s.given;
        dst = dst-limits n facts s.given;
        subport = subst IsSome (sym found) refl;
        pipe = subst (λ o. IfSome o (λ x. IsBelow (pipe_choice_of (value_at facts 7 0)) (length x.pipes))) (sym found) (subst (IsBelow (pipe_choice_of (value_at facts 7 0))) (sym (subport-pipes (facts_at ss (heads.Subport p k)))) pipe);
        code = code-limits n facts s.given;
        meter = meter-named ss n facts s.named;
      },
      record { input = input; vlan = vlan; port = kept; subport = omega (arith, subports.1); pipe = few-below (pipe_choice_of (value_at facts 7 0)) (naming.pipes_of ss p k) (few-pipes ss p k sound here) pipe },
    )

pub rule-number : (ss : List Section) (n : ℕ) (facts : List Fact) → (rule_of ss n facts).number ≡ n
unfolding rule_of
rule-number ss n facts = refl

pub rules-limits : (ss : List Section) → IsSound ss → All (IsRule (ports_of ss) (meters_of ss)) (rules_of ss)
rules-limits ss sound =
    each-there (IsRule (ports_of ss) (meters_of ss)) ss heads.Rule 256 (λ n. rule_of ss n (facts_at ss (heads.Rule n))) (λ n there below. (rule-limits ss n sound there below).0)

pub rules-fit : (ss : List Section) → IsSound ss → FitRules ss
rules-fit ss sound n there =
    let kept : n ≤ 255 = number-kept ss (heads.Rule n) sound refl there in
    (rule-limits ss n sound there (omega arith)).1

-- the entries of the code points

pub codes-fit : (ss : List Section) → IsSound ss → FitCodes (facts_at ss heads.Codes)
unfolding code_keys
codes-fit ss sound code entry e =
    let facts = facts_at ss heads.Codes in
    let is = slot-value heads.Codes any_mode 0 code (λ key. is_mark key.form) facts (values.Entry entry) refl (facts-any heads.Codes facts (given-at ss heads.Codes sound refl)) e in
    mark-kept (λ v. IsValid (entry_or entry (Some v))) is.key.form is.words (values.Entry entry) (λ other valid. valid) is.passes is.gives

found-passes : {X : Type 0} (p q : X → Bool) (xs : List X) (x : X) → list_all p xs ≡ true → find q xs ≡ Some x → p x ≡ true
found-passes p q [] x all e = absurd (cc)
found-passes p q (y ∷ ys) x all e =
    let parts = and_parts (p y) (list_all p ys) all in by (q y) e (found-passes p q ys x parts.1)
  where
    by : (t : Bool) → cond t (Some y) (find q ys) ≡ Some x → (find q ys ≡ Some x → p x ≡ true) → p x ≡ true
    by true g later =
        let same : y ≡ x = cc in subst (λ z. p z ≡ true) same (and_parts (p y) (list_all p ys) all).0
    by false g later = later g

-- the default entries are valid
default-valid : (k : ℕ) → IsValid (default_entry k)
default-valid k = by (find (λ row. row.0 == k) default_rows) refl
  where
    by : (o : Option (ℕ × Entry)) → find (λ row. row.0 == k) default_rows ≡ o → IsValid (option_map_or (λ row. row.1) o (in_best_effort 1))
    by None e = place-valid 12 1 Green refl
    by (Some row) e =
        place-valid row.1.class row.1.queue row.1.colour (found-passes (λ r. is_place r.1.class r.1.queue) (λ r. r.0 == k) default_rows row refl e)

entry-or-valid : (code : ℕ) (facts : List Fact) → FitCodes facts → IsValid (entry_or (default_entry code) (value_at facts 0 code))
entry-or-valid code facts fit = by (value_at facts 0 code) refl
  where
    by : (o : Option Value) → value_at facts 0 code ≡ o → IsValid (entry_or (default_entry code) o)
    by (Some (values.Entry entry)) e = fit code entry e
    by _ e = default-valid code

pub codes-limits : (ss : List Section) → IsSound ss → All IsValid (codes_of (facts_at ss heads.Codes)) × (length (codes_of (facts_at ss heads.Codes)) ≡ 64)
unfolding codes_of
codes-limits ss sound =
    let facts = facts_at ss heads.Codes in (
      each-below IsValid (λ code. entry_or (default_entry code) (value_at facts 0 code)) 64 (λ code low. entry-or-valid code facts (codes-fit ss sound)),
      length-map-range_with_len (λ code. entry_or (default_entry code) (value_at facts 0 code)) 0 64,
    )
