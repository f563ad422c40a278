-- A plan is said again by its sections.
use Rattle.std.proofs.Common.{◌≡◌, ℕ, ◌+◌, ◌-◌, ◌<◌, ◌≤◌, Bool, true, false, not, ◌||◌, nat_le, min, max, List, [], ◌∷◌, ◌++◌, length, map, fold, slice_get, Option, Some, None, refl, sym, ap, ◌∙◌, subst, arith, inl, inr}
use Rattle.std.specs.List.{list_all, list_any}
use Rattle.std.specs.Option.{IfSome, option_map_or}
use Rattle.std.proofs.lemmas.Bool.{and_parts, and_from, or_left, or_right, le-leb, leb-true}
use Rattle.std.proofs.lemmas.List.Folds.{list_all-append, list_all-map}
use Rattle.profile_plan.specs.declared.shaping.Shaping.{Shaping}
use Rattle.profile_plan.specs.declared.shaping.PipeKind.{PipeKind}
use Rattle.profile_plan.specs.declared.rule.Proto.{Proto}
use Rattle.profile_plan.specs.declared.rule.Proto.TheVariants.{Ipv4, Ipv6, Mpls, Other}
use Rattle.profile_plan.specs.declared.rule.VlanTest.{VlanTest}
use Rattle.profile_plan.specs.declared.rule.VlanTest.TheVariants.{Any, Untagged, Id}
use Rattle.profile_plan.specs.declared.rule.Prefix.{Prefix}
use Rattle.profile_plan.specs.declared.rule.PipeChoice.{PipeChoice}
use Rattle.profile_plan.specs.declared.rule.PipeChoice.TheVariants as pipes
use Rattle.profile_plan.specs.declared.rule.CodeChoice.{CodeChoice}
use Rattle.profile_plan.specs.declared.rule.CodeChoice.TheVariants as choices
use Rattle.profile_plan.specs.declared.rule.RulePlan.{RulePlan}
use Rattle.profile_plan.specs.Limits.{IsShaping, IsPipeKind}
use Rattle.profile_plan.specs.Profile.{Plan, KeepsLimits, IsRule}
use Rattle.profile_print.specs.Written.{each}
use Rattle.qos_profile.specs.declared.head.Head.{Head}
use Rattle.qos_profile.specs.declared.head.Head.TheVariants as heads
use Rattle.qos_profile.specs.declared.section.Section.{Section}
use Rattle.qos_profile.specs.Values.{padded}
use Rattle.qos_profile.specs.Sections.{is_red}
use Rattle.qos_profile.specs.Lookups.{value_at, facts_at}
use Rattle.qos_profile.specs.Missing.{ports_to}
use Rattle.qos_profile.specs.Planned.{shaping_of, pipe_kind_of, port_of, port_count, ports_of, subport_kinds_of, pipe_kinds_of, codes_of, meters_of, meter_number, input_of, vlan_of, proto_of, prefix_in, pipe_choice_of, code_choice_of, meter_in, rule_of, rules_of, skipped_of, plan_of}
use Rattle.qos_profile.specs.Printed.{Part, sections_from, input_value, vlan_value, proto_value, prefix_value, pipe_value, code_value, meter_facts, pool_part, port_part, subport_kind_part, pipe_kind_part, subport_parts, codes_part, meter_part, rule_part, parts_of, printed_sections}
use Rattle.qos_profile.specs.Forms.{KeepsForms}
use Rattle.qos_profile.proofs.Heads.{heads-apart}
use Rattle.qos_profile.proofs.PlanParts.{all-at, get-below}
use Rattle.qos_profile.proofs.Found.{Each, each-part, each-section, facts-are, among-port, among-rule, Among}
use Rattle.qos_profile.proofs.Slotted.{placed, get-at}
use Rattle.qos_profile.proofs.KindsBack.{map-range, map-back, pool-same, codes-same, subport-kind-same, pipe-kind-same, port-same}
use Rattle.qos_profile.proofs.NumbersBack.{numbers-back, subport-kind-numbers, pipe-kind-numbers, rule-numbers}
use Rattle.qos_profile.proofs.MetersBack.{none-kept, pass-mapped, pass-before, before_meters, meters-same, number-same}

-- the values of a rule
input-back : (o : Option ℕ) → input_of (Some (input_value o)) ≡ o
input-back None = refl
input-back (Some n) = refl

vlan-back : (v : VlanTest) → vlan_of (Some (vlan_value v)) ≡ v
vlan-back Any = refl
vlan-back Untagged = refl
vlan-back (Id n) = refl

proto-back : (o : Option Proto) → proto_of (Some (proto_value o)) ≡ o
proto-back None = refl
proto-back (Some Ipv4) = refl
proto-back (Some Ipv6) = refl
proto-back (Some Mpls) = refl
proto-back (Some Other) = refl

prefix-back : (o : Option Prefix) → prefix_in (Some (prefix_value o)) ≡ o
prefix-back None = refl
prefix-back (Some x) = refl

pipe-back : (c : PipeChoice) → pipe_choice_of (Some (pipe_value c)) ≡ c
pipe-back (pipes.Fixed n) = refl
pipe-back pipes.Vlan = refl
pipe-back pipes.Host = refl

code-back : (c : CodeChoice) → code_choice_of (Some (code_value c)) ≡ c
code-back choices.Dscp = refl
code-back (choices.Fixed e) = refl

-- the greatest of some
fold-le : (a most : ℕ) (xs : List ℕ) → a ≤ most → list_all (λ x. nat_le x most) xs ≡ true → fold max a xs ≤ most
fold-le a most [] h g = h
fold-le a most (x ∷ xs) h g =
    let parts = and_parts (nat_le x most) (list_all (λ y. nat_le y most) xs) g in
    let here = leb-true x most parts.0 in
    fold-le (max a x) most xs (omega arith) parts.1

fold-ge : (a least : ℕ) (xs : List ℕ) → least ≤ a → least ≤ fold max a xs
fold-ge a least [] h = h
fold-ge a least (x ∷ xs) h = fold-ge (max a x) least xs (omega arith)

fold-has : (a least : ℕ) (xs : List ℕ) → list_any (λ x. nat_le least x) xs ≡ true → least ≤ fold max a xs
fold-has a least [] h = absurd (cc)
fold-has a least (x ∷ xs) h = by (nat_le least x) refl (λ g. fold-has (max a x) least xs g)
  where
    by : (b : Bool) → nat_le least x ≡ b → (list_any (λ y. nat_le least y) xs ≡ true → least ≤ fold max (max a x) xs) → least ≤ fold max (max a x) xs
    by true e rest = let here = leb-true least x e in fold-ge (max a x) least xs (omega arith)
    by false e rest = rest (subst (λ t. (t || list_any (λ y. nat_le least y) xs) ≡ true) e h)

any-sections : (q : Head → ℕ) (least n : ℕ) (parts : List Part) → list_any (λ x. nat_le least x) (map (λ s. q s.head) (sections_from n parts)) ≡ list_any (λ x. nat_le least (q x.head)) parts
any-sections q least n [] = refl
any-sections q least n (x ∷ xs) =
    ap (λ t. nat_le least (q x.head) || t) (any-sections q least (n + 1 + length x.facts) xs)

any-of : (q : Part → Bool) (part : Part) (parts : List Part) → Among part parts → q part ≡ true → list_any q parts ≡ true
any-of q part [] h g = absurd h
any-of q part (x ∷ xs) (inl e) g = or_left (q x) (list_any q xs) (subst (λ y. q y ≡ true) (sym e) g)
any-of q part (x ∷ xs) (inr h) g = or_right (q x) (list_any q xs) (any-of q part xs h g)

module _ (p : Plan) (lim : KeepsLimits p) (form : KeepsForms p) where
  count-same : port_count (printed_sections p) ≡ length p.ports
  count-same =
      let all = printed_sections p in
      let most = length p.ports in
      let each_low : Each (λ head facts. nat_le (ports_to head) most) p = record {
        pool = λ k. le-leb 0 most (omega arith);
        port = λ i port there k. (let below = get-below p.ports i port there in le-leb (min i 15 + 1) most (omega arith));
        subport_kind = λ i kind there k. le-leb 0 most (omega arith);
        pipe_kind = λ i kind there k. le-leb 0 most (omega arith);
        subport = λ i j port s there below k. le-leb 0 most (omega arith);
        codes = λ k. le-leb 0 most (omega arith);
        meter = λ i m there k. le-leb 0 most (omega arith);
        rule = λ i r there k. le-leb 0 most (omega arith);
      } in
      let low : list_all (λ x. nat_le x most) (map (λ s. ports_to s.head) all) ≡ true = list_all-map (λ x. nat_le x most) (λ (s : Section). ports_to s.head) all ∙ each-section (λ head facts. nat_le (ports_to head) most) 1 (parts_of p) (each-part (λ head facts. nat_le (ports_to head) most) p each_low) in
      let last = most - 1 in
      let got = get-at p.ports last (omega (arith, lim.ports.0)) in
      let high : list_any (λ x. nat_le most x) (map (λ s. ports_to s.head) all) ≡ true = any-sections ports_to most 1 (parts_of p) ∙ any-of (λ x. nat_le most (ports_to x.head)) (port_part last got.0) (parts_of p) (among-port p last got.0 got.1) (le-leb most (min last 15 + 1) (omega (arith, lim.ports.0, lim.ports.1))) in
      let a = fold-le 0 most (map (λ s. ports_to s.head) all) (omega arith) low in
      let b = fold-has 0 most (map (λ s. ports_to s.head) all) high in
      omega arith

  ports-same : ports_of (printed_sections p) ≡ p.ports
  ports-same =
      let all = printed_sections p in
      map-range (λ n. port_of all n (facts_at all (heads.Port n))) 0 (port_count all) p.ports count-same (λ i j port e there. let same : i ≡ j = omega arith in port-same p lim form j port (subst (λ y. slice_get p.ports y ≡ Some port) same there))

  subport-kinds-same : subport_kinds_of (printed_sections p) ≡ p.subport_kinds
  subport-kinds-same =
      let all = printed_sections p in
      let g : ℕ → ℕ × Shaping = λ n. (n, shaping_of (facts_at all (heads.SubportKind n))) in
      ap (map g) (numbers-back all heads.SubportKind 64 (λ (k : ℕ × Shaping). k.0) p.subport_kinds lim.subport_kinds_order (λ i k there. let h = (all-at (λ x. (x.0 ≤ 63) × IsShaping x.1) p.subport_kinds i k there lim.subport_kinds).0 in omega arith) (subport-kind-numbers p))
      ∙ map-back g (λ k. k.0) p.subport_kinds (λ i k there. ap (λ s. (k.0, s)) (subport-kind-same p lim form i k there))

  pipe-kinds-same : pipe_kinds_of (printed_sections p) ≡ p.pipe_kinds
  pipe-kinds-same =
      let all = printed_sections p in
      let g : ℕ → PipeKind = λ n. pipe_kind_of n (facts_at all (heads.PipeKind n)) in
      ap (map g) (numbers-back all heads.PipeKind 256 (λ (k : PipeKind). k.number) p.pipe_kinds lim.pipe_kinds_order (λ i k there. let h = (all-at IsPipeKind p.pipe_kinds i k there lim.pipe_kinds).number in omega arith) (pipe-kind-numbers p))
      ∙ map-back g (λ k. k.number) p.pipe_kinds (pipe-kind-same p lim form)

  -- a rule's meter
  meter-same : (o : Option ℕ) → IfSome o (λ n. n < length p.meters) → meter_in (printed_sections p) (value_at (placed 0 (meter_facts p.meters o)) 9 0) ≡ o
  meter-same None h = refl
  meter-same (Some i) h =
      let got = get-at p.meters i h in
      ap (λ w. Some (meter_number (printed_sections p) (padded w))) (ap (λ o. option_map_or (λ x. x.name) o []) got.1)
      ∙ ap Some (number-same p lim form i got.0 got.1)

  meter-any : (o : Option ℕ) (k : ℕ) → meter_in (printed_sections p) (value_at (placed k (meter_facts p.meters o)) 9 0) ≡ meter_in (printed_sections p) (value_at (placed 0 (meter_facts p.meters o)) 9 0)
  meter-any None k = refl
  meter-any (Some i) k = refl

  rule-back : (r : RulePlan) (k : ℕ) → IfSome r.meter (λ n. n < length p.meters) → rule_of (printed_sections p) r.number (placed k (rule_part p.meters r).facts) ≡ r
  unfolding rule_of
  rule-back r k h =
      let all = printed_sections p in
      let meter = meter_in all (value_at (placed (k + 1 + 1 + 1 + 1 + 1 + 1 + 1 + 1 + 1) (meter_facts p.meters r.meter)) 9 0) in
      ap (λ x. record { number = r.number; input = x; vlan = vlan_of (Some (vlan_value r.vlan)); proto = proto_of (Some (proto_value r.proto)); src = prefix_in (Some (prefix_value r.src)); dst = prefix_in (Some (prefix_value r.dst)); port = r.port; subport = r.subport; pipe = pipe_choice_of (Some (pipe_value r.pipe)); code = code_choice_of (Some (code_value r.code)); meter = meter }) (input-back r.input)
      ∙ ap (λ x. record { number = r.number; input = r.input; vlan = x; proto = proto_of (Some (proto_value r.proto)); src = prefix_in (Some (prefix_value r.src)); dst = prefix_in (Some (prefix_value r.dst)); port = r.port; subport = r.subport; pipe = pipe_choice_of (Some (pipe_value r.pipe)); code = code_choice_of (Some (code_value r.code)); meter = meter }) (vlan-back r.vlan)
      ∙ ap (λ x. record { number = r.number; input = r.input; vlan = r.vlan; proto = x; src = prefix_in (Some (prefix_value r.src)); dst = prefix_in (Some (prefix_value r.dst)); port = r.port; subport = r.subport; pipe = pipe_choice_of (Some (pipe_value r.pipe)); code = code_choice_of (Some (code_value r.code)); meter = meter }) (proto-back r.proto)
      ∙ ap (λ x. record { number = r.number; input = r.input; vlan = r.vlan; proto = r.proto; src = x; dst = prefix_in (Some (prefix_value r.dst)); port = r.port; subport = r.subport; pipe = pipe_choice_of (Some (pipe_value r.pipe)); code = code_choice_of (Some (code_value r.code)); meter = meter }) (prefix-back r.src)
      ∙ ap (λ x. record { number = r.number; input = r.input; vlan = r.vlan; proto = r.proto; src = r.src; dst = x; port = r.port; subport = r.subport; pipe = pipe_choice_of (Some (pipe_value r.pipe)); code = code_choice_of (Some (code_value r.code)); meter = meter }) (prefix-back r.dst)
      ∙ ap (λ x. record { number = r.number; input = r.input; vlan = r.vlan; proto = r.proto; src = r.src; dst = r.dst; port = r.port; subport = r.subport; pipe = x; code = code_choice_of (Some (code_value r.code)); meter = meter }) (pipe-back r.pipe)
      ∙ ap (λ x. record { number = r.number; input = r.input; vlan = r.vlan; proto = r.proto; src = r.src; dst = r.dst; port = r.port; subport = r.subport; pipe = r.pipe; code = x; meter = meter }) (code-back r.code)
      ∙ ap (λ x. record { number = r.number; input = r.input; vlan = r.vlan; proto = r.proto; src = r.src; dst = r.dst; port = r.port; subport = r.subport; pipe = r.pipe; code = r.code; meter = x }) (meter-any r.meter (k + 1 + 1 + 1 + 1 + 1 + 1 + 1 + 1 + 1) ∙ meter-same r.meter h)

  rule-same : (i : ℕ) (r : RulePlan) → slice_get p.rules i ≡ Some r → rule_of (printed_sections p) r.number (facts_at (printed_sections p) (heads.Rule r.number)) ≡ r
  rule-same i r there =
      let facts = facts-are 1 (parts_of p) (rule_part p.meters r) (heads-apart p lim) refl (among-rule p i r there) in
      ap (rule_of (printed_sections p) r.number) facts.1 ∙ rule-back r facts.0 (all-at (IsRule p.ports p.meters) p.rules i r there lim.rules).meter

  rules-same : rules_of (printed_sections p) ≡ p.rules
  rules-same =
      let all = printed_sections p in
      let g : ℕ → RulePlan = λ n. rule_of all n (facts_at all (heads.Rule n)) in
      ap (map g) (numbers-back all heads.Rule 256 (λ (r : RulePlan). r.number) p.rules lim.rules_order (λ i r there. let h = (all-at (IsRule p.ports p.meters) p.rules i r there lim.rules).number in omega arith) (rule-numbers p))
      ∙ map-back g (λ r. r.number) p.rules rule-same

  none-skipped : skipped_of (printed_sections p) ≡ []
  none-skipped =
      let q : Part → Bool = λ x. not (is_red x.head) in
      let front = before_meters p in
      let meters = map meter_part p.meters in
      let rules = map (rule_part p.meters) p.rules in
      let xs : List Part = pool_part p.pool ∷ each port_part p.ports ++ map subport_kind_part p.subport_kinds ++ map pipe_kind_part p.pipe_kinds ++ subport_parts 0 p.ports in
      let before : list_all q front ≡ true = pass-before q p refl (λ j x. refl) (λ x. refl) (λ x. refl) (λ m j s. refl) refl in
      let firsts = and_parts (list_all q xs) (list_all q (codes_part p.codes ∷ [])) (sym (list_all-append q xs (codes_part p.codes ∷ [])) ∙ before) in
      let named : list_all q (codes_part p.codes ∷ meters) ≡ true = pass-mapped q meter_part p.meters (λ x. refl) in
      let most : list_all q (xs ++ codes_part p.codes ∷ meters) ≡ true = list_all-append q xs (codes_part p.codes ∷ meters) ∙ and_from (list_all q xs) (list_all q (codes_part p.codes ∷ meters)) firsts.0 named in
      let whole : list_all q (parts_of p) ≡ true = list_all-append q (xs ++ codes_part p.codes ∷ meters) rules ∙ and_from (list_all q (xs ++ codes_part p.codes ∷ meters)) (list_all q rules) most (pass-mapped q (rule_part p.meters) p.rules (λ x. refl)) in
      ap (map (λ s. s.line)) (none-kept is_red 1 (parts_of p) whole)

  pub plan-same : plan_of (printed_sections p) ≡ record p { skipped = [] }
  unfolding plan_of
  plan-same =
      let all = printed_sections p in
      ap (λ x. record { pool = x; ports = ports_of all; subport_kinds = subport_kinds_of all; pipe_kinds = pipe_kinds_of all; codes = codes_of (facts_at all heads.Codes); meters = meters_of all; rules = rules_of all; skipped = skipped_of all }) (pool-same p lim form)
      ∙ ap (λ x. record { pool = p.pool; ports = x; subport_kinds = subport_kinds_of all; pipe_kinds = pipe_kinds_of all; codes = codes_of (facts_at all heads.Codes); meters = meters_of all; rules = rules_of all; skipped = skipped_of all }) ports-same
      ∙ ap (λ x. record { pool = p.pool; ports = p.ports; subport_kinds = x; pipe_kinds = pipe_kinds_of all; codes = codes_of (facts_at all heads.Codes); meters = meters_of all; rules = rules_of all; skipped = skipped_of all }) subport-kinds-same
      ∙ ap (λ x. record { pool = p.pool; ports = p.ports; subport_kinds = p.subport_kinds; pipe_kinds = x; codes = codes_of (facts_at all heads.Codes); meters = meters_of all; rules = rules_of all; skipped = skipped_of all }) pipe-kinds-same
      ∙ ap (λ x. record { pool = p.pool; ports = p.ports; subport_kinds = p.subport_kinds; pipe_kinds = p.pipe_kinds; codes = x; meters = meters_of all; rules = rules_of all; skipped = skipped_of all }) (codes-same p lim form)
      ∙ ap (λ x. record { pool = p.pool; ports = p.ports; subport_kinds = p.subport_kinds; pipe_kinds = p.pipe_kinds; codes = p.codes; meters = x; rules = rules_of all; skipped = skipped_of all }) (meters-same p lim form)
      ∙ ap (λ x. record { pool = p.pool; ports = p.ports; subport_kinds = p.subport_kinds; pipe_kinds = p.pipe_kinds; codes = p.codes; meters = p.meters; rules = x; skipped = skipped_of all }) rules-same
      ∙ ap (λ x. record { pool = p.pool; ports = p.ports; subport_kinds = p.subport_kinds; pipe_kinds = p.pipe_kinds; codes = p.codes; meters = p.meters; rules = p.rules; skipped = x }) none-skipped
