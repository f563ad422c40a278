-- Whatever a plan's sections name is there.
use Rattle.std.proofs.Common.{◌≡◌, ◌==◌, ℕ, suc, ◌+◌, ◌<◌, ◌≤◌, Bool, true, false, cond, not, ◌&&◌, nat_lt, List, [], ◌∷◌, ◌++◌, length, find, slice_get, is_some, Option, Some, None, refl, sym, ap, ◌∙◌, subst, arith}
use Rattle.std.specs.List.{All, list_all}
use Rattle.std.specs.Option.{IfSome, IsSome, option_map, option_map_or, option_and_then}
use Rattle.std.proofs.lemmas.Bool.{and_parts, and_from, or_right, lt-ltb, eq-eqb, eqb-true}
use Rattle.std.proofs.lemmas.List.Folds.{list_all-append}
use Rattle.std.proofs.lemmas.List.Elements.{All-head, All-tail}
use Rattle.profile_plan.specs.declared.port.PortPlan.{PortPlan}
use Rattle.profile_plan.specs.declared.port.SubportPlan.{SubportPlan}
use Rattle.profile_plan.specs.declared.meter.MeterPlan.{MeterPlan}
use Rattle.profile_plan.specs.declared.rule.Proto.{Proto}
use Rattle.profile_plan.specs.declared.rule.Proto.TheVariants.{Ipv4, Ipv6, Mpls, Other}
use Rattle.profile_plan.specs.declared.rule.VlanTest.{VlanTest}
use Rattle.profile_plan.specs.declared.rule.VlanTest.TheVariants.{Any, Untagged, Id}
use Rattle.profile_plan.specs.declared.rule.Prefix.{Prefix}
use Rattle.profile_plan.specs.declared.rule.PipeChoice.{PipeChoice}
use Rattle.profile_plan.specs.declared.rule.PipeChoice.TheVariants as pipes
use Rattle.profile_plan.specs.declared.rule.CodeChoice.{CodeChoice}
use Rattle.profile_plan.specs.declared.rule.CodeChoice.TheVariants as choices
use Rattle.profile_plan.specs.declared.rule.RulePlan.{RulePlan}
use Rattle.profile_plan.specs.Profile.{Plan, KeepsLimits, IsPort, IsSubport, IsRule, IsBelow, subport_kind_of, pipe_kind_of, subport_of}
use Rattle.profile_print.specs.Text.{name_of_meter}
use Rattle.qos_profile.specs.declared.value.Value.TheVariants as values
use Rattle.qos_profile.specs.declared.fact.Fact.{Fact}
use Rattle.qos_profile.specs.declared.head.Head.TheVariants as heads
use Rattle.qos_profile.specs.declared.section.Section.{Section}
use Rattle.qos_profile.specs.Values.{padded}
use Rattle.qos_profile.specs.Lookups.{is_there}
use Rattle.qos_profile.specs.Naming.{pipes_of, is_subport, names_in_rule, names_of_fact, names_of_head, or_next, unnamed_among, unnamed_line}
use Rattle.qos_profile.specs.Printed.{at_line, gives, number_fact, value_fact, word_fact, input_value, vlan_value, proto_value, prefix_value, pipe_value, code_value, meter_facts, pool_part, port_part, subport_kind_part, pipe_kind_part, subport_part, codes_part, meter_part, rule_part, parts_of, printed_sections}
use Rattle.qos_profile.specs.Forms.{KeepsForms}
use Rattle.qos_profile.proofs.PlanParts.{get-below, all-at}
use Rattle.qos_profile.proofs.Found.{Each, each-part, each-section, none-fails, is-among, same-self, among-subport-kind, among-pipe-kind, among-meter}
use Rattle.qos_profile.proofs.Slotted.{placed, placed-append, slots, get-at}
use Rattle.qos_profile.proofs.Owing.{port-there, subports-count, pipes-count}

-- where every head and every fact names what is there
unnamed-none : (all ss : List Section) → list_all (λ s. names_of_head all s.head) ss ≡ true → list_all (λ s. list_all (names_of_fact all s.head s.facts) s.facts) ss ≡ true → unnamed_among all ss ≡ None
unnamed-none all [] h g = refl
unnamed-none all (s ∷ ss) h g =
    let hs = and_parts (names_of_head all s.head) (list_all (λ x. names_of_head all x.head) ss) h in
    let gs = and_parts (list_all (names_of_fact all s.head s.facts) s.facts) (list_all (λ x. list_all (names_of_fact all x.head x.facts) x.facts) ss) g in
    ap (λ t. or_next (cond t (option_map (λ fact. fact.line) (find (λ fact. not (names_of_fact all s.head s.facts fact)) s.facts)) (Some s.line)) (unnamed_among all ss)) hs.0
    ∙ ap (λ o. or_next (option_map (λ fact. fact.line) o) (unnamed_among all ss)) (none-fails (names_of_fact all s.head s.facts) s.facts gs.0)
    ∙ unnamed-none all ss hs.1 gs.1

all-true : (q : Fact → Bool) → ((f : Fact) → q f ≡ true) → (fs : List Fact) → list_all q fs ≡ true
all-true q h [] = refl
all-true q h (f ∷ fs) = and_from (q f) (list_all q fs) (h f) (all-true q h fs)

-- one more fact at a line
more-placed : (q : Fact → Bool) (k : ℕ) (f : Fact) (fs : List Fact) → q (at_line k f) ≡ true → list_all q (placed (k + 1) fs) ≡ true → list_all q (placed k (f ∷ fs)) ≡ true
more-placed q k f fs h g = and_from (q (at_line k f)) (list_all q (placed (k + 1) fs)) h g

-- what is found has a place
find-place : {X : Type 0} (q : X → Bool) (xs : List X) → is_some (find q xs) ≡ true → (i : ℕ) × (x : X) × (slice_get xs i ≡ Some x) × (q x ≡ true)
find-place q [] h = absurd (cc)
find-place q (x ∷ xs) h = by (q x) refl (λ g. find-place q xs g)
  where
    by : (b : Bool) → q x ≡ b → (is_some (find q xs) ≡ true → (i : ℕ) × (y : _) × (slice_get xs i ≡ Some y) × (q y ≡ true)) → (i : ℕ) × (y : _) × (slice_get (x ∷ xs) i ≡ Some y) × (q y ≡ true)
    by true e rest = (0, x, refl, e)
    by false e rest =
        let more = rest (subst (λ t. is_some (cond t (Some x) (find q xs)) ≡ true) e h) in
        (suc more.0, more.1, more.2, more.3)

mapped-some : {X Y : Type 0} (f : X → Y) (o : Option X) → is_some (option_map f o) ≡ true → is_some o ≡ true
mapped-some f None h = h
mapped-some f (Some x) h = refl

slots-pass : (q : Fact → Bool) (P : ℕ → Type 0) (count k n : ℕ) (xs : List ℕ) → n + length xs ≤ count → All P xs → ((line m v : ℕ) → m < count → P v → q (at_line line (gives 3 m m None (values.Number v))) ≡ true) → list_all q (placed k (slots 3 None values.Number n xs)) ≡ true
slots-pass q P count k n [] small h g = refl
slots-pass q P count k n (x ∷ xs) small h g =
    and_from (q (at_line k (gives 3 n n None (values.Number x)))) (list_all q (placed (k + 1) (slots 3 None values.Number (n + 1) xs))) (g k n x (omega arith) (All-head P x xs h)) (slots-pass q P count (k + 1) (n + 1) xs (omega arith) (All-tail P x xs h) g)

module _ (p : Plan) (lim : KeepsLimits p) (form : KeepsForms p) where
  subport-kind-there : (n : ℕ) → IsSome (subport_kind_of p.subport_kinds n) → is_there (printed_sections p) (heads.SubportKind n) ≡ true
  subport-kind-there n h =
      let got = find-place (λ kind. kind.0 == n) p.subport_kinds (mapped-some (λ kind. kind.1) (find (λ kind. kind.0 == n) p.subport_kinds) h) in
      subst (λ m. is_there (printed_sections p) (heads.SubportKind m) ≡ true) (eqb-true got.1.0 n got.3) (is-among 1 (parts_of p) (subport_kind_part got.1) (eq-eqb got.1.0 got.1.0 refl) (among-subport-kind p got.0 got.1 got.2))

  pipe-kind-there : (n : ℕ) → IsSome (pipe_kind_of p.pipe_kinds n) → is_there (printed_sections p) (heads.PipeKind n) ≡ true
  pipe-kind-there n h =
      let got = find-place (λ kind. kind.number == n) p.pipe_kinds h in
      subst (λ m. is_there (printed_sections p) (heads.PipeKind m) ≡ true) (eqb-true got.1.number n got.3) (is-among 1 (parts_of p) (pipe_kind_part got.1) (eq-eqb got.1.number got.1.number refl) (among-pipe-kind p got.0 got.1 got.2))

  is-subport : (i j : ℕ) (port : PortPlan) → slice_get p.ports i ≡ Some port → j < length port.subports → is_subport (printed_sections p) i j ≡ true
  is-subport i j port there below =
      ap (nat_lt j) (subports-count p lim form i port there) ∙ lt-ltb j (length port.subports) below

  each-head : Each (λ head facts. names_of_head (printed_sections p) head) p
  each-head = record {
    pool = λ k. refl;
    port = λ i port there k. refl;
    subport_kind = λ i kind there k. refl;
    pipe_kind = λ i kind there k. refl;
    subport = λ i j port s there below k. is-subport i j port there (get-below port.subports j s below);
    codes = λ k. refl;
    meter = λ i m there k. refl;
    rule = λ i r there k. refl;
  }

  subport-named : (i j : ℕ) (s : SubportPlan) (k : ℕ) → IsSubport p.subport_kinds p.pipe_kinds s → list_all (names_of_fact (printed_sections p) (heads.Subport i j) (placed k (subport_part i j s).facts)) (placed k (subport_part i j s).facts) ≡ true
  subport-named i j s k here =
      let facts = (subport_part i j s).facts in
      let q : Fact → Bool = names_of_fact (printed_sections p) (heads.Subport i j) (placed k facts) in
      let a = number_fact 0 s.kind in
      let b = number_fact 1 (length s.pipes) in
      let c = value_fact 2 (values.Sizes s.sizes) in
      let d = word_fact 4 (cond s.oversub 1 0) in
      let mid = slots 3 None values.Number 0 s.pipes in
      let last : list_all q (placed (k + 1 + 1 + 1) (mid ++ d ∷ [])) ≡ true =
      ap (list_all q) (placed-append (k + 1 + 1 + 1) mid (d ∷ []))
      ∙ (list_all-append q (placed (k + 1 + 1 + 1) mid) (placed (k + 1 + 1 + 1 + length mid) (d ∷ []))
      ∙ and_from (list_all q (placed (k + 1 + 1 + 1) mid)) true (slots-pass q (λ v. IsSome (pipe_kind_of p.pipe_kinds v)) (length s.pipes) (k + 1 + 1 + 1) 0 s.pipes (omega arith) here.each_pipe (λ line m v below named. and_from (is_there (printed_sections p) (heads.PipeKind v)) (nat_lt m (length s.pipes)) (pipe-kind-there v named) (lt-ltb m (length s.pipes) below))) refl) in
      more-placed q k a (b ∷ c ∷ (mid ++ d ∷ [])) (ap (λ t. t && true) (subport-kind-there s.kind here.kind)) (more-placed q (k + 1) b (c ∷ (mid ++ d ∷ [])) refl (more-placed q (k + 1 + 1) c (mid ++ d ∷ []) refl last))

  -- the values of a rule that name nothing
  module _ (fs : List Fact) where
    input-free : (n line : ℕ) (o : Option ℕ) → names_of_fact (printed_sections p) (heads.Rule n) fs (at_line line (value_fact 0 (input_value o))) ≡ true
    input-free n line None = refl
    input-free n line (Some m) = refl

    vlan-free : (n line : ℕ) (v : VlanTest) → names_of_fact (printed_sections p) (heads.Rule n) fs (at_line line (value_fact 1 (vlan_value v))) ≡ true
    vlan-free n line Any = refl
    vlan-free n line Untagged = refl
    vlan-free n line (Id m) = refl

    proto-free : (n line : ℕ) (o : Option Proto) → names_of_fact (printed_sections p) (heads.Rule n) fs (at_line line (value_fact 2 (proto_value o))) ≡ true
    proto-free n line None = refl
    proto-free n line (Some Ipv4) = refl
    proto-free n line (Some Ipv6) = refl
    proto-free n line (Some Mpls) = refl
    proto-free n line (Some Other) = refl

    prefix-free : (n line group : ℕ) (o : Option Prefix) → names_of_fact (printed_sections p) (heads.Rule n) fs (at_line line (value_fact group (prefix_value o))) ≡ true
    prefix-free n line group None = refl
    prefix-free n line group (Some x) = refl

    code-free : (n line : ℕ) (c : CodeChoice) → names_of_fact (printed_sections p) (heads.Rule n) fs (at_line line (value_fact 8 (code_value c))) ≡ true
    code-free n line choices.Dscp = refl
    code-free n line (choices.Fixed e) = refl

  -- a rule's meter
  meter-name : (ms : List MeterPlan) (n : ℕ) (m : MeterPlan) → slice_get ms n ≡ Some m → name_of_meter ms n ≡ m.name
  meter-name ms n m there = ap (λ o. option_map_or (λ x. x.name) o []) there

  meter-there : (n : ℕ) → n < length p.meters → is_there (printed_sections p) (heads.Meter (padded (name_of_meter p.meters n))) ≡ true
  meter-there n below =
      let got = get-at p.meters n below in
      subst (λ w. is_there (printed_sections p) (heads.Meter (padded w)) ≡ true) (sym (meter-name p.meters n got.0 got.1)) (is-among 1 (parts_of p) (meter_part got.0) (same-self (heads.Meter (padded got.0.name)) refl) (among-meter p n got.0 got.1))

  meters-named : (n k : ℕ) (fs : List Fact) (o : Option ℕ) → IfSome o (λ i. i < length p.meters) → list_all (names_of_fact (printed_sections p) (heads.Rule n) fs) (placed k (meter_facts p.meters o)) ≡ true
  meters-named n k fs None h = refl
  meters-named n k fs (Some i) h =
      and_from (is_there (printed_sections p) (heads.Meter (padded (name_of_meter p.meters i)))) true (meter-there i h) refl

  -- where a rule's subport is
  record At (r : RulePlan) : Type 0 where
    port : PortPlan
    subport : SubportPlan
    is_port : slice_get p.ports r.port ≡ Some port
    is_subport_of : slice_get port.subports r.subport ≡ Some subport
    below : IsBelow r.pipe (length subport.pipes)

  at-place : (r : RulePlan) → IsSome (subport_of p.ports r.port r.subport) → IfSome (subport_of p.ports r.port r.subport) (λ s. IsBelow r.pipe (length s.pipes)) → At r
  at-place r there under = at-port (slice_get p.ports r.port) refl there under
    where
      at-sub : (port : PortPlan) → slice_get p.ports r.port ≡ Some port → (o : Option SubportPlan) → slice_get port.subports r.subport ≡ o → IsSome o → IfSome o (λ s. IsBelow r.pipe (length s.pipes)) → At r
      at-sub port q None e is g = absurd (cc)
      at-sub port q (Some s) e is g = record { port = port; subport = s; is_port = q; is_subport_of = e; below = g }

      at-port : (o : Option PortPlan) → slice_get p.ports r.port ≡ o → IsSome (option_and_then (λ x. slice_get x.subports r.subport) o) → IfSome (option_and_then (λ x. slice_get x.subports r.subport) o) (λ s. IsBelow r.pipe (length s.pipes)) → At r
      at-port None e is g = absurd (cc)
      at-port (Some port) e is g = at-sub port e (slice_get port.subports r.subport) refl is g

  rule-named : (r : RulePlan) (k : ℕ) → IsRule p.ports p.meters r → list_all (names_of_fact (printed_sections p) (heads.Rule r.number) (placed k (rule_part p.meters r).facts)) (placed k (rule_part p.meters r).facts) ≡ true
  rule-named r k here =
      let at = at-place r here.subport here.pipe in
      let fs = placed k (rule_part p.meters r).facts in
      let q : Fact → Bool = names_of_fact (printed_sections p) (heads.Rule r.number) fs in
      let port-is = get-below p.ports r.port at.port at.is_port in
      let sub-is = is-subport r.port r.subport at.port at.is_port (get-below at.port.subports r.subport at.subport at.is_subport_of) in
      let f9 = meter_facts p.meters r.meter in
      let f8 = value_fact 8 (code_value r.code) ∷ f9 in
      let f7 = value_fact 7 (pipe_value r.pipe) ∷ f8 in
      let f6 = number_fact 6 r.subport ∷ f7 in
      let f5 = number_fact 5 r.port ∷ f6 in
      let f4 = value_fact 4 (prefix_value r.dst) ∷ f5 in
      let f3 = value_fact 3 (prefix_value r.src) ∷ f4 in
      let f2 = value_fact 2 (proto_value r.proto) ∷ f3 in
      let f1 = value_fact 1 (vlan_value r.vlan) ∷ f2 in
      more-placed q k (value_fact 0 (input_value r.input)) f1 (input-free fs r.number k r.input)
      (more-placed q (k + 1) (value_fact 1 (vlan_value r.vlan)) f2 (vlan-free fs r.number (k + 1) r.vlan)
      (more-placed q (k + 1 + 1) (value_fact 2 (proto_value r.proto)) f3 (proto-free fs r.number (k + 1 + 1) r.proto)
      (more-placed q (k + 1 + 1 + 1) (value_fact 3 (prefix_value r.src)) f4 (prefix-free fs r.number (k + 1 + 1 + 1) 3 r.src)
      (more-placed q (k + 1 + 1 + 1 + 1) (value_fact 4 (prefix_value r.dst)) f5 (prefix-free fs r.number (k + 1 + 1 + 1 + 1) 4 r.dst)
      (more-placed q (k + 1 + 1 + 1 + 1 + 1) (number_fact 5 r.port) f6 (port-there p lim form r.port port-is)
      (more-placed q (k + 1 + 1 + 1 + 1 + 1 + 1) (number_fact 6 r.subport) f7 (or_right (not (is_there (printed_sections p) (heads.Port r.port))) (is_subport (printed_sections p) r.port r.subport) sub-is)
      (more-placed q (k + 1 + 1 + 1 + 1 + 1 + 1 + 1) (value_fact 7 (pipe_value r.pipe)) f8 (pipe-named at r.pipe at.below)
      (more-placed q (k + 1 + 1 + 1 + 1 + 1 + 1 + 1 + 1) (value_fact 8 (code_value r.code)) f9 (code-free fs r.number (k + 1 + 1 + 1 + 1 + 1 + 1 + 1 + 1) r.code) (meters-named r.number (k + 1 + 1 + 1 + 1 + 1 + 1 + 1 + 1 + 1) fs r.meter here.meter)))))))))
    where
      pipe-named : (at : At r) (c : PipeChoice) → IsBelow c (length at.subport.pipes) → names_in_rule (printed_sections p) (placed k (rule_part p.meters r).facts) (at_line (k + 1 + 1 + 1 + 1 + 1 + 1 + 1) (value_fact 7 (pipe_value c))) (pipe_value c) ≡ true
      pipe-named at (pipes.Fixed n) h =
          or_right (not (is_subport (printed_sections p) r.port r.subport)) (nat_lt n (pipes_of (printed_sections p) r.port r.subport)) (ap (nat_lt n) (pipes-count p lim form r.port r.subport at.port at.subport at.is_port at.is_subport_of) ∙ lt-ltb n (length at.subport.pipes) h)
      pipe-named at pipes.Vlan h = refl
      pipe-named at pipes.Host h = refl

  each-fact : Each (λ head facts. list_all (names_of_fact (printed_sections p) head facts) facts) p
  each-fact = record {
    pool = λ k. all-true (names_of_fact (printed_sections p) heads.Pool (placed k (pool_part p.pool).facts)) (λ f. refl) (placed k (pool_part p.pool).facts);
    port = λ i port there k. all-true (names_of_fact (printed_sections p) (heads.Port i) (placed k (port_part i port).facts)) (λ f. refl) (placed k (port_part i port).facts);
    subport_kind = λ i kind there k. all-true (names_of_fact (printed_sections p) (heads.SubportKind kind.0) (placed k (subport_kind_part kind).facts)) (λ f. refl) (placed k (subport_kind_part kind).facts);
    pipe_kind = λ i kind there k. all-true (names_of_fact (printed_sections p) (heads.PipeKind kind.number) (placed k (pipe_kind_part kind).facts)) (λ f. refl) (placed k (pipe_kind_part kind).facts);
    subport = λ i j port s there below k. subport-named i j s k (all-at (IsSubport p.subport_kinds p.pipe_kinds) port.subports j s below (all-at (IsPort p.subport_kinds p.pipe_kinds) p.ports i port there lim.each_port).each);
    codes = λ k. all-true (names_of_fact (printed_sections p) heads.Codes (placed k (codes_part p.codes).facts)) (λ f. refl) (placed k (codes_part p.codes).facts);
    meter = λ i m there k. all-true (names_of_fact (printed_sections p) (heads.Meter (padded m.name)) (placed k (meter_part m).facts)) (λ f. refl) (placed k (meter_part m).facts);
    rule = λ i r there k. rule-named r k (all-at (IsRule p.ports p.meters) p.rules i r there lim.rules);
  }

  pub nothing-unnamed : unnamed_line (printed_sections p) ≡ None
  unfolding unnamed_line
  nothing-unnamed =
      let all = printed_sections p in
      unnamed-none all all (each-section (λ head facts. names_of_head all head) 1 (parts_of p) (each-part (λ head facts. names_of_head all head) p each-head)) (each-section (λ head facts. list_all (names_of_fact all head facts) facts) 1 (parts_of p) (each-part (λ head facts. list_all (names_of_fact all head facts) facts) p each-fact))
