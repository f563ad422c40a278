-- The pool, the codes, the profiles and the subports of a plan are said again by its sections.
use Rattle.std.proofs.Common.{◌≡◌, ◌==◌, ℕ, zero, suc, ◌+◌, Bool, true, false, cond, ◌&&◌, ◌||◌, nat_le, List, [], ◌∷◌, ◌++◌, length, map, slice_get, Option, Some, None, refl, sym, ap, ◌∙◌, subst, arith}
use Rattle.std.specs.List.{range_with_len}
use Rattle.std.proofs.lemmas.Bool.{or_from}
use Rattle.std.proofs.lemmas.List.{append-nil, append_assoc}
use Rattle.std.proofs.lemmas.List.Folds.{list_any-append}
use Rattle.code_table.specs.Dscp.{default_entry}
use Rattle.profile_plan.specs.declared.port.PortPlan.{PortPlan}
use Rattle.profile_plan.specs.declared.port.SubportPlan.{SubportPlan}
use Rattle.profile_plan.specs.declared.port.Span.{Span}
use Rattle.profile_plan.specs.declared.port.Span.TheVariants as spans
use Rattle.profile_plan.specs.declared.shaping.Shaping.{Shaping}
use Rattle.profile_plan.specs.declared.shaping.Shaping.TheVariants as shapings
use Rattle.profile_plan.specs.declared.shaping.PipeKind.{PipeKind}
use Rattle.profile_plan.specs.Profile.{Plan, KeepsLimits}
use Rattle.qos_profile.specs.declared.value.Value.{Value}
use Rattle.qos_profile.specs.declared.value.Value.TheVariants as values
use Rattle.qos_profile.specs.declared.fact.Fact.{Fact}
use Rattle.qos_profile.specs.declared.head.Head.TheVariants as heads
use Rattle.qos_profile.specs.Lookups.{covers, has, value_at, number_or, number_at, facts_at}
use Rattle.qos_profile.specs.Planned.{word_or, choice_at, pool_of, drain_of, classes_of, whole_form_of, rate_form_of, shaping_of, weights_or, pipe_kind_of, pipes_of, subport_of, subports_of, port_of, entry_or, codes_of}
use Rattle.qos_profile.specs.Printed.{gives, number_fact, value_fact, word_fact, drain_fact, shaping_facts, port_part, subport_kind_part, pipe_kind_part, subport_part, codes_part, parts_of, printed_sections}
use Rattle.qos_profile.specs.Forms.{HasClasses, HasWeights, KeepsForms}
use Rattle.qos_profile.proofs.Heads.{heads-apart}
use Rattle.qos_profile.proofs.PlanParts.{all-at}
use Rattle.qos_profile.proofs.Found.{facts-are, among-port, among-subport, among-codes, among-subport-kind, among-pipe-kind}
use Rattle.qos_profile.proofs.Slotted.{placed, value-placed, number-placed, value-skip, slots, slots-others, slot-value}
use Rattle.qos_profile.proofs.Lawful.{period-is}

-- a list from its places
pub map-range : {X : Type 0} (g : ℕ → X) (a n : ℕ) (xs : List X) → n ≡ length xs → ((i j : ℕ) (x : X) → j ≡ a + i → slice_get xs i ≡ Some x → g j ≡ x) → map g (range_with_len a n) ≡ xs
map-range g a zero [] e h = refl
map-range g a zero (x ∷ xs) e h = absurd (omega arith)
map-range g a (suc n) [] e h = absurd (omega arith)
map-range g a (suc n) (x ∷ xs) e h =
    ap (λ y. y ∷ map g (range_with_len (a + 1) n)) (h 0 a x (omega arith) refl)
    ∙ ap (λ ys. x ∷ ys) (map-range g (a + 1) n xs (omega arith) (λ i j y f there. h (suc i) j y (omega arith) there))

-- a list from its numbers
pub map-back : {X : Type 0} (g : ℕ → X) (num : X → ℕ) (xs : List X) → ((i : ℕ) (x : X) → slice_get xs i ≡ Some x → g (num x) ≡ x) → map g (map num xs) ≡ xs
map-back g num [] h = refl
map-back g num (x ∷ xs) h =
    ap (λ y. y ∷ map g (map num xs)) (h 0 x refl) ∙ ap (λ ys. x ∷ ys) (map-back g num xs (λ i y there. h (suc i) y there))

-- a shaping
class-is : (g : ℕ) (t : Option ℕ) (xs : List ℕ) (p : Fact) (more : List Fact) (i j x : ℕ) → j ≡ 0 + i → slice_get xs i ≡ Some x → number_or 0 (value_at ((slots g t values.Number 0 xs ++ p ∷ []) ++ more) g j) ≡ x
class-is g t xs p more i j x e there =
    ap (λ fs. number_or 0 (value_at fs g j)) (append_assoc (slots g t values.Number 0 xs) (p ∷ []) more)
    ∙ ap (number_or 0) (slot-value g t values.Number 0 xs i j x (p ∷ more) e there)

pub shaping-back : (s : Shaping) (more : List Fact) (k : ℕ) → HasClasses s → shaping_of (placed k (shaping_facts s ++ more)) ≡ s
unfolding shaping_of whole_form_of rate_form_of
shaping-back (shapings.Whole w) more k size =
    let fs = placed k (shaping_facts (shapings.Whole w) ++ more) in
    let p = number_fact 4 w.tc_period in
    let classes : classes_of fs ≡ w.tc_credits = map-range (λ class. number_at fs 3 class 0) 0 13 w.tc_credits (sym size) (λ i j x e there. number-placed k 3 j 0 (shaping_facts (shapings.Whole w) ++ more) ∙ class-is 3 (Some 0) w.tc_credits p more i j x e there) in
    ap (λ cs. shapings.Whole (record { tb_credits = w.tb_credits; tb_period = w.tb_period; tb_size = w.tb_size; tc_credits = cs; tc_period = number_at fs 4 0 0 })) classes
    ∙ ap (λ q. shapings.Whole (record { tb_credits = w.tb_credits; tb_period = w.tb_period; tb_size = w.tb_size; tc_credits = w.tc_credits; tc_period = q })) (period-is (shapings.Whole w) more k)
shaping-back (shapings.Rate r) more k size =
    let fs = placed k (shaping_facts (shapings.Rate r) ++ more) in
    let p = number_fact 4 r.tc_period_ms in
    let classes : classes_of fs ≡ r.tc_rates = map-range (λ class. number_at fs 3 class 0) 0 13 r.tc_rates (sym size) (λ i j x e there. number-placed k 3 j 0 (shaping_facts (shapings.Rate r) ++ more) ∙ class-is 3 (Some 1) r.tc_rates p more i j x e there) in
    ap (λ cs. shapings.Rate (record { tb_rate = r.tb_rate; tb_size = r.tb_size; tc_rates = cs; tc_period_ms = number_at fs 4 0 0 })) classes
    ∙ ap (λ q. shapings.Rate (record { tb_rate = r.tb_rate; tb_size = r.tb_size; tc_rates = r.tc_rates; tc_period_ms = q })) (period-is (shapings.Rate r) more k)

-- a shaping's facts give no slot of a later group
shaping-others : (s : Shaping) (h c : ℕ) → (0 == h) ≡ false → (1 == h) ≡ false → (2 == h) ≡ false → (3 == h) ≡ false → (4 == h) ≡ false → has (shaping_facts s) h c ≡ false
shaping-others (shapings.Whole w) h c e0 e1 e2 e3 e4 =
    let mid = slots 3 (Some 0) values.Number 0 w.tc_credits in
    let p = number_fact 4 w.tc_period in
    let tail : has (mid ++ p ∷ []) h c ≡ false = list_any-append (covers h c) mid (p ∷ []) ∙ or_from (has mid h c) (has (p ∷ []) h c) (slots-others 3 (Some 0) values.Number 0 w.tc_credits h c e3) (ap (λ t. ((t && nat_le 0 c) && nat_le c 0) || false) e4) in
    or_from (covers h c (gives 0 0 0 (Some 0) (values.Number w.tb_credits))) _ (ap (λ t. (t && nat_le 0 c) && nat_le c 0) e0) (or_from (covers h c (gives 1 0 0 (Some 0) (values.Number w.tb_period))) _ (ap (λ t. (t && nat_le 0 c) && nat_le c 0) e1) (or_from (covers h c (number_fact 2 w.tb_size)) _ (ap (λ t. (t && nat_le 0 c) && nat_le c 0) e2) tail))
shaping-others (shapings.Rate r) h c e0 e1 e2 e3 e4 =
    let mid = slots 3 (Some 1) values.Number 0 r.tc_rates in
    let p = number_fact 4 r.tc_period_ms in
    let tail : has (mid ++ p ∷ []) h c ≡ false = list_any-append (covers h c) mid (p ∷ []) ∙ or_from (has mid h c) (has (p ∷ []) h c) (slots-others 3 (Some 1) values.Number 0 r.tc_rates h c e3) (ap (λ t. ((t && nat_le 0 c) && nat_le c 0) || false) e4) in
    or_from (covers h c (gives 0 0 0 (Some 1) (values.Number r.tb_rate))) _ (ap (λ t. (t && nat_le 0 c) && nat_le c 0) e0) (or_from (covers h c (number_fact 2 r.tb_size)) _ (ap (λ t. (t && nat_le 0 c) && nat_le c 0) e2) tail)

pipe-kind-back : (kind : PipeKind) (k : ℕ) → HasWeights kind → pipe_kind_of kind.number (placed k (pipe_kind_part kind).facts) ≡ kind
unfolding pipe_kind_of
pipe-kind-back kind k form =
    let more : List Fact = value_fact 5 (values.Weights kind.weights) ∷ number_fact 6 kind.ov_weight ∷ [] in
    let facts = shaping_facts kind.shaping ++ more in
    let fs = placed k facts in
    let weights : weights_or (value_at fs 5 0) ≡ kind.weights = ap weights_or (value-placed k 5 0 facts ∙ value-skip 5 0 (shaping_facts kind.shaping) more (shaping-others kind.shaping 5 0 refl refl refl refl refl)) in
    let share : number_at fs 6 0 1 ≡ kind.ov_weight = ap (number_or 1) (value-placed k 6 0 facts ∙ value-skip 6 0 (shaping_facts kind.shaping) more (shaping-others kind.shaping 6 0 refl refl refl refl refl)) in
    ap (λ s. record { number = kind.number; shaping = s; weights = weights_or (value_at fs 5 0); ov_weight = number_at fs 6 0 1 }) (shaping-back kind.shaping more k form.classes)
    ∙ ap (λ w. record { number = kind.number; shaping = kind.shaping; weights = w; ov_weight = number_at fs 6 0 1 }) weights
    ∙ ap (λ o. record { number = kind.number; shaping = kind.shaping; weights = kind.weights; ov_weight = o }) share

-- a choice of two
pub choice-back : (b : Bool) → (cond b 1 0 == 1) ≡ b
choice-back b = elim b as (λ t. (cond t 1 0 == 1) ≡ t) [ true ↦ refl | false ↦ refl ]

subport-back : (port n : ℕ) (s : SubportPlan) (k : ℕ) → subport_of (placed k (subport_part port n s).facts) ≡ s
unfolding subport_of
subport-back port n s k =
    let facts = (subport_part port n s).facts in
    let fs = placed k facts in
    let yes = word_fact 4 (cond s.oversub 1 0) in
    let mid = slots 3 None values.Number 0 s.pipes in
    let pipes : pipes_of fs ≡ s.pipes = map-range (λ pipe. number_at fs 3 pipe 0) 0 (length s.pipes) s.pipes refl (λ i j x e there. number-placed k 3 j 0 facts ∙ ap (number_or 0) (slot-value 3 None values.Number 0 s.pipes i j x (yes ∷ []) e there)) in
    let over : (choice_at fs 4 0 == 1) ≡ s.oversub = ap (λ v. word_or 0 v == 1) (value-placed k 4 0 facts ∙ value-skip 4 0 mid (yes ∷ []) (slots-others 3 None values.Number 0 s.pipes 4 0 refl)) ∙ choice-back s.oversub in
    ap (λ ps. record { kind = s.kind; sizes = s.sizes; pipes = ps; oversub = choice_at fs 4 0 == 1 }) pipes
    ∙ ap (λ o. record { kind = s.kind; sizes = s.sizes; pipes = s.pipes; oversub = o }) over

drain-back : (a b c d e f : Value) (s : Span) (k : ℕ) → drain_of (placed k (value_fact 0 a ∷ value_fact 1 b ∷ value_fact 2 c ∷ value_fact 3 d ∷ value_fact 4 e ∷ value_fact 5 f ∷ drain_fact s ∷ [])) ≡ s
unfolding drain_of
drain-back a b c d e f (spans.Bytes n) k = refl
drain-back a b c d e f (spans.Ms n) k = refl

module _ (p : Plan) (lim : KeepsLimits p) (form : KeepsForms p) where
  pub codes-same : codes_of (facts_at (printed_sections p) heads.Codes) ≡ p.codes
  unfolding codes_of
  codes-same =
      let facts = facts-are 1 (parts_of p) (codes_part p.codes) (heads-apart p lim) refl (among-codes p) in
      let slotted = slots 0 None values.Entry 0 p.codes in
      ap (λ fs. map (λ code. entry_or (default_entry code) (value_at fs 0 code)) (range_with_len 0 64)) facts.1
      ∙ map-range (λ code. entry_or (default_entry code) (value_at (placed facts.0 slotted) 0 code)) 0 64 p.codes (sym lim.code_count) (λ i j x e there. ap (entry_or (default_entry j)) (value-placed facts.0 0 j slotted ∙ ap (λ fs. value_at fs 0 j) (sym (append-nil slotted)) ∙ slot-value 0 None values.Entry 0 p.codes i j x [] e there))

  pub subport-kind-same : (i : ℕ) (kind : ℕ × Shaping) → slice_get p.subport_kinds i ≡ Some kind → shaping_of (facts_at (printed_sections p) (heads.SubportKind kind.0)) ≡ kind.1
  subport-kind-same i kind there =
      let facts = facts-are 1 (parts_of p) (subport_kind_part kind) (heads-apart p lim) refl (among-subport-kind p i kind there) in
      ap shaping_of facts.1
      ∙ ap (λ fs. shaping_of (placed facts.0 fs)) (sym (append-nil (shaping_facts kind.1)))
      ∙ shaping-back kind.1 [] facts.0 (all-at (λ x. HasClasses x.1) p.subport_kinds i kind there form.subport_kinds)

  pub pipe-kind-same : (i : ℕ) (kind : PipeKind) → slice_get p.pipe_kinds i ≡ Some kind → pipe_kind_of kind.number (facts_at (printed_sections p) (heads.PipeKind kind.number)) ≡ kind
  pipe-kind-same i kind there =
      let facts = facts-are 1 (parts_of p) (pipe_kind_part kind) (heads-apart p lim) refl (among-pipe-kind p i kind there) in
      ap (pipe_kind_of kind.number) facts.1 ∙ pipe-kind-back kind facts.0 (all-at HasWeights p.pipe_kinds i kind there form.pipe_kinds)

  subport-same : (i j : ℕ) (port : PortPlan) (s : SubportPlan) → slice_get p.ports i ≡ Some port → slice_get port.subports j ≡ Some s → subport_of (facts_at (printed_sections p) (heads.Subport i j)) ≡ s
  subport-same i j port s there below =
      let facts = facts-are 1 (parts_of p) (subport_part i j s) (heads-apart p lim) refl (among-subport p i j port s there below) in
      ap subport_of facts.1 ∙ subport-back i j s facts.0

  pub port-same : (i : ℕ) (port : PortPlan) → slice_get p.ports i ≡ Some port → port_of (printed_sections p) i (facts_at (printed_sections p) (heads.Port i)) ≡ port
  unfolding port_of
  port-same i port there =
      let all = printed_sections p in
      let facts = facts-are 1 (parts_of p) (port_part i port) (heads-apart p lim) refl (among-port p i port there) in
      let subports : subports_of all i (length port.subports) ≡ port.subports = map-range (λ j. subport_of (facts_at all (heads.Subport i j))) 0 (length port.subports) port.subports refl (λ a j s e below. let same : a ≡ j = omega arith in subport-same i j port s there (subst (λ y. slice_get port.subports y ≡ Some s) same below)) in
      ap (port_of all i) facts.1
      ∙ ap (λ d. record { line = port.line; overhead = port.overhead; mtu = port.mtu; burst = port.burst; quantum = port.quantum; drain = d; subports = subports_of all i (length port.subports) }) (drain-back (values.Number port.line) (values.Number (length port.subports)) (values.Number port.overhead) (values.Number port.mtu) (values.Number port.burst) (values.Number port.quantum) port.drain facts.0)
      ∙ ap (λ ss. record { line = port.line; overhead = port.overhead; mtu = port.mtu; burst = port.burst; quantum = port.quantum; drain = port.drain; subports = ss }) subports

  pub pool-same : pool_of (facts_at (printed_sections p) heads.Pool) ≡ p.pool
  unfolding pool_of
  pool-same = refl
