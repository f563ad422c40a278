-- A plan's sections owe nothing.
use Rattle.std.proofs.Common.{◌≡◌, ◌==◌, ℕ, ◌+◌, ◌<◌, ◌≤◌, true, false, cond, not, ◌&&◌, ◌||◌, min, List, [], ◌∷◌, ◌++◌, length, find, slice_get, Option, Some, None, refl, sym, ap, ◌∙◌, arith}
use Rattle.std.specs.List.{list_all, slice_index_or}
use Rattle.std.specs.Option.{option_map}
use Rattle.std.proofs.lemmas.Bool.{and_from, or_left, or_right, eq-eqb}
use Rattle.std.proofs.lemmas.List.{append-nil}
use Rattle.std.proofs.lemmas.List.Folds.{list_any-append}
use Rattle.profile_plan.specs.declared.port.PortPlan.{PortPlan}
use Rattle.profile_plan.specs.declared.port.SubportPlan.{SubportPlan}
use Rattle.profile_plan.specs.declared.shaping.Shaping.{Shaping}
use Rattle.profile_plan.specs.declared.shaping.Shaping.TheVariants as shapings
use Rattle.profile_plan.specs.declared.meter.MeterKind.{MeterKind}
use Rattle.profile_plan.specs.declared.meter.MeterKind.TheVariants.{SrTcm, TrTcm, Rfc4115}
use Rattle.profile_plan.specs.declared.meter.MeterRate.{MeterRate}
use Rattle.profile_plan.specs.declared.meter.MeterRate.TheVariants.{Periods, PerSecond}
use Rattle.profile_plan.specs.Profile.{Plan, KeepsLimits}
use Rattle.qos_profile.specs.declared.value.Value.{Value}
use Rattle.qos_profile.specs.declared.value.Value.TheVariants as values
use Rattle.qos_profile.specs.declared.fact.Fact.{Fact}
use Rattle.qos_profile.specs.declared.head.Head.TheVariants as heads
use Rattle.qos_profile.specs.declared.section.Section.{Section}
use Rattle.qos_profile.specs.Facts.{mode_of}
use Rattle.qos_profile.specs.Lookups.{has, has_all, number_at, is_there, facts_at, covers}
use Rattle.qos_profile.specs.Missing.{is_rate, has_shaping, has_meter, has_subport, is_complete, ports_to, has_subports, has_ports, has_sections, missing_line}
use Rattle.qos_profile.specs.Printed.{kind_number, size_told, gives, number_fact, value_fact, word_fact, shaping_facts, meter_rate_facts, other_rate_facts, port_part, subport_part, parts_of, printed_sections}
use Rattle.qos_profile.specs.Forms.{HasClasses, HasWeights, KeepsForms}
use Rattle.qos_profile.proofs.Heads.{heads-apart}
use Rattle.qos_profile.proofs.PlanParts.{get-below, all-at}
use Rattle.qos_profile.proofs.Found.{Each, each-part, each-section, none-fails, is-among, facts-are, among-port, among-subport}
use Rattle.qos_profile.proofs.Slotted.{placed, has-placed, slots, slots-have, all-range, get-at}

-- a shaping, whatever stands behind it
pub shaping-complete : (s : Shaping) (more : List Fact) (k : ℕ) → HasClasses s → has_shaping (placed k (shaping_facts s ++ more)) ≡ true
shaping-complete (shapings.Whole w) more k size =
    let a = gives 0 0 0 (Some 0) (values.Number w.tb_credits) in
    let b = gives 1 0 0 (Some 0) (values.Number w.tb_period) in
    let c = number_fact 2 w.tb_size in
    let p = number_fact 4 w.tc_period in
    let mid = slots 3 (Some 0) values.Number 0 w.tc_credits in
    let rest = (mid ++ p ∷ []) ++ more in
    let fs = placed k (a ∷ b ∷ c ∷ rest) in
    let classes : has_all fs 3 0 13 ≡ true = all-range (has fs 3) 0 13 (λ n low high. has-placed k 3 n (a ∷ b ∷ c ∷ rest) ∙ (list_any-append (covers 3 n) (mid ++ p ∷ []) more ∙ or_left (has (mid ++ p ∷ []) 3 n) (has more 3 n) (list_any-append (covers 3 n) mid (p ∷ []) ∙ or_left (has mid 3 n) (has (p ∷ []) 3 n) (slots-have 3 (Some 0) values.Number 0 w.tc_credits n low (omega (arith, size)))))) in
    let period : has fs 4 0 ≡ true = has-placed k 4 0 (a ∷ b ∷ c ∷ rest) ∙ (list_any-append (covers 4 0) (mid ++ p ∷ []) more ∙ or_left (has (mid ++ p ∷ []) 4 0) (has more 4 0) (list_any-append (covers 4 0) mid (p ∷ []) ∙ or_right (has mid 4 0) (has (p ∷ []) 4 0) refl)) in
    and_from (has fs 0 0 && (is_rate (mode_of fs) || has fs 1 0) && has fs 2 0 && has_all fs 3 0 13) (has fs 4 0) (and_from (has fs 0 0 && (is_rate (mode_of fs) || has fs 1 0) && has fs 2 0) (has_all fs 3 0 13) refl classes) period
shaping-complete (shapings.Rate r) more k size =
    let a = gives 0 0 0 (Some 1) (values.Number r.tb_rate) in
    let c = number_fact 2 r.tb_size in
    let p = number_fact 4 r.tc_period_ms in
    let mid = slots 3 (Some 1) values.Number 0 r.tc_rates in
    let rest = (mid ++ p ∷ []) ++ more in
    let fs = placed k (a ∷ c ∷ rest) in
    let classes : has_all fs 3 0 13 ≡ true = all-range (has fs 3) 0 13 (λ n low high. has-placed k 3 n (a ∷ c ∷ rest) ∙ (list_any-append (covers 3 n) (mid ++ p ∷ []) more ∙ or_left (has (mid ++ p ∷ []) 3 n) (has more 3 n) (list_any-append (covers 3 n) mid (p ∷ []) ∙ or_left (has mid 3 n) (has (p ∷ []) 3 n) (slots-have 3 (Some 1) values.Number 0 r.tc_rates n low (omega (arith, size)))))) in
    let period : has fs 4 0 ≡ true = has-placed k 4 0 (a ∷ c ∷ rest) ∙ (list_any-append (covers 4 0) (mid ++ p ∷ []) more ∙ or_left (has (mid ++ p ∷ []) 4 0) (has more 4 0) (list_any-append (covers 4 0) mid (p ∷ []) ∙ or_right (has mid 4 0) (has (p ∷ []) 4 0) refl)) in
    and_from (has fs 0 0 && (is_rate (mode_of fs) || has fs 1 0) && has fs 2 0 && has_all fs 3 0 13) (has fs 4 0) (and_from (has fs 0 0 && (is_rate (mode_of fs) || has fs 1 0) && has fs 2 0) (has_all fs 3 0 13) refl classes) period

subport-complete : (port n k : ℕ) (s : SubportPlan) → has_subport (placed k (subport_part port n s).facts) ≡ true
subport-complete port n k s =
    let a = number_fact 0 s.kind in
    let b = number_fact 1 (length s.pipes) in
    let c = value_fact 2 (values.Sizes s.sizes) in
    let d = word_fact 4 (cond s.oversub 1 0) in
    let mid = slots 3 None values.Number 0 s.pipes in
    let fs = placed k (a ∷ b ∷ c ∷ (mid ++ d ∷ [])) in
    let pipes : has_all fs 3 0 (length s.pipes) ≡ true = all-range (has fs 3) 0 (length s.pipes) (λ i low high. has-placed k 3 i (a ∷ b ∷ c ∷ (mid ++ d ∷ [])) ∙ (list_any-append (covers 3 i) mid (d ∷ []) ∙ or_left (has mid 3 i) (has (d ∷ []) 3 i) (slots-have 3 None values.Number 0 s.pipes i low high))) in
    and_from (has fs 0 0 && has fs 1 0 && has fs 2 0) (has_all fs 3 0 (length s.pipes)) refl pipes

meter-complete : (kind : MeterKind) (cir other : MeterRate) (a b c d e f g : Value) (u : Option ℕ) (k : ℕ) → has_meter (placed k (gives 0 0 0 (Some (kind_number kind)) a ∷ gives 1 0 0 None b ∷ meter_rate_facts 2 None cir ++ other_rate_facts kind other ++ gives 4 0 0 None c ∷ gives 5 0 0 u d ∷ gives 6 0 0 None e ∷ gives 7 0 0 None f ∷ gives 8 0 0 None g ∷ [])) ≡ true
meter-complete SrTcm (Periods x y) r a b c d e f g u k = refl
meter-complete SrTcm (PerSecond x) r a b c d e f g u k = refl
meter-complete TrTcm (Periods x y) (Periods z w) a b c d e f g u k = refl
meter-complete TrTcm (Periods x y) (PerSecond z) a b c d e f g u k = refl
meter-complete TrTcm (PerSecond x) (Periods z w) a b c d e f g u k = refl
meter-complete TrTcm (PerSecond x) (PerSecond z) a b c d e f g u k = refl
meter-complete Rfc4115 (Periods x y) (Periods z w) a b c d e f g u k = refl
meter-complete Rfc4115 (Periods x y) (PerSecond z) a b c d e f g u k = refl
meter-complete Rfc4115 (PerSecond x) (Periods z w) a b c d e f g u k = refl
meter-complete Rfc4115 (PerSecond x) (PerSecond z) a b c d e f g u k = refl

module _ (p : Plan) (lim : KeepsLimits p) (form : KeepsForms p) where
  abbrev pub all : List Section
  all = printed_sections p

  pub port-there : (n : ℕ) → n < length p.ports → is_there (printed_sections p) (heads.Port n) ≡ true
  port-there n below =
      let got = get-at p.ports n below in
      is-among 1 (parts_of p) (port_part n got.0) (eq-eqb n n refl) (among-port p n got.0 got.1)

  pub subport-there : (i j : ℕ) (port : PortPlan) → slice_get p.ports i ≡ Some port → j < length port.subports → is_there (printed_sections p) (heads.Subport i j) ≡ true
  subport-there i j port there below =
      let got = get-at port.subports j below in
      is-among 1 (parts_of p) (subport_part i j got.0) (and_from (i == i) (j == j) (eq-eqb i i refl) (eq-eqb j j refl)) (among-subport p i j port got.0 there got.1)

  pub subports-count : (i : ℕ) (port : PortPlan) → slice_get p.ports i ≡ Some port → number_at (facts_at (printed_sections p) (heads.Port i)) 1 0 0 ≡ length port.subports
  subports-count i port there =
      let facts = facts-are 1 (parts_of p) (port_part i port) (heads-apart p lim) refl (among-port p i port there) in
      ap (λ fs. number_at fs 1 0 0) facts.1

  pub pipes-count : (i j : ℕ) (port : PortPlan) (s : SubportPlan) → slice_get p.ports i ≡ Some port → slice_get port.subports j ≡ Some s → number_at (facts_at (printed_sections p) (heads.Subport i j)) 1 0 0 ≡ length s.pipes
  pipes-count i j port s there below =
      let facts = facts-are 1 (parts_of p) (subport_part i j s) (heads-apart p lim) refl (among-subport p i j port s there below) in
      ap (λ fs. number_at fs 1 0 0) facts.1

  ports-there : (count : ℕ) → count ≤ length p.ports → has_ports (printed_sections p) count ≡ true
  ports-there count le = all-range (λ n. is_there (printed_sections p) (heads.Port n)) 0 count (λ n low high. port-there n (omega arith))

  each-ports : Each (λ head facts. has_ports (printed_sections p) (ports_to head)) p
  each-ports = record {
    pool = λ k. refl;
    port = λ i port there k. (let below = get-below p.ports i port there in ports-there (min i 15 + 1) (omega arith));
    subport_kind = λ i kind there k. refl;
    pipe_kind = λ i kind there k. refl;
    subport = λ i j port s there below k. refl;
    codes = λ k. refl;
    meter = λ i m there k. refl;
    rule = λ i r there k. refl;
  }

  each-subports : Each (has_subports (printed_sections p)) p
  each-subports = record {
    pool = λ k. refl;
    port = λ i port there k. all-range (λ j. is_there (printed_sections p) (heads.Subport i j)) 0 (length port.subports) (λ j low high. subport-there i j port there (omega arith));
    subport_kind = λ i kind there k. refl;
    pipe_kind = λ i kind there k. refl;
    subport = λ i j port s there below k. refl;
    codes = λ k. refl;
    meter = λ i m there k. refl;
    rule = λ i r there k. refl;
  }

  each-complete : Each is_complete p
  each-complete = record {
    pool = λ k. refl;
    port = λ i port there k. refl;
    subport_kind = λ i kind there k. (let size = all-at (λ x. HasClasses x.1) p.subport_kinds i kind there form.subport_kinds in ap (λ fs. has_shaping (placed k fs)) (sym (append-nil (shaping_facts kind.1))) ∙ shaping-complete kind.1 [] k size);
    pipe_kind = λ i kind there k. shaping-complete kind.shaping (value_fact 5 (values.Weights kind.weights) ∷ number_fact 6 kind.ov_weight ∷ []) k (all-at HasWeights p.pipe_kinds i kind there form.pipe_kinds).classes;
    subport = λ i j port s there below k. subport-complete i j k s;
    codes = λ k. refl;
    meter = λ i m there k. meter-complete m.kind m.cir m.other (values.Word (kind_number m.kind)) (values.Word (cond m.aware 1 0)) (values.Number m.cbs) (values.Number m.other_size) (values.Word (cond (slice_index_or m.drops 0 false) 1 0)) (values.Word (cond (slice_index_or m.drops 1 false) 1 0)) (values.Word (cond (slice_index_or m.drops 2 false) 1 0)) (size_told m.kind) k;
    rule = λ i r there k. refl;
  }

  pub nothing-missing : missing_line (printed_sections p) ≡ None
  unfolding missing_line
  nothing-missing =
      let sections = printed_sections p in
      let there : has_sections sections ≡ true = and_from (has_ports sections 1 && list_all (λ s. has_ports sections (ports_to s.head)) sections) (list_all (λ s. has_subports sections s.head s.facts) sections) (and_from (has_ports sections 1) (list_all (λ s. has_ports sections (ports_to s.head)) sections) (ports-there 1 lim.ports.0) (each-section (λ head facts. has_ports sections (ports_to head)) 1 (parts_of p) (each-part (λ head facts. has_ports sections (ports_to head)) p each-ports))) (each-section (has_subports sections) 1 (parts_of p) (each-part (has_subports sections) p each-subports)) in
      ap (λ t. cond t (option_map (λ s. s.line) (find (λ s. not (is_complete s.head s.facts)) sections)) (Some 0)) there
      ∙ ap (option_map (λ s. s.line)) (none-fails (λ s. is_complete s.head s.facts) sections (each-section is_complete 1 (parts_of p) (each-part is_complete p each-complete)))
