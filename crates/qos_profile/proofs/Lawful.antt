-- A plan's sections keep their ranges across keys and their totals.
use Rattle.std.proofs.Common.{◌≡◌, ◌==◌, ℕ, zero, suc, ◌+◌, ◌*◌, ◌^◌, ◌<◌, ◌≤◌, Bool, true, false, cond, not, ◌&&◌, nat_lt, nat_le, min, List, [], ◌∷◌, ◌++◌, length, map, sum, Option, Some, None, refl, sym, ap, ◌∙◌, subst, arith}
use Rattle.std.specs.List.{All, sum_by, slice_index_or}
use Rattle.std.specs.Option.{option_map}
use Rattle.std.proofs.lemmas.Bool.{and_from, le-leb, le-ltb, ne_eqb}
use Rattle.std.proofs.lemmas.List.{append-nil, append_assoc}
use Rattle.std.proofs.lemmas.List.Sums.{sum_by-cons, sum_by-append}
use Rattle.std.proofs.lemmas.List.Elements.{All-head, All-tail}
use Rattle.profile_plan.specs.declared.port.PortPlan.{PortPlan}
use Rattle.profile_plan.specs.declared.port.SubportPlan.{SubportPlan}
use Rattle.profile_plan.specs.declared.shaping.Shaping.{Shaping}
use Rattle.profile_plan.specs.declared.shaping.Shaping.TheVariants as shapings
use Rattle.profile_plan.specs.declared.shaping.PipeKind.{PipeKind}
use Rattle.profile_plan.specs.declared.meter.MeterKind.{MeterKind}
use Rattle.profile_plan.specs.declared.meter.MeterKind.TheVariants.{SrTcm, TrTcm, Rfc4115}
use Rattle.profile_plan.specs.declared.meter.MeterRate.{MeterRate}
use Rattle.profile_plan.specs.declared.meter.MeterRate.TheVariants.{Periods, PerSecond}
use Rattle.profile_plan.specs.declared.meter.MeterPlan.{MeterPlan}
use Rattle.profile_plan.specs.Limits.{IsShaping, IsPipeKind, IsMeter, IsLawful}
use Rattle.profile_plan.specs.Meter.{periods_of, IsAtMost}
use Rattle.profile_plan.specs.Profile.{Plan, KeepsLimits, IsPort, IsSubport}
use Rattle.profile_plan.specs.Profile as plan
use Rattle.profile_print.specs.Written.{each, each_from}
use Rattle.qos_profile.specs.declared.value.Value.{Value}
use Rattle.qos_profile.specs.declared.value.Value.TheVariants as values
use Rattle.qos_profile.specs.declared.fact.Fact.{Fact}
use Rattle.qos_profile.specs.declared.head.Head.{Head}
use Rattle.qos_profile.specs.declared.head.Head.TheVariants as heads
use Rattle.qos_profile.specs.declared.section.Section.{Section}
use Rattle.qos_profile.specs.Values.{is_within}
use Rattle.qos_profile.specs.Facts.{mode_of}
use Rattle.qos_profile.specs.Lookups.{number_or, number_at, value_at, facts_at}
use Rattle.qos_profile.specs.Across.{keeps_period, rate_at, is_at_most, keeps_kind, keeps_ranges, across_line}
use Rattle.qos_profile.specs.Large.{room_with, pipes_in, room_in, meters_in, first_above, too_large}
use Rattle.qos_profile.specs.Large as large
use Rattle.qos_profile.specs.Planned.{pool_of}
use Rattle.qos_profile.specs.Printed.{Part, sections_from, kind_number, size_told, gives, number_fact, value_fact, shaping_facts, meter_rate_facts, other_rate_facts, pool_part, port_part, subport_kind_part, pipe_kind_part, subport_part, subport_parts, codes_part, meter_part, rule_part, parts_of, printed_sections}
use Rattle.qos_profile.specs.Forms.{HasSizes, KeepsForms}
use Rattle.qos_profile.proofs.PlanParts.{all-at}
use Rattle.qos_profile.proofs.Found.{Each, each-part, each-section, none-fails}
use Rattle.qos_profile.proofs.Slotted.{placed, value-placed, number-placed, value-skip, slots, slots-others}

within-is : (least most n : ℕ) → least ≤ n → n ≤ most → is_within least most n ≡ true
within-is least most n l h = and_from (nat_le least n) (nat_le n most) (le-leb least n l) (le-leb n most h)

-- the period of a shaping
abbrev pub period_of : Shaping → ℕ
period_of (shapings.Whole w) = w.tc_period
period_of (shapings.Rate r) = r.tc_period_ms

pub period-is : (s : Shaping) (more : List Fact) (k : ℕ) → number_at (placed k (shaping_facts s ++ more)) 4 0 0 ≡ period_of s
period-is (shapings.Whole w) more k =
    let mid = slots 3 (Some 0) values.Number 0 w.tc_credits in
    let p = number_fact 4 w.tc_period in
    number-placed k 4 0 0 (shaping_facts (shapings.Whole w) ++ more)
    ∙ ap (λ fs. number_or 0 (value_at fs 4 0)) (append_assoc mid (p ∷ []) more)
    ∙ ap (number_or 0) (value-skip 4 0 mid (p ∷ more) (slots-others 3 (Some 0) values.Number 0 w.tc_credits 4 0 refl))
period-is (shapings.Rate r) more k =
    let mid = slots 3 (Some 1) values.Number 0 r.tc_rates in
    let p = number_fact 4 r.tc_period_ms in
    number-placed k 4 0 0 (shaping_facts (shapings.Rate r) ++ more)
    ∙ ap (λ fs. number_or 0 (value_at fs 4 0)) (append_assoc mid (p ∷ []) more)
    ∙ ap (number_or 0) (value-skip 4 0 mid (p ∷ more) (slots-others 3 (Some 1) values.Number 0 r.tc_rates 4 0 refl))

period-kept : (s : Shaping) (more : List Fact) (k : ℕ) → IsShaping s → keeps_period (placed k (shaping_facts s ++ more)) ≡ true
period-kept (shapings.Whole w) more k lim =
    ap (is_within 1 (2 ^ 40)) (period-is (shapings.Whole w) more k) ∙ within-is 1 (2 ^ 40) w.tc_period lim.tc_period.0 lim.tc_period.1
period-kept (shapings.Rate r) more k lim =
    ap (is_within 1 10000) (period-is (shapings.Rate r) more k) ∙ within-is 1 10000 r.tc_period_ms lim.tc_period_ms.0 lim.tc_period_ms.1

-- a meter's facts, from its parts
abbrev pub facts_of_meter : MeterKind → MeterRate → MeterRate → ℕ → ℕ → Value → Value → Value → Value → List Fact
facts_of_meter kind cir other cbs size b e f g =
    gives 0 0 0 (Some (kind_number kind)) (values.Word (kind_number kind)) ∷ gives 1 0 0 None b ∷ meter_rate_facts 2 None cir ++ other_rate_facts kind other ++ gives 4 0 0 None (values.Number cbs) ∷ gives 5 0 0 (size_told kind) (values.Number size) ∷ gives 6 0 0 None e ∷ gives 7 0 0 None f ∷ gives 8 0 0 None g ∷ []

some-size : (a b : ℕ) → 0 < a + b → not (a == 0 && b == 0) ≡ true
some-size zero b h = ap not (ne_eqb b 0 (λ e. absurd (omega arith)))
some-size (suc a) b h = ap (λ t. not (t && b == 0)) (ne_eqb (suc a) 0 (λ e. absurd (omega arith)))

both-sizes : (a b : ℕ) (t : Bool) → 0 < a → 0 < b → t ≡ true → (not (a == 0) && not (b == 0) && t) ≡ true
both-sizes a b t h g e =
    and_from (not (a == 0) && not (b == 0)) t (and_from (not (a == 0)) (not (b == 0)) (ap not (ne_eqb a 0 (λ s. absurd (omega arith)))) (ap not (ne_eqb b 0 (λ s. absurd (omega arith))))) e

rates-kept : (cir other : MeterRate) (cbs size : ℕ) (b e f g : Value) (k : ℕ) → IsAtMost (periods_of cir) (periods_of other) → let fs = placed k (facts_of_meter TrTcm cir other cbs size b e f g) in is_at_most (periods_of (rate_at fs 2)) (periods_of (rate_at fs 3)) ≡ true
rates-kept (Periods x y) (Periods z w) cbs size b e f g k h = le-leb (x * w) (z * y) h
rates-kept (Periods x y) (PerSecond z) cbs size b e f g k h =
    le-leb ((periods_of (Periods x y)).0 * (periods_of (PerSecond z)).1) ((periods_of (PerSecond z)).0 * (periods_of (Periods x y)).1) h
rates-kept (PerSecond x) (Periods z w) cbs size b e f g k h =
    le-leb ((periods_of (PerSecond x)).0 * (periods_of (Periods z w)).1) ((periods_of (Periods z w)).0 * (periods_of (PerSecond x)).1) h
rates-kept (PerSecond x) (PerSecond z) cbs size b e f g k h =
    le-leb ((periods_of (PerSecond x)).0 * (periods_of (PerSecond z)).1) ((periods_of (PerSecond z)).0 * (periods_of (PerSecond x)).1) h

kind-kept : (kind : MeterKind) (cir other : MeterRate) (cbs size : ℕ) (b e f g : Value) (k : ℕ) → (m : MeterPlan) → m.cbs ≡ cbs → m.other_size ≡ size → m.cir ≡ cir → m.other ≡ other → IsLawful kind m → let fs = placed k (facts_of_meter kind cir other cbs size b e f g) in keeps_kind (mode_of fs) fs ≡ true
kind-kept SrTcm (Periods x y) other cbs size b e f g k m p q r s h = some-size cbs size (let sum_is = h.0 in omega arith)
kind-kept SrTcm (PerSecond x) other cbs size b e f g k m p q r s h = some-size cbs size (let sum_is = h.0 in omega arith)
kind-kept Rfc4115 (Periods x y) (Periods z w) cbs size b e f g k m p q r s h = refl
kind-kept Rfc4115 (Periods x y) (PerSecond z) cbs size b e f g k m p q r s h = refl
kind-kept Rfc4115 (PerSecond x) (Periods z w) cbs size b e f g k m p q r s h = refl
kind-kept Rfc4115 (PerSecond x) (PerSecond z) cbs size b e f g k m p q r s h = refl
kind-kept TrTcm cir other cbs size b e f g k m p q r s h =
    trtcm cir other (subst (λ x. IsAtMost (periods_of x) (periods_of other)) r (subst (λ x. IsAtMost (periods_of m.cir) (periods_of x)) s h.2))
  where
    trtcm : (c o : MeterRate) → IsAtMost (periods_of c) (periods_of o) → let fs = placed k (facts_of_meter TrTcm c o cbs size b e f g) in keeps_kind (mode_of fs) fs ≡ true
    trtcm (Periods x y) (Periods z w) a =
        both-sizes cbs size (is_at_most (x, y) (z, w)) (let c = h.0 in omega arith) (let c = h.1 in omega arith) (rates-kept (Periods x y) (Periods z w) cbs size b e f g k a)
    trtcm (Periods x y) (PerSecond z) a =
        both-sizes cbs size (is_at_most (x, y) (periods_of (PerSecond z))) (let c = h.0 in omega arith) (let c = h.1 in omega arith) (rates-kept (Periods x y) (PerSecond z) cbs size b e f g k a)
    trtcm (PerSecond x) (Periods z w) a =
        both-sizes cbs size (is_at_most (periods_of (PerSecond x)) (z, w)) (let c = h.0 in omega arith) (let c = h.1 in omega arith) (rates-kept (PerSecond x) (Periods z w) cbs size b e f g k a)
    trtcm (PerSecond x) (PerSecond z) a =
        both-sizes cbs size (is_at_most (periods_of (PerSecond x)) (periods_of (PerSecond z))) (let c = h.0 in omega arith) (let c = h.1 in omega arith) (rates-kept (PerSecond x) (PerSecond z) cbs size b e f g k a)

each-range : (p : Plan) → KeepsLimits p → Each keeps_ranges p
each-range p lim = record {
  pool = λ k. refl;
  port = λ i port there k. refl;
  subport_kind = λ i kind there k. ap (λ fs. keeps_period (placed k fs)) (sym (append-nil (shaping_facts kind.1))) ∙ period-kept kind.1 [] k (all-at (λ x. (x.0 ≤ 63) × IsShaping x.1) p.subport_kinds i kind there lim.subport_kinds).1;
  pipe_kind = λ i kind there k. period-kept kind.shaping (value_fact 5 (values.Weights kind.weights) ∷ number_fact 6 kind.ov_weight ∷ []) k (all-at IsPipeKind p.pipe_kinds i kind there lim.pipe_kinds).shaping;
  subport = λ i j port s there below k. refl;
  codes = λ k. refl;
  meter = λ i m there k. kind-kept m.kind m.cir m.other m.cbs m.other_size (values.Word (cond m.aware 1 0)) (values.Word (cond (slice_index_or m.drops 0 false) 1 0)) (values.Word (cond (slice_index_or m.drops 1 false) 1 0)) (values.Word (cond (slice_index_or m.drops 2 false) 1 0)) k m refl refl refl refl (all-at IsMeter p.meters i m there lim.meters).lawful;
  rule = λ i r there k. refl;
}

pub nothing-across : (p : Plan) → KeepsLimits p → across_line (printed_sections p) ≡ None
unfolding across_line
nothing-across p lim =
    ap (option_map (λ s. s.line)) (none-fails (λ s. keeps_ranges s.head s.facts) (printed_sections p) (each-section keeps_ranges 1 (parts_of p) (each-part keeps_ranges p (each-range p lim))))

-- totals: the lines do not matter
pipes-placed : (head : Head) (k : ℕ) (fs : List Fact) → pipes_in head (placed k fs) ≡ pipes_in head fs
pipes-placed (heads.Subport a b) k fs = ap (min 4096) (number-placed k 1 0 0 fs)
pipes-placed heads.Pool k fs = refl
pipes-placed (heads.Port a) k fs = refl
pipes-placed (heads.SubportKind a) k fs = refl
pipes-placed (heads.PipeKind a) k fs = refl
pipes-placed heads.Codes k fs = refl
pipes-placed (heads.Meter a) k fs = refl
pipes-placed (heads.Rule a) k fs = refl
pipes-placed heads.Red k fs = refl

abbrev pub room_of : Part → ℕ
room_of q = pipes_in q.head q.facts * room_with (value_at q.facts 2 0)

rooms-sum : (n : ℕ) (parts : List Part) → sum_by room_in (sections_from n parts) ≡ sum_by room_of parts
rooms-sum n [] = refl
rooms-sum n (q ∷ qs) =
    let s : Section = record { line = n; head = q.head; facts = placed (n + 1) q.facts } in
    let here : room_in s ≡ room_of q = ap (λ x. x * room_with (value_at (placed (n + 1) q.facts) 2 0)) (pipes-placed q.head (n + 1) q.facts) ∙ ap (λ v. pipes_in q.head q.facts * room_with v) (value-placed (n + 1) 2 0 q.facts) in
    sum_by-cons room_in s (sections_from (n + 1 + length q.facts) qs)
    ∙ ap (λ x. x + sum_by room_in (sections_from (n + 1 + length q.facts) qs)) here
    ∙ ap (λ x. room_of q + x) (rooms-sum (n + 1 + length q.facts) qs)
    ∙ sym (sum_by-cons room_of q qs)

pipes-sum : (n : ℕ) (parts : List Part) → sum_by (λ s. pipes_in s.head s.facts) (sections_from n parts) ≡ sum_by (λ q. pipes_in q.head q.facts) parts
pipes-sum n [] = refl
pipes-sum n (q ∷ qs) =
    let s : Section = record { line = n; head = q.head; facts = placed (n + 1) q.facts } in
    sum_by-cons (λ x. pipes_in x.head x.facts) s (sections_from (n + 1 + length q.facts) qs)
    ∙ ap (λ x. x + sum_by (λ y. pipes_in y.head y.facts) (sections_from (n + 1 + length q.facts) qs)) (pipes-placed q.head (n + 1) q.facts)
    ∙ ap (λ x. pipes_in q.head q.facts + x) (pipes-sum (n + 1 + length q.facts) qs)
    ∙ sym (sum_by-cons (λ x. pipes_in x.head x.facts) q qs)

meters-sum : (n : ℕ) (parts : List Part) → sum_by (λ s. meters_in s.head) (sections_from n parts) ≡ sum_by (λ q. meters_in q.head) parts
meters-sum n [] = refl
meters-sum n (q ∷ qs) =
    let s : Section = record { line = n; head = q.head; facts = placed (n + 1) q.facts } in
    sum_by-cons (λ x. meters_in x.head) s (sections_from (n + 1 + length q.facts) qs)
    ∙ ap (λ x. meters_in q.head + x) (meters-sum (n + 1 + length q.facts) qs)
    ∙ sym (sum_by-cons (λ x. meters_in x.head) q qs)

-- the sum over a plan's parts, where only subports and meters count
record Counts (w : Part → ℕ) (p : Plan) (subports meters : ℕ) : Type 0 where
  pool : w (pool_part p.pool) ≡ 0
  port : (n : ℕ) (x : PortPlan) → w (port_part n x) ≡ 0
  subport_kind : (x : ℕ × Shaping) → w (subport_kind_part x) ≡ 0
  pipe_kind : (x : PipeKind) → w (pipe_kind_part x) ≡ 0
  subport : sum_by w (subport_parts 0 p.ports) ≡ subports
  codes : w (codes_part p.codes) ≡ 0
  meter : sum_by w (map meter_part p.meters) ≡ meters
  rule : (x : _) → w (rule_part p.meters x) ≡ 0

zero-numbered : {X : Type 0} (w : Part → ℕ) (f : ℕ → X → Part) (n : ℕ) (xs : List X) → ((j : ℕ) (x : X) → w (f j x) ≡ 0) → sum_by w (each_from f n xs) ≡ 0
zero-numbered w f n [] h = refl
zero-numbered w f n (x ∷ xs) h =
    sum_by-cons w (f n x) (each_from f (n + 1) xs) ∙ (let a = h n x in let b = zero-numbered w f (n + 1) xs h in omega arith)

zero-mapped : {X : Type 0} (w : Part → ℕ) (f : X → Part) (xs : List X) → ((x : X) → w (f x) ≡ 0) → sum_by w (map f xs) ≡ 0
zero-mapped w f [] h = refl
zero-mapped w f (x ∷ xs) h = sum_by-cons w (f x) (map f xs) ∙ (let a = h x in let b = zero-mapped w f xs h in omega arith)

counted : (w : Part → ℕ) (p : Plan) (subports meters : ℕ) → Counts w p subports meters → sum_by w (parts_of p) ≡ subports + meters
counted w p subports meters c =
    let xs0 = pool_part p.pool ∷ each port_part p.ports in
    let xs1 = map subport_kind_part p.subport_kinds in
    let xs2 = map pipe_kind_part p.pipe_kinds in
    let xs3 = subport_parts 0 p.ports in
    let xs4 = codes_part p.codes ∷ map meter_part p.meters in
    let xs5 = map (rule_part p.meters) p.rules in
    let a = sum_by-append w (xs0 ++ xs1 ++ xs2 ++ xs3 ++ xs4) xs5 in
    let b = sum_by-append w (xs0 ++ xs1 ++ xs2 ++ xs3) xs4 in
    let d = sum_by-append w (xs0 ++ xs1 ++ xs2) xs3 in
    let e = sum_by-append w (xs0 ++ xs1) xs2 in
    let f = sum_by-append w xs0 xs1 in
    let g = sum_by-cons w (pool_part p.pool) (each port_part p.ports) in
    let h = sum_by-cons w (codes_part p.codes) (map meter_part p.meters) in
    let z0 = zero-numbered w port_part 0 p.ports c.port in
    let z1 = zero-mapped w subport_kind_part p.subport_kinds c.subport_kind in
    let z2 = zero-mapped w pipe_kind_part p.pipe_kinds c.pipe_kind in
    let z5 = zero-mapped w (rule_part p.meters) p.rules c.rule in
    let s = c.subport in
    let m = c.meter in
    let u = c.pool in
    let v = c.codes in
    omega arith

-- the packets of a pipe
sum-min : (ns : List ℕ) → All (λ n. n ≤ 65536) ns → sum_by (min 65536) ns ≡ sum ns
sum-min [] h = refl
sum-min (n ∷ ns) h =
    let here = All-head (λ x. x ≤ 65536) n ns h in
    sum_by-cons (min 65536) n ns ∙ (let rest = sum-min ns (All-tail (λ x. x ≤ 65536) n ns h) in let all = sum_by-cons (λ x. x) n ns in omega arith)

room-is : (sizes : List ℕ) → length sizes ≡ 13 → All (λ n. n ≤ 65536) sizes → large.pipe_room sizes ≡ plan.pipe_room sizes
room-is sizes size h =
    let last = h 12 0 (omega (arith, size)) in
    let whole = sum-min sizes h in
    omega arith

rooms-of : (n j : ℕ) (ss : List SubportPlan) (ks : List (ℕ × Shaping)) (ps : List PipeKind) → All (IsSubport ks ps) ss → All (λ s. length s.sizes ≡ 13) ss → sum_by room_of (each_from (subport_part n) j ss) ≡ sum_by plan.subport_room ss
rooms-of n j [] ks ps h g = refl
rooms-of n j (s ∷ ss) ks ps h g =
    let lim = All-head (IsSubport ks ps) s ss h in
    let room = room-is s.sizes (All-head (λ x. length x.sizes ≡ 13) s ss g) lim.sizes in
    let few : min 4096 (length s.pipes) ≡ length s.pipes = omega (arith, lim.pipes.1) in
    let here : room_of (subport_part n j s) ≡ plan.subport_room s = ap (λ x. x * large.pipe_room s.sizes) few ∙ ap (λ x. length s.pipes * x) room in
    sum_by-cons room_of (subport_part n j s) (each_from (subport_part n) (j + 1) ss)
    ∙ ap (λ x. x + sum_by room_of (each_from (subport_part n) (j + 1) ss)) here
    ∙ ap (λ x. plan.subport_room s + x) (rooms-of n (j + 1) ss ks ps (All-tail (IsSubport ks ps) s ss h) (All-tail (λ x. length x.sizes ≡ 13) s ss g))
    ∙ sym (sum_by-cons plan.subport_room s ss)

all-rooms : (n : ℕ) (ports : List PortPlan) (ks : List (ℕ × Shaping)) (ps : List PipeKind) → All (IsPort ks ps) ports → All HasSizes ports → sum_by room_of (subport_parts n ports) ≡ plan.queue_total ports
all-rooms n [] ks ps h g = refl
all-rooms n (port ∷ ports) ks ps h g =
    let lim = All-head (IsPort ks ps) port ports h in
    sum_by-append room_of (each (subport_part n) port.subports) (subport_parts (n + 1) ports)
    ∙ ap (λ x. x + sum_by room_of (subport_parts (n + 1) ports)) (rooms-of n 0 port.subports ks ps lim.each (All-head HasSizes port ports g))
    ∙ ap (λ x. sum_by plan.subport_room port.subports + x) (all-rooms (n + 1) ports ks ps (All-tail (IsPort ks ps) port ports h) (All-tail HasSizes port ports g))
    ∙ sym (sum_by-cons (λ x. sum_by plan.subport_room x.subports) port ports)

pipes-of : (n j : ℕ) (ss : List SubportPlan) (ks : List (ℕ × Shaping)) (ps : List PipeKind) → All (IsSubport ks ps) ss → sum_by (λ q. pipes_in q.head q.facts) (each_from (subport_part n) j ss) ≡ sum_by (λ s. length s.pipes) ss
pipes-of n j [] ks ps h = refl
pipes-of n j (s ∷ ss) ks ps h =
    let lim = All-head (IsSubport ks ps) s ss h in
    let few : min 4096 (length s.pipes) ≡ length s.pipes = omega (arith, lim.pipes.1) in
    sum_by-cons (λ q. pipes_in q.head q.facts) (subport_part n j s) (each_from (subport_part n) (j + 1) ss)
    ∙ ap (λ x. x + sum_by (λ q. pipes_in q.head q.facts) (each_from (subport_part n) (j + 1) ss)) few
    ∙ ap (λ x. length s.pipes + x) (pipes-of n (j + 1) ss ks ps (All-tail (IsSubport ks ps) s ss h))
    ∙ sym (sum_by-cons (λ x. length x.pipes) s ss)

all-pipes : (n : ℕ) (ports : List PortPlan) (ks : List (ℕ × Shaping)) (ps : List PipeKind) → All (IsPort ks ps) ports → sum_by (λ q. pipes_in q.head q.facts) (subport_parts n ports) ≡ plan.pipe_total ports
all-pipes n [] ks ps h = refl
all-pipes n (port ∷ ports) ks ps h =
    let lim = All-head (IsPort ks ps) port ports h in
    sum_by-append (λ q. pipes_in q.head q.facts) (each (subport_part n) port.subports) (subport_parts (n + 1) ports)
    ∙ ap (λ x. x + sum_by (λ q. pipes_in q.head q.facts) (subport_parts (n + 1) ports)) (pipes-of n 0 port.subports ks ps lim.each)
    ∙ ap (λ x. sum_by (λ s. length s.pipes) port.subports + x) (all-pipes (n + 1) ports ks ps (All-tail (IsPort ks ps) port ports h))
    ∙ sym (sum_by-cons (λ x. sum_by (λ s. length s.pipes) x.subports) port ports)

no-meters : (n : ℕ) (ports : List PortPlan) → sum_by (λ q. meters_in q.head) (subport_parts n ports) ≡ 0
no-meters n [] = refl
no-meters n (port ∷ ports) =
    sum_by-append (λ q. meters_in q.head) (each (subport_part n) port.subports) (subport_parts (n + 1) ports)
    ∙ (let a = zero-numbered (λ q. meters_in q.head) (subport_part n) 0 port.subports (λ j x. refl) in let b = no-meters (n + 1) ports in omega arith)

all-meters : (ms : List MeterPlan) → sum_by (λ q. meters_in q.head) (map meter_part ms) ≡ length ms
all-meters [] = refl
all-meters (m ∷ ms) =
    sum_by-cons (λ q. meters_in q.head) (meter_part m) (map meter_part ms) ∙ (let rest = all-meters ms in omega arith)

pub nothing-large : (p : Plan) → KeepsLimits p → KeepsForms p → too_large (printed_sections p) ≡ None
unfolding too_large pool_of
nothing-large p lim form =
    let sections = printed_sections p in
    let queues : large.queue_total sections ≡ plan.queue_total p.ports + 0 = rooms-sum 1 (parts_of p) ∙ counted room_of p (plan.queue_total p.ports) 0 (record {
      pool = omega arith;
      port = λ n x. omega arith;
      subport_kind = λ x. omega arith;
      pipe_kind = λ x. omega arith;
      subport = all-rooms 0 p.ports p.subport_kinds p.pipe_kinds lim.each_port form.ports;
      codes = omega arith;
      meter = zero-mapped room_of meter_part p.meters (λ m. omega arith);
      rule = λ x. omega arith;
    }) in
    let pipes : large.pipe_total sections ≡ plan.pipe_total p.ports + 0 = pipes-sum 1 (parts_of p) ∙ counted (λ q. pipes_in q.head q.facts) p (plan.pipe_total p.ports) 0 (record {
      pool = refl;
      port = λ n x. refl;
      subport_kind = λ x. refl;
      pipe_kind = λ x. refl;
      subport = all-pipes 0 p.ports p.subport_kinds p.pipe_kinds lim.each_port;
      codes = refl;
      meter = zero-mapped (λ q. pipes_in q.head q.facts) meter_part p.meters (λ m. refl);
      rule = λ x. refl;
    }) in
    let meters : large.meter_total sections ≡ 0 + length p.meters = meters-sum 1 (parts_of p) ∙ counted (λ q. meters_in q.head) p 0 (length p.meters) (record {
      pool = refl;
      port = λ n x. refl;
      subport_kind = λ x. refl;
      pipe_kind = λ x. refl;
      subport = no-meters 0 p.ports;
      codes = refl;
      meter = all-meters p.meters;
      rule = λ x. refl;
    }) in
    let slot_sum : large.slot_total (facts_at sections heads.Pool) ≡ p.pool.slots * p.pool.slot_bytes = ap (λ x. x * min 262144 p.pool.slot_bytes) (let e : min 1048576 p.pool.slots ≡ p.pool.slots = omega (arith, lim.pool.slots.1) in e) ∙ ap (λ x. p.pool.slots * x) (let e : min 262144 p.pool.slot_bytes ≡ p.pool.slot_bytes = omega (arith, lim.pool.slot_bytes.1) in e) in
    let q = le-ltb 4194304 (large.queue_total sections) (omega (arith, queues, lim.queues)) in
    let r = le-ltb 65536 (large.pipe_total sections) (omega (arith, pipes, lim.pipes)) in
    let s = le-ltb (2 ^ 31) (large.slot_total (facts_at sections heads.Pool)) (subst (λ x. x ≤ 2 ^ 31) (sym slot_sum) lim.pool.product) in
    let t = le-ltb 64 (large.meter_total sections) (omega (arith, meters, lim.meter_count)) in
    ap (λ b. cond b (Some (large.queue_total sections)) (cond (nat_lt 65536 (large.pipe_total sections)) (Some (large.pipe_total sections)) (cond (nat_lt (2 ^ 31) (large.slot_total (facts_at sections heads.Pool))) (Some (large.slot_total (facts_at sections heads.Pool))) (cond (nat_lt 64 (large.meter_total sections)) (Some (large.meter_total sections)) None)))) q
    ∙ ap (λ b. cond b (Some (large.pipe_total sections)) (cond (nat_lt (2 ^ 31) (large.slot_total (facts_at sections heads.Pool))) (Some (large.slot_total (facts_at sections heads.Pool))) (cond (nat_lt 64 (large.meter_total sections)) (Some (large.meter_total sections)) None))) r
    ∙ ap (λ b. cond b (Some (large.slot_total (facts_at sections heads.Pool))) (cond (nat_lt 64 (large.meter_total sections)) (Some (large.meter_total sections)) None)) s
    ∙ ap (λ b. cond {A = Option ℕ} b (Some (large.meter_total sections)) None) t
