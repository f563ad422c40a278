-- The meters and rules of a plan are said again by its sections.
use Rattle.std.proofs.Common.{◌≡◌, ◌==◌, ℕ, zero, suc, ◌+◌, ◌-◌, Bool, true, false, cond, not, List, [], ◌∷◌, ◌++◌, length, map, filter, take, replicate, slice_get, Some, refl, sym, ap, ◌∙◌, subst, arith}
use Rattle.std.specs.List.{list_all, position_or_len, slice_index_or}
use Rattle.std.specs.Str.{bytes_eq}
use Rattle.std.proofs.lemmas.Bool.{and_parts, and_from}
use Rattle.std.proofs.lemmas.List.{append-nil, append_assoc, take_at}
use Rattle.std.proofs.lemmas.List.Elements.{filter-append}
use Rattle.std.proofs.lemmas.List.Folds.{list_all-append}
use Rattle.profile_plan.specs.declared.port.PortPlan.{PortPlan}
use Rattle.profile_plan.specs.declared.meter.MeterKind.{MeterKind}
use Rattle.profile_plan.specs.declared.meter.MeterKind.TheVariants.{SrTcm, TrTcm, Rfc4115}
use Rattle.profile_plan.specs.declared.meter.MeterRate.{MeterRate}
use Rattle.profile_plan.specs.declared.meter.MeterRate.TheVariants.{Periods, PerSecond}
use Rattle.profile_plan.specs.declared.meter.MeterPlan.{MeterPlan}
use Rattle.profile_plan.specs.Limits.{IsMeter, IsLawful}
use Rattle.profile_plan.specs.Profile.{Plan, KeepsLimits, have_names_apart}
use Rattle.profile_print.specs.Written.{each, each_from}
use Rattle.qos_profile.specs.declared.value.Value.{Value}
use Rattle.qos_profile.specs.declared.value.Value.TheVariants as values
use Rattle.qos_profile.specs.declared.head.Head.{Head}
use Rattle.qos_profile.specs.declared.head.Head.TheVariants as heads
use Rattle.qos_profile.specs.declared.section.Section.{Section}
use Rattle.qos_profile.specs.Values.{padded}
use Rattle.qos_profile.specs.Sections.{same_head}
use Rattle.qos_profile.specs.Planned.{is_meter, name_in, meter_of, meter_sections, meters_of, meter_number}
use Rattle.qos_profile.specs.Printed.{Part, sections_from, pool_part, port_part, subport_kind_part, pipe_kind_part, subport_part, subport_parts, codes_part, meter_part, rule_part, parts_of, printed_sections}
use Rattle.qos_profile.specs.Forms.{HasActions, KeepsForms}
use Rattle.qos_profile.proofs.Heads.{padded-differ}
use Rattle.qos_profile.proofs.PlanParts.{all-at}
use Rattle.qos_profile.proofs.Found.{same-self}
use Rattle.qos_profile.proofs.Slotted.{placed}
use Rattle.qos_profile.proofs.KindsBack.{choice-back}
use Rattle.qos_profile.proofs.Lawful.{facts_of_meter}

-- sections and more sections
sections-append : (n : ℕ) (xs ys : List Part) → (m : ℕ) × (sections_from n (xs ++ ys) ≡ sections_from n xs ++ sections_from m ys)
sections-append n [] ys = (n, refl)
sections-append n (x ∷ xs) ys =
    let more = sections-append (n + 1 + length x.facts) xs ys in
    (more.0, ap (λ ss. record { line = n; head = x.head; facts = placed (n + 1) x.facts } ∷ ss) more.1)

pub none-kept : (q : Head → Bool) (n : ℕ) (parts : List Part) → list_all (λ x. not (q x.head)) parts ≡ true → filter (λ s. q s.head) (sections_from n parts) ≡ []
none-kept q n [] h = refl
none-kept q n (x ∷ xs) h =
    let split = and_parts (not (q x.head)) (list_all (λ y. not (q y.head)) xs) h in
    ap (λ t. cond t (record { line = n; head = x.head; facts = placed (n + 1) x.facts } ∷ filter (λ s. q s.head) (sections_from (n + 1 + length x.facts) xs)) (filter (λ s. q s.head) (sections_from (n + 1 + length x.facts) xs))) (is-false (q x.head) split.0)
    ∙ none-kept q (n + 1 + length x.facts) xs split.1
  where
    is-false : (t : Bool) → not t ≡ true → t ≡ false
    is-false true e = absurd (cc)
    is-false false e = refl

meters-kept : (n : ℕ) (ms : List MeterPlan) → filter (λ s. is_meter s.head) (sections_from n (map meter_part ms)) ≡ sections_from n (map meter_part ms)
meters-kept n [] = refl
meters-kept n (m ∷ ms) =
    ap (λ ss. record { line = n; head = heads.Meter (padded m.name); facts = placed (n + 1) (meter_part m).facts } ∷ ss) (meters-kept (n + 1 + length (meter_part m).facts) ms)

pass-numbered : {X : Type 0} (q : Part → Bool) (f : ℕ → X → Part) (n : ℕ) (xs : List X) → ((j : ℕ) (x : X) → q (f j x) ≡ true) → list_all q (each_from f n xs) ≡ true
pass-numbered q f n [] h = refl
pass-numbered q f n (x ∷ xs) h =
    and_from (q (f n x)) (list_all q (each_from f (n + 1) xs)) (h n x) (pass-numbered q f (n + 1) xs h)

pub pass-mapped : {X : Type 0} (q : Part → Bool) (f : X → Part) (xs : List X) → ((x : X) → q (f x) ≡ true) → list_all q (map f xs) ≡ true
pass-mapped q f [] h = refl
pass-mapped q f (x ∷ xs) h = and_from (q (f x)) (list_all q (map f xs)) (h x) (pass-mapped q f xs h)

pass-subports : (q : Part → Bool) (n : ℕ) (ports : List PortPlan) → ((m j : ℕ) (s : _) → q (subport_part m j s) ≡ true) → list_all q (subport_parts n ports) ≡ true
pass-subports q n [] h = refl
pass-subports q n (port ∷ ports) h =
    list_all-append q (each (subport_part n) port.subports) (subport_parts (n + 1) ports)
    ∙ and_from (list_all q (each (subport_part n) port.subports)) (list_all q (subport_parts (n + 1) ports)) (pass-numbered q (subport_part n) 0 port.subports (h n)) (pass-subports q (n + 1) ports h)

-- the parts before the meters
abbrev pub before_meters : Plan → List Part
before_meters p =
    pool_part p.pool
    ∷ each port_part p.ports
    ++ map subport_kind_part p.subport_kinds
    ++ map pipe_kind_part p.pipe_kinds
    ++ subport_parts 0 p.ports
    ++ codes_part p.codes
    ∷ []

pub pass-before : (q : Part → Bool) (p : Plan) → q (pool_part p.pool) ≡ true → ((j : ℕ) (x : _) → q (port_part j x) ≡ true) → ((x : _) → q (subport_kind_part x) ≡ true) → ((x : _) → q (pipe_kind_part x) ≡ true) → ((m j : ℕ) (s : _) → q (subport_part m j s) ≡ true) → q (codes_part p.codes) ≡ true → list_all q (before_meters p) ≡ true
pass-before q p a b c d e f =
    let xs0 = pool_part p.pool ∷ each port_part p.ports in
    let xs1 = map subport_kind_part p.subport_kinds in
    let xs2 = map pipe_kind_part p.pipe_kinds in
    let xs3 = subport_parts 0 p.ports in
    let xs4 = codes_part p.codes ∷ [] in
    let h0 = and_from (q (pool_part p.pool)) (list_all q (each port_part p.ports)) a (pass-numbered q port_part 0 p.ports b) in
    let h1 = list_all-append q xs0 xs1 ∙ and_from (list_all q xs0) (list_all q xs1) h0 (pass-mapped q subport_kind_part p.subport_kinds c) in
    let h2 = list_all-append q (xs0 ++ xs1) xs2 ∙ and_from (list_all q (xs0 ++ xs1)) (list_all q xs2) h1 (pass-mapped q pipe_kind_part p.pipe_kinds d) in
    let h3 = list_all-append q (xs0 ++ xs1 ++ xs2) xs3 ∙ and_from (list_all q (xs0 ++ xs1 ++ xs2)) (list_all q xs3) h2 (pass-subports q 0 p.ports e) in
    list_all-append q (xs0 ++ xs1 ++ xs2 ++ xs3) xs4 ∙ and_from (list_all q (xs0 ++ xs1 ++ xs2 ++ xs3)) (list_all q xs4) h3 (and_from (q (codes_part p.codes)) true f refl)

-- the meters' sections stand together
pub meter-sections : (p : Plan) → (m : ℕ) × (meter_sections (printed_sections p) ≡ sections_from m (map meter_part p.meters))
meter-sections p =
    let front = before_meters p in
    let meters = map meter_part p.meters in
    let rules = map (rule_part p.meters) p.rules in
    let q : Head → Bool = is_meter in
    let keep : Section → Bool = λ s. is_meter s.head in
    let whole : parts_of p ≡ (front ++ meters) ++ rules = ap (λ xs. xs ++ rules) (sym (append_assoc (pool_part p.pool ∷ each port_part p.ports ++ map subport_kind_part p.subport_kinds ++ map pipe_kind_part p.pipe_kinds ++ subport_parts 0 p.ports) (codes_part p.codes ∷ []) meters)) in
    let a = sections-append 1 (front ++ meters) rules in
    let b = sections-append 1 front meters in (
      b.0,
      ap (λ xs. filter keep (sections_from 1 xs)) whole
          ∙ ap (filter keep) a.1
          ∙ filter-append keep (sections_from 1 (front ++ meters)) (sections_from a.0 rules)
          ∙ ap (λ ss. filter keep (sections_from 1 (front ++ meters)) ++ ss) (none-kept q a.0 rules (pass-mapped (λ x. not (q x.head)) (rule_part p.meters) p.rules (λ x. refl)))
          ∙ append-nil (filter keep (sections_from 1 (front ++ meters)))
          ∙ ap (filter keep) b.1
          ∙ filter-append keep (sections_from 1 front) (sections_from b.0 meters)
          ∙ ap (λ ss. ss ++ filter keep (sections_from b.0 meters)) (none-kept q 1 front (pass-before (λ x. not (q x.head)) p refl (λ j x. refl) (λ x. refl) (λ x. refl) (λ m j s. refl) refl))
          ∙ meters-kept b.0 p.meters,
    )

-- a meter
name-back : (w : List ℕ) → name_in (heads.Meter (padded w)) ≡ w
name-back w = take_at w (replicate (32 - length w) 0) (length w) refl

three : (ds : List Bool) → length ds ≡ 3 → (slice_index_or ds 0 false ∷ slice_index_or ds 1 false ∷ slice_index_or ds 2 false ∷ []) ≡ ds
three [] h = absurd (omega arith)
three (a ∷ []) h = absurd (omega arith)
three (a ∷ b ∷ []) h = absurd (omega arith)
three (a ∷ b ∷ c ∷ []) h = refl
three (a ∷ b ∷ c ∷ d ∷ ds) h = absurd (omega arith)

abbrev bit : Bool → Value
bit b = values.Word (cond b 1 0)

-- all but the name, by kind and rates
fields-back : (name : List ℕ) (kind : MeterKind) (cir other : MeterRate) (cbs size : ℕ) (b e f g : Bool) (k : ℕ) → (kind ≡ SrTcm → other ≡ Periods 0 1) → meter_of (heads.Meter (padded name)) (placed k (facts_of_meter kind cir other cbs size (bit b) (bit e) (bit f) (bit g))) ≡ record { name = take (length name) (name ++ replicate (32 - length name) 0); kind = kind; aware = cond b 1 0 == 1; cir = cir; other = other; cbs = cbs; other_size = size; drops = (cond e 1 0 == 1) ∷ (cond f 1 0 == 1) ∷ (cond g 1 0 == 1) ∷ [] }
unfolding meter_of
fields-back name SrTcm (Periods x y) other cbs size b e f g k h =
    ap (λ o. record { name = take (length name) (name ++ replicate (32 - length name) 0); kind = SrTcm; aware = cond b 1 0 == 1; cir = Periods x y; other = o; cbs = cbs; other_size = size; drops = (cond e 1 0 == 1) ∷ (cond f 1 0 == 1) ∷ (cond g 1 0 == 1) ∷ [] }) (sym (h refl))
fields-back name SrTcm (PerSecond x) other cbs size b e f g k h =
    ap (λ o. record { name = take (length name) (name ++ replicate (32 - length name) 0); kind = SrTcm; aware = cond b 1 0 == 1; cir = PerSecond x; other = o; cbs = cbs; other_size = size; drops = (cond e 1 0 == 1) ∷ (cond f 1 0 == 1) ∷ (cond g 1 0 == 1) ∷ [] }) (sym (h refl))
fields-back name TrTcm (Periods x y) (Periods z w) cbs size b e f g k h = refl
fields-back name TrTcm (Periods x y) (PerSecond z) cbs size b e f g k h = refl
fields-back name TrTcm (PerSecond x) (Periods z w) cbs size b e f g k h = refl
fields-back name TrTcm (PerSecond x) (PerSecond z) cbs size b e f g k h = refl
fields-back name Rfc4115 (Periods x y) (Periods z w) cbs size b e f g k h = refl
fields-back name Rfc4115 (Periods x y) (PerSecond z) cbs size b e f g k h = refl
fields-back name Rfc4115 (PerSecond x) (Periods z w) cbs size b e f g k h = refl
fields-back name Rfc4115 (PerSecond x) (PerSecond z) cbs size b e f g k h = refl

lawful-other : (m : MeterPlan) → IsLawful m.kind m → m.kind ≡ SrTcm → m.other ≡ Periods 0 1
lawful-other m h e = (subst (λ k. IsLawful k m) e h).1

meter-back : (m : MeterPlan) (k : ℕ) → IsMeter m → HasActions m → meter_of (heads.Meter (padded m.name)) (placed k (meter_part m).facts) ≡ m
meter-back m k lim form =
    let e = slice_index_or m.drops 0 false in
    let f = slice_index_or m.drops 1 false in
    let g = slice_index_or m.drops 2 false in
    fields-back m.name m.kind m.cir m.other m.cbs m.other_size m.aware e f g k (lawful-other m lim.lawful)
    ∙ ap (λ n. record { name = n; kind = m.kind; aware = cond m.aware 1 0 == 1; cir = m.cir; other = m.other; cbs = m.cbs; other_size = m.other_size; drops = (cond e 1 0 == 1) ∷ (cond f 1 0 == 1) ∷ (cond g 1 0 == 1) ∷ [] }) (name-back m.name)
    ∙ ap (λ a. record { name = m.name; kind = m.kind; aware = a; cir = m.cir; other = m.other; cbs = m.cbs; other_size = m.other_size; drops = (cond e 1 0 == 1) ∷ (cond f 1 0 == 1) ∷ (cond g 1 0 == 1) ∷ [] }) (choice-back m.aware)
    ∙ ap (λ x. record { name = m.name; kind = m.kind; aware = m.aware; cir = m.cir; other = m.other; cbs = m.cbs; other_size = m.other_size; drops = x ∷ (cond f 1 0 == 1) ∷ (cond g 1 0 == 1) ∷ [] }) (choice-back e)
    ∙ ap (λ x. record { name = m.name; kind = m.kind; aware = m.aware; cir = m.cir; other = m.other; cbs = m.cbs; other_size = m.other_size; drops = e ∷ x ∷ (cond g 1 0 == 1) ∷ [] }) (choice-back f)
    ∙ ap (λ x. record { name = m.name; kind = m.kind; aware = m.aware; cir = m.cir; other = m.other; cbs = m.cbs; other_size = m.other_size; drops = e ∷ f ∷ x ∷ [] }) (choice-back g)
    ∙ ap (λ ds. record { name = m.name; kind = m.kind; aware = m.aware; cir = m.cir; other = m.other; cbs = m.cbs; other_size = m.other_size; drops = ds }) (three m.drops form)

meters-back : (n : ℕ) (ms : List MeterPlan) → ((i : ℕ) (m : MeterPlan) → slice_get ms i ≡ Some m → IsMeter m × HasActions m) → map (λ s. meter_of s.head s.facts) (sections_from n (map meter_part ms)) ≡ ms
meters-back n [] h = refl
meters-back n (m ∷ ms) h =
    let here = h 0 m refl in
    ap (λ x. x ∷ map (λ s. meter_of s.head s.facts) (sections_from (n + 1 + length (meter_part m).facts) (map meter_part ms))) (meter-back m (n + 1) here.0 here.1)
    ∙ ap (λ xs. m ∷ xs) (meters-back (n + 1 + length (meter_part m).facts) ms (λ i x there. h (suc i) x there))

-- the place of a meter among the meters
place-back : (n : ℕ) (ms : List MeterPlan) (i : ℕ) (m : MeterPlan) → have_names_apart ms ≡ true → slice_get ms i ≡ Some m → position_or_len (λ s. same_head s.head (heads.Meter (padded m.name))) (sections_from n (map meter_part ms)) ≡ i
place-back n [] i m h there = absurd (cc)
place-back n (x ∷ xs) zero m h there =
    let same : x ≡ m = same-some x m there in
    let here : same_head (heads.Meter (padded x.name)) (heads.Meter (padded m.name)) ≡ true = subst (λ y. same_head (heads.Meter (padded x.name)) (heads.Meter (padded y.name)) ≡ true) same (same-self (heads.Meter (padded x.name)) refl) in
    ap (λ t. cond (not t) (1 + position_or_len (λ s. same_head s.head (heads.Meter (padded m.name))) (sections_from (n + 1 + length (meter_part x).facts) (map meter_part xs))) 0) here
  where
    same-some : {Y : Type 0} (a b : Y) → Some a ≡ Some b → a ≡ b
    same-some a b q = cc
place-back n (x ∷ xs) (suc i) m h there =
    let split = and_parts (list_all (λ other. not (bytes_eq x.name other.name)) xs) (have_names_apart xs) h in
    let differ : not (bytes_eq x.name m.name) ≡ true = at xs i there split.0 in
    let other : same_head (heads.Meter (padded x.name)) (heads.Meter (padded m.name)) ≡ false = is-false (same_head (heads.Meter (padded x.name)) (heads.Meter (padded m.name))) (padded-differ x.name m.name differ) in
    ap (λ t. cond (not t) (1 + position_or_len (λ s. same_head s.head (heads.Meter (padded m.name))) (sections_from (n + 1 + length (meter_part x).facts) (map meter_part xs))) 0) other
    ∙ (let rest = place-back (n + 1 + length (meter_part x).facts) xs i m split.1 there in omega arith)
  where
    is-false : (t : Bool) → not t ≡ true → t ≡ false
    is-false true e = absurd (cc)
    is-false false e = refl

    same-some : {Y : Type 0} (a b : Y) → Some a ≡ Some b → a ≡ b
    same-some a b q = cc

    at : (ys : List MeterPlan) (j : ℕ) → slice_get ys j ≡ Some m → list_all (λ other. not (bytes_eq x.name other.name)) ys ≡ true → not (bytes_eq x.name m.name) ≡ true
    at [] j e g = absurd (cc)
    at (y ∷ ys) zero e g =
        subst (λ z. not (bytes_eq x.name z.name) ≡ true) (same-some y m e) (and_parts (not (bytes_eq x.name y.name)) (list_all (λ other. not (bytes_eq x.name other.name)) ys) g).0
    at (y ∷ ys) (suc j) e g =
        at ys j e (and_parts (not (bytes_eq x.name y.name)) (list_all (λ other. not (bytes_eq x.name other.name)) ys) g).1

module _ (p : Plan) (lim : KeepsLimits p) (form : KeepsForms p) where
  pub meters-same : meters_of (printed_sections p) ≡ p.meters
  meters-same =
      let sections = meter-sections p in
      ap (map (λ s. meter_of s.head s.facts)) sections.1
      ∙ meters-back sections.0 p.meters (λ i m there. (all-at IsMeter p.meters i m there lim.meters, all-at HasActions p.meters i m there form.meters))

  pub number-same : (i : ℕ) (m : MeterPlan) → slice_get p.meters i ≡ Some m → meter_number (printed_sections p) (padded m.name) ≡ i
  number-same i m there =
      let sections = meter-sections p in
      ap (position_or_len (λ s. same_head s.head (heads.Meter (padded m.name)))) sections.1 ∙ place-back sections.0 p.meters i m lim.meter_names there
