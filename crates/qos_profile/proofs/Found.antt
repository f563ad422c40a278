-- What is found among the sections of a plan.
use Rattle.std.proofs.Common.{◌≡◌, ◌==◌, ℕ, zero, suc, ◌+◌, Bool, true, false, cond, not, ◌||◌, List, [], ◌∷◌, ◌++◌, length, map, find, slice_get, Some, None, refl, sym, ap, ◌∙◌, subst, arith, ◌⊎◌, inl, inr}
use Rattle.std.specs.List.{list_all, list_any}
use Rattle.std.specs.Str.{bytes_eq}
use Rattle.std.proofs.lemmas.Bool.{and_parts, and_from, or_left, or_right, eq-eqb}
use Rattle.std.proofs.lemmas.Slice.Eq.{bytes_eq-Decides}
use Rattle.profile_plan.specs.declared.port.PortPlan.{PortPlan}
use Rattle.profile_plan.specs.declared.port.SubportPlan.{SubportPlan}
use Rattle.profile_plan.specs.declared.shaping.Shaping.{Shaping}
use Rattle.profile_plan.specs.declared.shaping.PipeKind.{PipeKind}
use Rattle.profile_plan.specs.declared.meter.MeterPlan.{MeterPlan}
use Rattle.profile_plan.specs.declared.rule.RulePlan.{RulePlan}
use Rattle.profile_plan.specs.Profile.{Plan}
use Rattle.profile_print.specs.Written.{each, each_from}
use Rattle.qos_profile.specs.declared.fact.Fact.{Fact}
use Rattle.qos_profile.specs.declared.head.Head.{Head}
use Rattle.qos_profile.specs.declared.head.Head.TheVariants as heads
use Rattle.qos_profile.specs.Sections.{same_head, is_red}
use Rattle.qos_profile.specs.Lookups.{is_there, facts_at, facts_or_none}
use Rattle.qos_profile.specs.Printed.{Part, at_line, sections_from, pool_part, port_part, subport_kind_part, pipe_kind_part, subport_part, subport_parts, codes_part, meter_part, rule_part, parts_of}
use Rattle.qos_profile.proofs.Blocks.{each_pair, differs}
use Rattle.qos_profile.proofs.Heads.{apart}

-- a test of a head and its facts holds of each part, on whichever lines it stands
abbrev pub EachPart : (Head → List Fact → Bool) → List Part → Type 0
EachPart P [] = Unit {0}
EachPart P (part ∷ parts) = ((k : ℕ) → P part.head (each_from at_line k part.facts) ≡ true) × EachPart P parts

each-append : (P : Head → List Fact → Bool) (xs ys : List Part) → EachPart P xs → EachPart P ys → EachPart P (xs ++ ys)
each-append P [] ys h g = g
each-append P (x ∷ xs) ys h g = (h.0, each-append P xs ys h.1 g)

pub each-section : (P : Head → List Fact → Bool) (n : ℕ) (parts : List Part) → EachPart P parts → list_all (λ s. P s.head s.facts) (sections_from n parts) ≡ true
each-section P n [] h = refl
each-section P n (part ∷ parts) h =
    and_from (P part.head (each_from at_line (n + 1) part.facts)) (list_all (λ s. P s.head s.facts) (sections_from (n + 1 + length part.facts) parts)) (h.0 (n + 1)) (each-section P (n + 1 + length part.facts) parts h.1)

each-numbered : {X : Type 0} (P : Head → List Fact → Bool) (f : ℕ → X → Part) (n : ℕ) (xs : List X) → ((i j : ℕ) (x : X) → j ≡ n + i → slice_get xs i ≡ Some x → (k : ℕ) → P (f j x).head (each_from at_line k (f j x).facts) ≡ true) → EachPart P (each_from f n xs)
each-numbered P f n [] g = tt
each-numbered P f n (x ∷ xs) g =
    (g 0 n x (omega arith) refl, each-numbered P f (n + 1) xs (λ i j y e there. g (suc i) j y (omega arith) there))

each-mapped : {X : Type 0} (P : Head → List Fact → Bool) (f : X → Part) (xs : List X) → ((i : ℕ) (x : X) → slice_get xs i ≡ Some x → (k : ℕ) → P (f x).head (each_from at_line k (f x).facts) ≡ true) → EachPart P (map f xs)
each-mapped P f [] g = tt
each-mapped P f (x ∷ xs) g = (g 0 x refl, each-mapped P f xs (λ i y there. g (suc i) y there))

each-subport : (P : Head → List Fact → Bool) (n : ℕ) (ports : List PortPlan) → ((i m j : ℕ) (port : PortPlan) (s : SubportPlan) → m ≡ n + i → slice_get ports i ≡ Some port → slice_get port.subports j ≡ Some s → (k : ℕ) → P (heads.Subport m j) (each_from at_line k (subport_part m j s).facts) ≡ true) → EachPart P (subport_parts n ports)
each-subport P n [] g = tt
each-subport P n (port ∷ ports) g =
    each-append P (each (subport_part n) port.subports) (subport_parts (n + 1) ports) (each-numbered P (subport_part n) 0 port.subports (λ i j s e there k. let same : i ≡ j = omega arith in g 0 n j port s (omega arith) refl (subst (λ x. slice_get port.subports x ≡ Some s) same there) k)) (each-subport P (n + 1) ports (λ i m j q s e there below. g (suc i) m j q s (omega arith) there below))

-- what is to be shown of each part of a plan
pub record Each (P : Head → List Fact → Bool) (p : Plan) : Type 0 where
  pub pool : (k : ℕ) → P heads.Pool (each_from at_line k (pool_part p.pool).facts) ≡ true
  pub port : (i : ℕ) (port : PortPlan) → slice_get p.ports i ≡ Some port → (k : ℕ) → P (heads.Port i) (each_from at_line k (port_part i port).facts) ≡ true
  pub subport_kind : (i : ℕ) (kind : ℕ × Shaping) → slice_get p.subport_kinds i ≡ Some kind → (k : ℕ) → P (heads.SubportKind kind.0) (each_from at_line k (subport_kind_part kind).facts) ≡ true
  pub pipe_kind : (i : ℕ) (kind : PipeKind) → slice_get p.pipe_kinds i ≡ Some kind → (k : ℕ) → P (heads.PipeKind kind.number) (each_from at_line k (pipe_kind_part kind).facts) ≡ true
  pub subport : (i j : ℕ) (port : PortPlan) (s : SubportPlan) → slice_get p.ports i ≡ Some port → slice_get port.subports j ≡ Some s → (k : ℕ) → P (heads.Subport i j) (each_from at_line k (subport_part i j s).facts) ≡ true
  pub codes : (k : ℕ) → P heads.Codes (each_from at_line k (codes_part p.codes).facts) ≡ true
  pub meter : (i : ℕ) (m : MeterPlan) → slice_get p.meters i ≡ Some m → (k : ℕ) → P (meter_part m).head (each_from at_line k (meter_part m).facts) ≡ true
  pub rule : (i : ℕ) (r : RulePlan) → slice_get p.rules i ≡ Some r → (k : ℕ) → P (heads.Rule r.number) (each_from at_line k (rule_part p.meters r).facts) ≡ true

pub each-part : (P : Head → List Fact → Bool) (p : Plan) → Each P p → EachPart P (parts_of p)
each-part P p g =
    let xs0 = pool_part p.pool ∷ each port_part p.ports in
    let xs1 = map subport_kind_part p.subport_kinds in
    let xs2 = map pipe_kind_part p.pipe_kinds in
    let xs3 = subport_parts 0 p.ports in
    let xs4 = codes_part p.codes ∷ map meter_part p.meters in
    let xs5 = map (rule_part p.meters) p.rules in
    let a : EachPart P xs0 = (g.pool, each-numbered P port_part 0 p.ports (λ i j x e there k. let same : i ≡ j = omega arith in g.port j x (subst (λ y. slice_get p.ports y ≡ Some x) same there) k)) in
    let b = each-append P xs0 xs1 a (each-mapped P subport_kind_part p.subport_kinds g.subport_kind) in
    let c = each-append P (xs0 ++ xs1) xs2 b (each-mapped P pipe_kind_part p.pipe_kinds g.pipe_kind) in
    let d = each-append P (xs0 ++ xs1 ++ xs2) xs3 c (each-subport P 0 p.ports (λ i m j port s e there below k. let same : i ≡ m = omega arith in g.subport m j port s (subst (λ y. slice_get p.ports y ≡ Some port) same there) below k)) in
    let e = each-append P (xs0 ++ xs1 ++ xs2 ++ xs3) xs4 d (g.codes, each-mapped P meter_part p.meters g.meter) in
    each-append P (xs0 ++ xs1 ++ xs2 ++ xs3 ++ xs4) xs5 e (each-mapped P (rule_part p.meters) p.rules g.rule)

-- where a test holds of all, nothing is found that fails it
pub none-fails : {X : Type 0} (q : X → Bool) (xs : List X) → list_all q xs ≡ true → find (λ x. not (q x)) xs ≡ None
none-fails q [] h = refl
none-fails q (x ∷ xs) h =
    let parts = and_parts (q x) (list_all q xs) h in
    ap (λ t. cond (not t) (Some x) (find (λ y. not (q y)) xs)) parts.0 ∙ none-fails q xs parts.1

-- a part is one of some
abbrev pub Among : Part → List Part → Type 0
Among part [] = ⊥
Among part (q ∷ qs) = (q ≡ part) ⊎ Among part qs

pub among-left : (part : Part) (xs ys : List Part) → Among part xs → Among part (xs ++ ys)
among-left part [] ys h = absurd h
among-left part (x ∷ xs) ys (inl e) = inl e
among-left part (x ∷ xs) ys (inr h) = inr (among-left part xs ys h)

pub among-right : (part : Part) (xs ys : List Part) → Among part ys → Among part (xs ++ ys)
among-right part [] ys h = h
among-right part (x ∷ xs) ys h = inr (among-right part xs ys h)

among-numbered : {X : Type 0} (f : ℕ → X → Part) (n : ℕ) (xs : List X) (i j : ℕ) (x : X) → j ≡ n + i → slice_get xs i ≡ Some x → Among (f j x) (each_from f n xs)
among-numbered f n [] i j x e there = absurd (cc)
among-numbered f n (y ∷ ys) zero j x e there = inl (ap (f n) (same-some y x there) ∙ ap (λ m. f m x) (let same : n ≡ j = omega arith in same))
  where
    same-some : {Y : Type 0} (a b : Y) → Some a ≡ Some b → a ≡ b
    same-some a b q = cc
among-numbered f n (y ∷ ys) (suc i) j x e there = inr (among-numbered f (n + 1) ys i j x (omega arith) there)

among-mapped : {X : Type 0} (f : X → Part) (xs : List X) (i : ℕ) (x : X) → slice_get xs i ≡ Some x → Among (f x) (map f xs)
among-mapped f [] i x there = absurd (cc)
among-mapped f (y ∷ ys) zero x there = inl (ap f (same-some y x there))
  where
    same-some : {Y : Type 0} (a b : Y) → Some a ≡ Some b → a ≡ b
    same-some a b q = cc
among-mapped f (y ∷ ys) (suc i) x there = inr (among-mapped f ys i x there)

among-subports : (n : ℕ) (ports : List PortPlan) (i m j : ℕ) (port : PortPlan) (s : SubportPlan) → m ≡ n + i → slice_get ports i ≡ Some port → slice_get port.subports j ≡ Some s → Among (subport_part m j s) (subport_parts n ports)
among-subports n [] i m j port s e there below = absurd (cc)
among-subports n (q ∷ qs) zero m j port s e there below =
    among-left (subport_part m j s) (each (subport_part n) q.subports) (subport_parts (n + 1) qs) (subst (λ x. Among (subport_part x j s) (each (subport_part n) q.subports)) (let same : n ≡ m = omega arith in same) (among-numbered (subport_part n) 0 q.subports j j s (omega arith) (subst (λ x. slice_get x.subports j ≡ Some s) (sym (same-some q port there)) below)))
  where
    same-some : {Y : Type 0} (a b : Y) → Some a ≡ Some b → a ≡ b
    same-some a b h = cc
among-subports n (q ∷ qs) (suc i) m j port s e there below =
    among-right (subport_part m j s) (each (subport_part n) q.subports) (subport_parts (n + 1) qs) (among-subports (n + 1) qs i m j port s (omega arith) there below)

-- the section of a part: only the part's own head is the same
pub found : (n : ℕ) (parts : List Part) (part : Part) → each_pair apart parts ≡ true → same_head part.head part.head ≡ true → Among part parts → (k : ℕ) × (find (λ s. same_head s.head part.head) (sections_from n parts) ≡ Some (record { line = k; head = part.head; facts = each_from at_line (k + 1) part.facts }))
found n [] part pairs self h = absurd h
found n (q ∷ qs) part pairs self (inl e) =
    (n, subst (λ x. find (λ s. same_head s.head x.head) (sections_from n (q ∷ qs)) ≡ Some (record { line = n; head = x.head; facts = each_from at_line (n + 1) x.facts })) e (ap (λ t. cond t (Some (record { line = n; head = q.head; facts = each_from at_line (n + 1) q.facts })) (find (λ s. same_head s.head q.head) (sections_from (n + 1 + length q.facts) qs))) (subst (λ x. same_head x.head x.head ≡ true) (sym e) self)))
found n (q ∷ qs) part pairs self (inr h) =
    let split = and_parts (list_all (apart q) qs) (each_pair apart qs) pairs in
    let other : same_head q.head part.head ≡ false = differs-at qs h split.0 in
    let more = found (n + 1 + length q.facts) qs part split.1 self h in
    (more.0, ap (λ t. cond t (Some (record { line = n; head = q.head; facts = each_from at_line (n + 1) q.facts })) (find (λ s. same_head s.head part.head) (sections_from (n + 1 + length q.facts) qs))) other ∙ more.1)
  where
    is-false : (t : Bool) → not t ≡ true → t ≡ false
    is-false true e = absurd (cc)
    is-false false e = refl

    differs-at : (rs : List Part) → Among part rs → list_all (apart q) rs ≡ true → same_head q.head part.head ≡ false
    differs-at [] a g = absurd a
    differs-at (r ∷ rs) (inl e) g =
        is-false (same_head q.head part.head) (subst (λ x. differs q.head x.head ≡ true) e (and_parts (apart q r) (list_all (apart q) rs) g).0)
    differs-at (r ∷ rs) (inr a) g = differs-at rs a (and_parts (apart q r) (list_all (apart q) rs) g).1

-- a section is there where its part is
pub there-parts : (n : ℕ) (parts : List Part) (head : Head) → is_there (sections_from n parts) head ≡ list_any (λ q. same_head q.head head) parts
there-parts n [] head = refl
there-parts n (q ∷ qs) head = ap (λ t. same_head q.head head || t) (there-parts (n + 1 + length q.facts) qs head)

any-among : (parts : List Part) (part : Part) → same_head part.head part.head ≡ true → Among part parts → list_any (λ q. same_head q.head part.head) parts ≡ true
any-among [] part self h = absurd h
any-among (q ∷ qs) part self (inl e) =
    or_left (same_head q.head part.head) (list_any (λ r. same_head r.head part.head) qs) (subst (λ x. same_head x.head part.head ≡ true) (sym e) self)
any-among (q ∷ qs) part self (inr h) =
    or_right (same_head q.head part.head) (list_any (λ r. same_head r.head part.head) qs) (any-among qs part self h)

pub is-among : (n : ℕ) (parts : List Part) (part : Part) → same_head part.head part.head ≡ true → Among part parts → is_there (sections_from n parts) part.head ≡ true
is-among n parts part self h = there-parts n parts part.head ∙ any-among parts part self h

-- the parts of a plan are among them
module _ (p : Plan) where
  in0 : (part : Part) → Among part (pool_part p.pool ∷ each port_part p.ports) → Among part (parts_of p)
  in0 part h =
      let xs0 = pool_part p.pool ∷ each port_part p.ports in
      let xs1 = map subport_kind_part p.subport_kinds in
      let xs2 = map pipe_kind_part p.pipe_kinds in
      let xs3 = subport_parts 0 p.ports in
      let xs4 = codes_part p.codes ∷ map meter_part p.meters in
      let xs5 = map (rule_part p.meters) p.rules in
      among-left part (xs0 ++ xs1 ++ xs2 ++ xs3 ++ xs4) xs5 (among-left part (xs0 ++ xs1 ++ xs2 ++ xs3) xs4 (among-left part (xs0 ++ xs1 ++ xs2) xs3 (among-left part (xs0 ++ xs1) xs2 (among-left part xs0 xs1 h))))

  pub among-port : (i : ℕ) (port : PortPlan) → slice_get p.ports i ≡ Some port → Among (port_part i port) (parts_of p)
  among-port i port there =
      in0 (port_part i port) (inr (among-numbered port_part 0 p.ports i i port (omega arith) there))

  pub among-subport-kind : (i : ℕ) (k : ℕ × Shaping) → slice_get p.subport_kinds i ≡ Some k → Among (subport_kind_part k) (parts_of p)
  among-subport-kind i k there =
      let part = subport_kind_part k in
      let xs0 = pool_part p.pool ∷ each port_part p.ports in
      let xs1 = map subport_kind_part p.subport_kinds in
      let xs2 = map pipe_kind_part p.pipe_kinds in
      let xs3 = subport_parts 0 p.ports in
      let xs4 = codes_part p.codes ∷ map meter_part p.meters in
      let xs5 = map (rule_part p.meters) p.rules in
      among-left part (xs0 ++ xs1 ++ xs2 ++ xs3 ++ xs4) xs5 (among-left part (xs0 ++ xs1 ++ xs2 ++ xs3) xs4 (among-left part (xs0 ++ xs1 ++ xs2) xs3 (among-left part (xs0 ++ xs1) xs2 (among-right part xs0 xs1 (among-mapped subport_kind_part p.subport_kinds i k there)))))

  pub among-pipe-kind : (i : ℕ) (k : PipeKind) → slice_get p.pipe_kinds i ≡ Some k → Among (pipe_kind_part k) (parts_of p)
  among-pipe-kind i k there =
      let part = pipe_kind_part k in
      let xs0 = pool_part p.pool ∷ each port_part p.ports in
      let xs1 = map subport_kind_part p.subport_kinds in
      let xs2 = map pipe_kind_part p.pipe_kinds in
      let xs3 = subport_parts 0 p.ports in
      let xs4 = codes_part p.codes ∷ map meter_part p.meters in
      let xs5 = map (rule_part p.meters) p.rules in
      among-left part (xs0 ++ xs1 ++ xs2 ++ xs3 ++ xs4) xs5 (among-left part (xs0 ++ xs1 ++ xs2 ++ xs3) xs4 (among-left part (xs0 ++ xs1 ++ xs2) xs3 (among-right part (xs0 ++ xs1) xs2 (among-mapped pipe_kind_part p.pipe_kinds i k there))))

  pub among-subport : (i j : ℕ) (port : PortPlan) (s : SubportPlan) → slice_get p.ports i ≡ Some port → slice_get port.subports j ≡ Some s → Among (subport_part i j s) (parts_of p)
  among-subport i j port s there below =
      let part = subport_part i j s in
      let xs0 = pool_part p.pool ∷ each port_part p.ports in
      let xs1 = map subport_kind_part p.subport_kinds in
      let xs2 = map pipe_kind_part p.pipe_kinds in
      let xs3 = subport_parts 0 p.ports in
      let xs4 = codes_part p.codes ∷ map meter_part p.meters in
      let xs5 = map (rule_part p.meters) p.rules in
      among-left part (xs0 ++ xs1 ++ xs2 ++ xs3 ++ xs4) xs5 (among-left part (xs0 ++ xs1 ++ xs2 ++ xs3) xs4 (among-right part (xs0 ++ xs1 ++ xs2) xs3 (among-subports 0 p.ports i i j port s (omega arith) there below)))

  pub among-codes : Among (codes_part p.codes) (parts_of p)
  among-codes =
      let part = codes_part p.codes in
      let xs0 = pool_part p.pool ∷ each port_part p.ports in
      let xs1 = map subport_kind_part p.subport_kinds in
      let xs2 = map pipe_kind_part p.pipe_kinds in
      let xs3 = subport_parts 0 p.ports in
      let xs4 = codes_part p.codes ∷ map meter_part p.meters in
      let xs5 = map (rule_part p.meters) p.rules in
      among-left part (xs0 ++ xs1 ++ xs2 ++ xs3 ++ xs4) xs5 (among-right part (xs0 ++ xs1 ++ xs2 ++ xs3) xs4 (inl refl))

  pub among-meter : (i : ℕ) (m : MeterPlan) → slice_get p.meters i ≡ Some m → Among (meter_part m) (parts_of p)
  among-meter i m there =
      let part = meter_part m in
      let xs0 = pool_part p.pool ∷ each port_part p.ports in
      let xs1 = map subport_kind_part p.subport_kinds in
      let xs2 = map pipe_kind_part p.pipe_kinds in
      let xs3 = subport_parts 0 p.ports in
      let xs4 = codes_part p.codes ∷ map meter_part p.meters in
      let xs5 = map (rule_part p.meters) p.rules in
      among-left part (xs0 ++ xs1 ++ xs2 ++ xs3 ++ xs4) xs5 (among-right part (xs0 ++ xs1 ++ xs2 ++ xs3) xs4 (inr (among-mapped meter_part p.meters i m there)))

  pub among-rule : (i : ℕ) (r : RulePlan) → slice_get p.rules i ≡ Some r → Among (rule_part p.meters r) (parts_of p)
  among-rule i r there =
      let part = rule_part p.meters r in
      let xs0 = pool_part p.pool ∷ each port_part p.ports in
      let xs1 = map subport_kind_part p.subport_kinds in
      let xs2 = map pipe_kind_part p.pipe_kinds in
      let xs3 = subport_parts 0 p.ports in
      let xs4 = codes_part p.codes ∷ map meter_part p.meters in
      let xs5 = map (rule_part p.meters) p.rules in
      among-right part (xs0 ++ xs1 ++ xs2 ++ xs3 ++ xs4) xs5 (among-mapped (rule_part p.meters) p.rules i r there)

-- a head that is not `[red]` is its own
pub same-self : (h : Head) → is_red h ≡ false → same_head h h ≡ true
same-self heads.Pool e = refl
same-self (heads.Port n) e = eq-eqb n n refl
same-self (heads.SubportKind n) e = eq-eqb n n refl
same-self (heads.PipeKind n) e = eq-eqb n n refl
same-self (heads.Subport n k) e = and_from (n == n) (k == k) (eq-eqb n n refl) (eq-eqb k k refl)
same-self heads.Codes e = refl
same-self (heads.Meter a) e =
    and_from (a.length == a.length) (bytes_eq a.bytes a.bytes) (eq-eqb a.length a.length refl) ((bytes_eq-Decides a.bytes a.bytes).1 refl)
same-self (heads.Rule n) e = eq-eqb n n refl
same-self heads.Red e = absurd (cc)

-- the facts of a part's section
pub facts-are : (n : ℕ) (parts : List Part) (part : Part) → each_pair apart parts ≡ true → is_red part.head ≡ false → Among part parts → (k : ℕ) × (facts_at (sections_from n parts) part.head ≡ each_from at_line k part.facts)
facts-are n parts part pairs red h =
    let f = found n parts part pairs (same-self part.head red) h in
    (f.0 + 1, ap facts_or_none f.1)
