-- The numbers of a plan's sections are found again in order.
use Rattle.std.proofs.Common.{◌≡◌, ◌==◌, ℕ, zero, suc, ◌+◌, ◌<◌, ◌≤◌, Bool, true, false, cond, ◌&&◌, ◌||◌, nat_lt, nat_le, List, [], ◌∷◌, ◌++◌, map, filter, slice_get, Some, refl, sym, ap, ◌∙◌, subst, arith}
use Rattle.std.specs.List.{list_all, list_any, range_with_len}
use Rattle.std.specs.List.Sorted.{IsStrictlyIncreasing}
use Rattle.std.proofs.lemmas.Bool.{and_parts, and_from, or_from, or_left, lt-ltb, ltb-true, eqb-true, eqb-false, ne_eqb, le-leb, leb-true}
use Rattle.std.proofs.lemmas.List.Folds.{list_any-append}
use Rattle.profile_plan.specs.declared.port.PortPlan.{PortPlan}
use Rattle.profile_plan.specs.Profile.{Plan}
use Rattle.profile_print.specs.Written.{each, each_from}
use Rattle.qos_profile.specs.declared.head.Head.{Head}
use Rattle.qos_profile.specs.declared.head.Head.TheVariants as heads
use Rattle.qos_profile.specs.declared.section.Section.{Section}
use Rattle.qos_profile.specs.Sections.{same_head}
use Rattle.qos_profile.specs.Lookups.{is_there}
use Rattle.qos_profile.specs.Planned.{numbers_there}
use Rattle.qos_profile.specs.Printed.{Part, pool_part, port_part, subport_kind_part, pipe_kind_part, subport_part, subport_parts, codes_part, meter_part, rule_part, parts_of, printed_sections}
use Rattle.qos_profile.proofs.Blocks.{all-weaker}
use Rattle.qos_profile.proofs.Heads.{first-least, tail-increases}
use Rattle.qos_profile.proofs.Found.{there-parts}

-- numbers that go up
abbrev pub is_up : List ℕ → Bool
is_up [] = true
is_up (n ∷ ns) = list_all (nat_lt n) ns && is_up ns

goes-up : (ns : List ℕ) → IsStrictlyIncreasing ns → is_up ns ≡ true
goes-up [] inc = refl
goes-up (n ∷ ns) inc =
    and_from (list_all (nat_lt n) ns) (is_up ns) (first-least n ns inc) (goes-up ns (tail-increases n ns inc))

none-above : (a : ℕ) (ns : List ℕ) → list_all (nat_lt a) ns ≡ true → list_any (λ m. m == a) ns ≡ false
none-above a [] h = refl
none-above a (n ∷ ns) h =
    let parts = and_parts (nat_lt a n) (list_all (nat_lt a) ns) h in
    let high = ltb-true a n parts.0 in
    or_from (n == a) (list_any (λ m. m == a) ns) (ne_eqb n a (λ e. absurd (omega arith))) (none-above a ns parts.1)

-- the numbers of a range that are among some that go up are these
filter-range : (q : ℕ → Bool) (a count : ℕ) (ns : List ℕ) → is_up ns ≡ true → list_all (nat_le a) ns ≡ true → list_all (λ n. nat_lt n (a + count)) ns ≡ true → ((n : ℕ) → a ≤ n → q n ≡ list_any (λ m. m == n) ns) → filter q (range_with_len a count) ≡ ns
filter-range q a zero [] up low high is = refl
filter-range q a zero (n ∷ ns) up low high is =
    let l = leb-true a n (and_parts (nat_le a n) (list_all (nat_le a) ns) low).0 in
    let h = ltb-true n (a + 0) (and_parts (nat_lt n (a + 0)) (list_all (λ m. nat_lt m (a + 0)) ns) high).0 in
    absurd (omega arith)
filter-range q a (suc count) [] up low high is =
    ap (λ t. cond t (a ∷ filter q (range_with_len (a + 1) count)) (filter q (range_with_len (a + 1) count))) (is a (omega arith))
    ∙ filter-range q (a + 1) count [] refl refl refl (λ n le. is n (omega arith))
filter-range q a (suc count) (n ∷ ns) up low high is =
    by (n == a) refl (λ e. filter-range q (a + 1) count ns ups.1 (all-weaker (nat_lt n) (nat_le (a + 1)) (λ m g. let x = ltb-true n m g in le-leb (a + 1) m (omega arith)) ns ups.0) (all-weaker (λ m. nat_lt m (a + suc count)) (λ m. nat_lt m (a + 1 + count)) (λ m g. let x = ltb-true m (a + suc count) g in lt-ltb m (a + 1 + count) (omega arith)) ns highs.1) (λ m le. is m (omega arith) ∙ ap (λ t. t || list_any (λ x. x == m) ns) (ne_eqb n m (λ s. absurd (omega arith))))) (λ e. let above : a < n = strict a n (leb-true a n lows.0) e in filter-range q (a + 1) count (n ∷ ns) up (and_from (nat_le (a + 1) n) (list_all (nat_le (a + 1)) ns) (le-leb (a + 1) n (omega arith)) (all-weaker (nat_lt n) (nat_le (a + 1)) (λ m g. let x = ltb-true n m g in le-leb (a + 1) m (omega arith)) ns ups.0)) (all-weaker (λ m. nat_lt m (a + suc count)) (λ m. nat_lt m (a + 1 + count)) (λ m g. let x = ltb-true m (a + suc count) g in lt-ltb m (a + 1 + count) (omega arith)) (n ∷ ns) high) (λ m le. is m (omega arith)))
  where
    ups : (list_all (nat_lt n) ns ≡ true) × (is_up ns ≡ true)
    ups = and_parts (list_all (nat_lt n) ns) (is_up ns) up

    lows : (nat_le a n ≡ true) × (list_all (nat_le a) ns ≡ true)
    lows = and_parts (nat_le a n) (list_all (nat_le a) ns) low

    highs : (nat_lt n (a + suc count) ≡ true) × (list_all (λ m. nat_lt m (a + suc count)) ns ≡ true)
    highs = and_parts (nat_lt n (a + suc count)) (list_all (λ m. nat_lt m (a + suc count)) ns) high

    strict : (x y : ℕ) → x ≤ y → (y ≡ x → ⊥) → x < y
    strict x y le ne = omega arith

    by : (b : Bool) → (n == a) ≡ b → (n ≡ a → filter q (range_with_len (a + 1) count) ≡ ns) → ((n ≡ a → ⊥) → filter q (range_with_len (a + 1) count) ≡ n ∷ ns) → filter q (range_with_len a (suc count)) ≡ n ∷ ns
    by true e f g =
        let same = eqb-true n a e in
        let here : q a ≡ true = is a (omega arith) ∙ or_left (n == a) (list_any (λ x. x == a) ns) e in
        ap (λ t. cond t (a ∷ filter q (range_with_len (a + 1) count)) (filter q (range_with_len (a + 1) count))) here
        ∙ ap (λ xs. a ∷ xs) (f same) ∙ ap (λ x. x ∷ ns) (sym same)
    by false e f g =
        let other = eqb-false n a e in
        let above : a < n = strict a n (leb-true a n lows.0) other in
        let here : q a ≡ false = is a (omega arith) ∙ or_from (n == a) (list_any (λ x. x == a) ns) e (none-above a ns (all-weaker (nat_lt n) (nat_lt a) (λ m i. let x = ltb-true n m i in lt-ltb a m (omega arith)) ns ups.0)) in
        ap (λ t. cond t (a ∷ filter q (range_with_len (a + 1) count)) (filter q (range_with_len (a + 1) count))) here ∙ g other

-- which parts have a head
none-numbered : {X : Type 0} (q : Part → Bool) (f : ℕ → X → Part) (n : ℕ) (xs : List X) → ((j : ℕ) (x : X) → q (f j x) ≡ false) → list_any q (each_from f n xs) ≡ false
none-numbered q f n [] h = refl
none-numbered q f n (x ∷ xs) h =
    or_from (q (f n x)) (list_any q (each_from f (n + 1) xs)) (h n x) (none-numbered q f (n + 1) xs h)

none-mapped : {X : Type 0} (q : Part → Bool) (f : X → Part) (xs : List X) → ((x : X) → q (f x) ≡ false) → list_any q (map f xs) ≡ false
none-mapped q f [] h = refl
none-mapped q f (x ∷ xs) h = or_from (q (f x)) (list_any q (map f xs)) (h x) (none-mapped q f xs h)

none-subports : (q : Part → Bool) (n : ℕ) (ports : List PortPlan) → ((m j : ℕ) (s : _) → q (subport_part m j s) ≡ false) → list_any q (subport_parts n ports) ≡ false
none-subports q n [] h = refl
none-subports q n (port ∷ ports) h =
    list_any-append q (each (subport_part n) port.subports) (subport_parts (n + 1) ports)
    ∙ or_from (list_any q (each (subport_part n) port.subports)) (list_any q (subport_parts (n + 1) ports)) (none-numbered q (subport_part n) 0 port.subports (h n)) (none-subports q (n + 1) ports h)

some-mapped : {X : Type 0} (q : Part → Bool) (f : X → Part) (num : X → ℕ) (n : ℕ) (xs : List X) → ((x : X) → q (f x) ≡ (num x == n)) → list_any q (map f xs) ≡ list_any (λ m. m == n) (map num xs)
some-mapped q f num n [] h = refl
some-mapped q f num n (x ∷ xs) h =
    ap (λ t. t || list_any q (map f xs)) (h x) ∙ ap (λ t. (num x == n) || t) (some-mapped q f num n xs h)

or-none : (b : Bool) → (b || false) ≡ b
or-none b = elim b as (λ t. (t || false) ≡ t) [ true ↦ refl | false ↦ refl ]

-- a test of a plan's parts
split : (q : Part → Bool) (p : Plan) → list_any q (parts_of p) ≡ ((((((q (pool_part p.pool) || list_any q (each port_part p.ports)) || list_any q (map subport_kind_part p.subport_kinds)) || list_any q (map pipe_kind_part p.pipe_kinds)) || list_any q (subport_parts 0 p.ports)) || (q (codes_part p.codes) || list_any q (map meter_part p.meters))) || list_any q (map (rule_part p.meters) p.rules))
split q p =
    let xs0 = pool_part p.pool ∷ each port_part p.ports in
    let xs1 = map subport_kind_part p.subport_kinds in
    let xs2 = map pipe_kind_part p.pipe_kinds in
    let xs3 = subport_parts 0 p.ports in
    let xs4 = codes_part p.codes ∷ map meter_part p.meters in
    let xs5 = map (rule_part p.meters) p.rules in
    list_any-append q (xs0 ++ xs1 ++ xs2 ++ xs3 ++ xs4) xs5
    ∙ ap (λ t. t || list_any q xs5) (list_any-append q (xs0 ++ xs1 ++ xs2 ++ xs3) xs4
    ∙ ap (λ t. t || list_any q xs4) (list_any-append q (xs0 ++ xs1 ++ xs2) xs3
    ∙ ap (λ t. t || list_any q xs3) (list_any-append q (xs0 ++ xs1) xs2
    ∙ ap (λ t. t || list_any q xs2) (list_any-append q xs0 xs1))))

abbrev six : Bool → Bool → Bool → Bool → Bool → Bool → Bool
six a b c d e f = (((((a || b) || c) || d) || e) || f)

module _ (p : Plan) where
  pub subport-kind-numbers : (n : ℕ) → is_there (printed_sections p) (heads.SubportKind n) ≡ list_any (λ m. m == n) (map (λ k. k.0) p.subport_kinds)
  subport-kind-numbers n =
      let q : Part → Bool = λ x. same_head x.head (heads.SubportKind n) in
      let b = none-numbered q port_part 0 p.ports (λ j x. refl) in
      let c = some-mapped q subport_kind_part (λ k. k.0) n p.subport_kinds (λ x. refl) in
      let d = none-mapped q pipe_kind_part p.pipe_kinds (λ x. refl) in
      let e = none-subports q 0 p.ports (λ m j s. refl) in
      let f = none-mapped q meter_part p.meters (λ x. refl) in
      let g = none-mapped q (rule_part p.meters) p.rules (λ x. refl) in
      there-parts 1 (parts_of p) (heads.SubportKind n) ∙ split q p
      ∙ ap (λ t. six t (list_any q (map subport_kind_part p.subport_kinds)) (list_any q (map pipe_kind_part p.pipe_kinds)) (list_any q (subport_parts 0 p.ports)) (list_any q (map meter_part p.meters)) (list_any q (map (rule_part p.meters) p.rules))) b
      ∙ ap (λ t. six false t (list_any q (map pipe_kind_part p.pipe_kinds)) (list_any q (subport_parts 0 p.ports)) (list_any q (map meter_part p.meters)) (list_any q (map (rule_part p.meters) p.rules))) c
      ∙ ap (λ t. six false (list_any (λ m. m == n) (map (λ k. k.0) p.subport_kinds)) t (list_any q (subport_parts 0 p.ports)) (list_any q (map meter_part p.meters)) (list_any q (map (rule_part p.meters) p.rules))) d
      ∙ ap (λ t. six false (list_any (λ m. m == n) (map (λ k. k.0) p.subport_kinds)) false t (list_any q (map meter_part p.meters)) (list_any q (map (rule_part p.meters) p.rules))) e
      ∙ ap (λ t. six false (list_any (λ m. m == n) (map (λ k. k.0) p.subport_kinds)) false false t (list_any q (map (rule_part p.meters) p.rules))) f
      ∙ ap (λ t. six false (list_any (λ m. m == n) (map (λ k. k.0) p.subport_kinds)) false false false t) g
      ∙ or-none (((list_any (λ m. m == n) (map (λ k. k.0) p.subport_kinds) || false) || false) || false) ∙ or-none ((list_any (λ m. m == n) (map (λ k. k.0) p.subport_kinds) || false) || false) ∙ or-none (list_any (λ m. m == n) (map (λ k. k.0) p.subport_kinds) || false) ∙ or-none (list_any (λ m. m == n) (map (λ k. k.0) p.subport_kinds))

  pub pipe-kind-numbers : (n : ℕ) → is_there (printed_sections p) (heads.PipeKind n) ≡ list_any (λ m. m == n) (map (λ k. k.number) p.pipe_kinds)
  pipe-kind-numbers n =
      let q : Part → Bool = λ x. same_head x.head (heads.PipeKind n) in
      let b = none-numbered q port_part 0 p.ports (λ j x. refl) in
      let c = none-mapped q subport_kind_part p.subport_kinds (λ x. refl) in
      let d = some-mapped q pipe_kind_part (λ k. k.number) n p.pipe_kinds (λ x. refl) in
      let e = none-subports q 0 p.ports (λ m j s. refl) in
      let f = none-mapped q meter_part p.meters (λ x. refl) in
      let g = none-mapped q (rule_part p.meters) p.rules (λ x. refl) in
      there-parts 1 (parts_of p) (heads.PipeKind n) ∙ split q p
      ∙ ap (λ t. six t (list_any q (map subport_kind_part p.subport_kinds)) (list_any q (map pipe_kind_part p.pipe_kinds)) (list_any q (subport_parts 0 p.ports)) (list_any q (map meter_part p.meters)) (list_any q (map (rule_part p.meters) p.rules))) b
      ∙ ap (λ t. six false t (list_any q (map pipe_kind_part p.pipe_kinds)) (list_any q (subport_parts 0 p.ports)) (list_any q (map meter_part p.meters)) (list_any q (map (rule_part p.meters) p.rules))) c
      ∙ ap (λ t. six false false t (list_any q (subport_parts 0 p.ports)) (list_any q (map meter_part p.meters)) (list_any q (map (rule_part p.meters) p.rules))) d
      ∙ ap (λ t. six false false (list_any (λ m. m == n) (map (λ k. k.number) p.pipe_kinds)) t (list_any q (map meter_part p.meters)) (list_any q (map (rule_part p.meters) p.rules))) e
      ∙ ap (λ t. six false false (list_any (λ m. m == n) (map (λ k. k.number) p.pipe_kinds)) false t (list_any q (map (rule_part p.meters) p.rules))) f
      ∙ ap (λ t. six false false (list_any (λ m. m == n) (map (λ k. k.number) p.pipe_kinds)) false false t) g
      ∙ or-none ((list_any (λ m. m == n) (map (λ k. k.number) p.pipe_kinds) || false) || false) ∙ or-none (list_any (λ m. m == n) (map (λ k. k.number) p.pipe_kinds) || false) ∙ or-none (list_any (λ m. m == n) (map (λ k. k.number) p.pipe_kinds))

  pub rule-numbers : (n : ℕ) → is_there (printed_sections p) (heads.Rule n) ≡ list_any (λ m. m == n) (map (λ r. r.number) p.rules)
  rule-numbers n =
      let q : Part → Bool = λ x. same_head x.head (heads.Rule n) in
      let b = none-numbered q port_part 0 p.ports (λ j x. refl) in
      let c = none-mapped q subport_kind_part p.subport_kinds (λ x. refl) in
      let d = none-mapped q pipe_kind_part p.pipe_kinds (λ x. refl) in
      let e = none-subports q 0 p.ports (λ m j s. refl) in
      let f = none-mapped q meter_part p.meters (λ x. refl) in
      there-parts 1 (parts_of p) (heads.Rule n) ∙ split q p
      ∙ ap (λ t. six t (list_any q (map subport_kind_part p.subport_kinds)) (list_any q (map pipe_kind_part p.pipe_kinds)) (list_any q (subport_parts 0 p.ports)) (list_any q (map meter_part p.meters)) (list_any q (map (rule_part p.meters) p.rules))) b
      ∙ ap (λ t. six false t (list_any q (map pipe_kind_part p.pipe_kinds)) (list_any q (subport_parts 0 p.ports)) (list_any q (map meter_part p.meters)) (list_any q (map (rule_part p.meters) p.rules))) c
      ∙ ap (λ t. six false false t (list_any q (subport_parts 0 p.ports)) (list_any q (map meter_part p.meters)) (list_any q (map (rule_part p.meters) p.rules))) d
      ∙ ap (λ t. six false false false t (list_any q (map meter_part p.meters)) (list_any q (map (rule_part p.meters) p.rules))) e
      ∙ ap (λ t. six false false false false t (list_any q (map (rule_part p.meters) p.rules))) f
      ∙ some-mapped q (rule_part p.meters) (λ r. r.number) n p.rules (λ x. refl)

-- numbers below a limit
below-all : {X : Type 0} (num : X → ℕ) (most : ℕ) (xs : List X) → ((i : ℕ) (x : X) → slice_get xs i ≡ Some x → num x < most) → list_all (λ n. nat_lt n most) (map num xs) ≡ true
below-all num most [] h = refl
below-all num most (x ∷ xs) h =
    and_from (nat_lt (num x) most) (list_all (λ n. nat_lt n most) (map num xs)) (lt-ltb (num x) most (h 0 x refl)) (below-all num most xs (λ i y there. h (suc i) y there))

from-zero : (ns : List ℕ) → list_all (nat_le 0) ns ≡ true
from-zero [] = refl
from-zero (n ∷ ns) = and_from (nat_le 0 n) (list_all (nat_le 0) ns) (le-leb 0 n (omega arith)) (from-zero ns)

pub numbers-back : {X : Type 0} (sections : List Section) (head : ℕ → Head) (most : ℕ) (num : X → ℕ) (xs : List X) → IsStrictlyIncreasing (map num xs) → ((i : ℕ) (x : X) → slice_get xs i ≡ Some x → num x < most) → ((n : ℕ) → is_there sections (head n) ≡ list_any (λ m. m == n) (map num xs)) → numbers_there sections head most ≡ map num xs
numbers-back sections head most num xs inc small is =
    filter-range (λ n. is_there sections (head n)) 0 most (map num xs) (goes-up (map num xs) inc) (from-zero (map num xs)) (subst (λ e. list_all (λ n. nat_lt n e) (map num xs) ≡ true) (let e : most ≡ 0 + most = omega arith in e) (below-all num most xs small)) (λ n le. is n)
