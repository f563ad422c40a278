-- The heads of a plan's sections are all different.
use Rattle.std.proofs.Common.{◌≡◌, ◌==◌, ℕ, suc, ◌+◌, ◌-◌, ◌<◌, ◌≤◌, Bool, true, false, not, ◌&&◌, nat_lt, nat_le, List, [], ◌∷◌, ◌++◌, length, map, take, replicate, refl, sym, ap, ◌∙◌, subst, arith}
use Rattle.std.specs.List.{list_all, slice_index}
use Rattle.std.specs.List.Sorted.{IsStrictlyIncreasing}
use Rattle.std.specs.Str.{bytes_eq}
use Rattle.std.proofs.lemmas.Bool.{and_parts, and_from, and_right, le-leb, leb-true, lt-ltb, ltb-true, eqb-true, ne_eqb}
use Rattle.std.proofs.lemmas.List.{take_at}
use Rattle.std.proofs.lemmas.List.Folds.{list_all-append}
use Rattle.std.proofs.lemmas.Slice.Eq.{bytes_eq-Decides}
use Rattle.profile_plan.specs.declared.port.PortPlan.{PortPlan}
use Rattle.profile_plan.specs.declared.port.SubportPlan.{SubportPlan}
use Rattle.profile_plan.specs.declared.meter.MeterPlan.{MeterPlan}
use Rattle.profile_plan.specs.Profile.{Plan, KeepsLimits, have_names_apart}
use Rattle.profile_print.specs.Written.{each, each_from}
use Rattle.qos_profile.specs.declared.name.Name.{Name}
use Rattle.qos_profile.specs.declared.head.Head.{Head}
use Rattle.qos_profile.specs.declared.head.Head.TheVariants as heads
use Rattle.qos_profile.specs.Values.{padded}
use Rattle.qos_profile.specs.Sections.{same_head}
use Rattle.qos_profile.specs.Printed.{Part, pool_part, port_part, subport_kind_part, pipe_kind_part, subport_part, subport_parts, codes_part, meter_part, rule_part, parts_of}
use Rattle.qos_profile.proofs.Blocks.{all-weaker, each_pair, differs}

-- which kind of section a head is of
abbrev tag : Head → ℕ
tag heads.Pool = 0
tag (heads.Port n) = 1
tag (heads.SubportKind n) = 2
tag (heads.PipeKind n) = 3
tag (heads.Subport p s) = 4
tag heads.Codes = 5
tag (heads.Meter name) = 6
tag (heads.Rule n) = 7
tag heads.Red = 8

same-tag : (a b : Head) → same_head a b ≡ true → tag a ≡ tag b
same-tag heads.Pool heads.Pool h = refl
same-tag (heads.Port n) (heads.Port m) h = refl
same-tag (heads.SubportKind n) (heads.SubportKind m) h = refl
same-tag (heads.PipeKind n) (heads.PipeKind m) h = refl
same-tag (heads.Subport n k) (heads.Subport m l) h = refl
same-tag heads.Codes heads.Codes h = refl
same-tag (heads.Meter a) (heads.Meter b) h = refl
same-tag (heads.Rule n) (heads.Rule m) h = refl
same-tag a b h = absurd (cc)

tags-differ : (a b : Head) → (tag a ≡ tag b → ⊥) → differs a b ≡ true
tags-differ a b h =
    elim (same_head a b) as (λ t. same_head a b ≡ t → not t ≡ true) [ true ↦ λ e. absurd (h (same-tag a b e)) | false ↦ λ e. refl ] refl

-- two parts are of different sections
abbrev pub apart : Part → Part → Bool
apart p q = differs p.head q.head

pairs-append : (xs ys : List Part) → each_pair apart xs ≡ true → each_pair apart ys ≡ true → list_all (λ x. list_all (apart x) ys) xs ≡ true → each_pair apart (xs ++ ys) ≡ true
pairs-append [] ys h g c = g
pairs-append (x ∷ xs) ys h g c =
    let hs = and_parts (list_all (apart x) xs) (each_pair apart xs) h in
    let cs = and_parts (list_all (apart x) ys) (list_all (λ z. list_all (apart z) ys) xs) c in
    and_from (list_all (apart x) (xs ++ ys)) (each_pair apart (xs ++ ys)) (list_all-append (apart x) xs ys ∙ and_from (list_all (apart x) xs) (list_all (apart x) ys) hs.0 cs.0) (pairs-append xs ys hs.1 g cs.1)

-- parts of kinds up to one, and parts of later kinds
crossed : (k : ℕ) (xs ys : List Part) → list_all (λ p. nat_le (tag p.head) k) xs ≡ true → list_all (λ p. nat_lt k (tag p.head)) ys ≡ true → list_all (λ x. list_all (apart x) ys) xs ≡ true
crossed k [] ys h g = refl
crossed k (x ∷ xs) ys h g =
    let parts = and_parts (nat_le (tag x.head) k) (list_all (λ p. nat_le (tag p.head) k) xs) h in
    let low = leb-true (tag x.head) k parts.0 in
    and_from (list_all (apart x) ys) (list_all (λ z. list_all (apart z) ys) xs) (all-weaker (λ p. nat_lt k (tag p.head)) (apart x) (λ p e. let high = ltb-true k (tag p.head) e in tags-differ x.head p.head (λ same. absurd (omega arith))) ys g) (crossed k xs ys parts.1 g)

-- parts of kinds up to one, all apart
record Kept (k : ℕ) (ps : List Part) : Type 0 where
  pairs : each_pair apart ps ≡ true
  low : list_all (λ p. nat_le (tag p.head) k) ps ≡ true

-- parts of kinds from one to another, all apart
record Next (k m : ℕ) (ps : List Part) : Type 0 where
  pairs : each_pair apart ps ≡ true
  high : list_all (λ p. nat_lt k (tag p.head)) ps ≡ true
  low : list_all (λ p. nat_le (tag p.head) m) ps ≡ true

grow : (k m : ℕ) (xs ys : List Part) → Kept k xs → k ≤ m → Next k m ys → Kept m (xs ++ ys)
grow k m xs ys a le b = record {
  pairs = pairs-append xs ys a.pairs b.pairs (crossed k xs ys a.low b.high);
  low = list_all-append (λ p. nat_le (tag p.head) m) xs ys ∙ and_from (list_all (λ p. nat_le (tag p.head) m) xs) (list_all (λ p. nat_le (tag p.head) m) ys) (all-weaker (λ p. nat_le (tag p.head) k) (λ p. nat_le (tag p.head) m) (λ p e. let low = leb-true (tag p.head) k e in le-leb (tag p.head) m (omega arith)) xs a.low) b.low;
}

-- parts with numbers that go up by one
module _ {X : Type 0} (f : ℕ → X → Part) (h : ℕ → Head) (is : (n : ℕ) (x : X) → (f n x).head ≡ h n) where
  numbered-all : (P : Head → Bool) (n : ℕ) (xs : List X) → ((m : ℕ) → n ≤ m → P (h m) ≡ true) → list_all (λ p. P p.head) (each_from f n xs) ≡ true
  numbered-all P n [] g = refl
  numbered-all P n (x ∷ xs) g =
      and_from (P (f n x).head) (list_all (λ p. P p.head) (each_from f (n + 1) xs)) (ap P (is n x) ∙ g n (omega arith)) (numbered-all P (n + 1) xs (λ m e. g m (omega arith)))

  numbered-apart : (n : ℕ) (xs : List X) → ((a b : ℕ) → a < b → differs (h a) (h b) ≡ true) → each_pair apart (each_from f n xs) ≡ true
  numbered-apart n [] g = refl
  numbered-apart n (x ∷ xs) g =
      and_from (list_all (apart (f n x)) (each_from f (n + 1) xs)) (each_pair apart (each_from f (n + 1) xs)) (ap (λ a. list_all (λ q. differs a q.head) (each_from f (n + 1) xs)) (is n x) ∙ numbered-all (differs (h n)) (n + 1) xs (λ m e. g n m (omega arith))) (numbered-apart (n + 1) xs g)

-- numbers that go up
pub tail-increases : (x : ℕ) (xs : List ℕ) → IsStrictlyIncreasing (x ∷ xs) → IsStrictlyIncreasing xs
tail-increases x xs inc = λ k below.
    subst (λ i. slice_index xs k < slice_index (x ∷ xs) i) (let e : suc k + 1 ≡ suc (k + 1) = omega arith in e) (inc (suc k) (omega arith))

pub first-least : (x : ℕ) (xs : List ℕ) → IsStrictlyIncreasing (x ∷ xs) → list_all (λ y. nat_lt x y) xs ≡ true
first-least x [] inc = refl
first-least x (y ∷ ys) inc =
    let here : x < y = inc 0 (omega arith) in
    and_from (nat_lt x y) (list_all (λ z. nat_lt x z) ys) (lt-ltb x y here) (all-weaker (λ z. nat_lt y z) (λ z. nat_lt x z) (λ z e. let up = ltb-true y z e in lt-ltb x z (omega arith)) ys (first-least y ys (tail-increases x (y ∷ ys) inc)))

module _ {X : Type 0} (f : X → Part) (num : X → ℕ) (h : ℕ → Head) (is : (x : X) → (f x).head ≡ h (num x)) where
  mapped-all : (P : Head → Bool) (xs : List X) → ((x : X) → P (h (num x)) ≡ true) → list_all (λ p. P p.head) (map f xs) ≡ true
  mapped-all P [] g = refl
  mapped-all P (x ∷ xs) g =
      and_from (P (f x).head) (list_all (λ p. P p.head) (map f xs)) (ap P (is x) ∙ g x) (mapped-all P xs g)

  later-apart : (a : ℕ) (xs : List X) → ((b c : ℕ) → b < c → differs (h b) (h c) ≡ true) → list_all (λ y. nat_lt a y) (map num xs) ≡ true → list_all (λ q. differs (h a) q.head) (map f xs) ≡ true
  later-apart a [] g up = refl
  later-apart a (x ∷ xs) g up =
      let parts = and_parts (nat_lt a (num x)) (list_all (λ y. nat_lt a y) (map num xs)) up in
      and_from (differs (h a) (f x).head) (list_all (λ q. differs (h a) q.head) (map f xs)) (ap (differs (h a)) (is x) ∙ g a (num x) (ltb-true a (num x) parts.0)) (later-apart a xs g parts.1)

  mapped-apart : (xs : List X) → ((b c : ℕ) → b < c → differs (h b) (h c) ≡ true) → IsStrictlyIncreasing (map num xs) → each_pair apart (map f xs) ≡ true
  mapped-apart [] g inc = refl
  mapped-apart (x ∷ xs) g inc =
      and_from (list_all (apart (f x)) (map f xs)) (each_pair apart (map f xs)) (ap (λ a. list_all (λ q. differs a q.head) (map f xs)) (is x) ∙ later-apart (num x) xs g (first-least (num x) (map num xs) inc)) (mapped-apart xs g (tail-increases (num x) (map num xs) inc))

-- different numbers
ne : (a b : ℕ) → a < b → not (a == b) ≡ true
ne a b below = ap not (ne_eqb a b (λ e. absurd (omega arith)))

-- subports by port, and by number
subports-all : (P : Head → Bool) (n : ℕ) (ports : List PortPlan) → ((m k : ℕ) → n ≤ m → P (heads.Subport m k) ≡ true) → list_all (λ p. P p.head) (subport_parts n ports) ≡ true
subports-all P n [] g = refl
subports-all P n (port ∷ ports) g =
    list_all-append (λ p. P p.head) (each (subport_part n) port.subports) (subport_parts (n + 1) ports)
    ∙ and_from (list_all (λ p. P p.head) (each (subport_part n) port.subports)) (list_all (λ p. P p.head) (subport_parts (n + 1) ports)) (numbered-all (subport_part n) (heads.Subport n) (λ k s. refl) P 0 port.subports (λ m e. g n m (omega arith))) (subports-all P (n + 1) ports (λ m k e. g m k (omega arith)))

subports-cross : (n k : ℕ) (ss : List SubportPlan) (ports : List PortPlan) → list_all (λ x. list_all (apart x) (subport_parts (n + 1) ports)) (each_from (subport_part n) k ss) ≡ true
subports-cross n k [] ports = refl
subports-cross n k (s ∷ ss) ports =
    and_from (list_all (apart (subport_part n k s)) (subport_parts (n + 1) ports)) (list_all (λ x. list_all (apart x) (subport_parts (n + 1) ports)) (each_from (subport_part n) (k + 1) ss)) (subports-all (differs (heads.Subport n k)) (n + 1) ports (λ m l e. ap (λ t. not (t && k == l)) (ne_eqb n m (λ same. absurd (omega arith))))) (subports-cross n (k + 1) ss ports)

subports-apart : (n : ℕ) (ports : List PortPlan) → each_pair apart (subport_parts n ports) ≡ true
subports-apart n [] = refl
subports-apart n (port ∷ ports) =
    pairs-append (each (subport_part n) port.subports) (subport_parts (n + 1) ports) (numbered-apart (subport_part n) (heads.Subport n) (λ k s. refl) 0 port.subports (λ a b e. ap not (and_right (n == n) (a == b) (ne_eqb a b (λ same. absurd (omega arith)))))) (subports-apart (n + 1) ports) (subports-cross n 0 port.subports ports)

-- names that differ are padded to names that differ
pub padded-differ : (v w : List ℕ) → not (bytes_eq v w) ≡ true → differs (heads.Meter (padded v)) (heads.Meter (padded w)) ≡ true
padded-differ v w h =
    elim (same_head (heads.Meter (padded v)) (heads.Meter (padded w))) as (λ t. same_head (heads.Meter (padded v)) (heads.Meter (padded w)) ≡ t → not t ≡ true) [
      | true ↦ λ e.
          let parts = and_parts (length v == length w) (bytes_eq (padded v).bytes (padded w).bytes) e in
          let size : length v ≡ length w = eqb-true (length v) (length w) parts.0 in
          let bytes : v ++ replicate (32 - length v) 0 ≡ w ++ replicate (32 - length w) 0 = (bytes_eq-Decides (padded v).bytes (padded w).bytes).0 parts.1 in
          let same : v ≡ w = sym (take_at v (replicate (32 - length v) 0) (length v) refl) ∙ ap (take (length v)) bytes ∙ take_at w (replicate (32 - length w) 0) (length v) (sym size) in
          let equal : bytes_eq v w ≡ true = (bytes_eq-Decides v w).1 same in
          absurd (cc)
      | false ↦ λ e. refl
    ] refl

meters-later : (m : MeterPlan) (ms : List MeterPlan) → list_all (λ other. not (bytes_eq m.name other.name)) ms ≡ true → list_all (apart (meter_part m)) (map meter_part ms) ≡ true
meters-later m [] h = refl
meters-later m (other ∷ ms) h =
    let parts = and_parts (not (bytes_eq m.name other.name)) (list_all (λ x. not (bytes_eq m.name x.name)) ms) h in
    and_from (apart (meter_part m) (meter_part other)) (list_all (apart (meter_part m)) (map meter_part ms)) (padded-differ m.name other.name parts.0) (meters-later m ms parts.1)

meters-apart : (ms : List MeterPlan) → have_names_apart ms ≡ true → each_pair apart (map meter_part ms) ≡ true
meters-apart [] h = refl
meters-apart (m ∷ ms) h =
    let parts = and_parts (list_all (λ other. not (bytes_eq m.name other.name)) ms) (have_names_apart ms) h in
    and_from (list_all (apart (meter_part m)) (map meter_part ms)) (each_pair apart (map meter_part ms)) (meters-later m ms parts.0) (meters-apart ms parts.1)

meters-all : (P : Head → Bool) (ms : List MeterPlan) → ((name : Name) → P (heads.Meter name) ≡ true) → list_all (λ p. P p.head) (map meter_part ms) ≡ true
meters-all P [] g = refl
meters-all P (m ∷ ms) g =
    and_from (P (heads.Meter (padded m.name))) (list_all (λ p. P p.head) (map meter_part ms)) (g (padded m.name)) (meters-all P ms g)

-- all parts of a plan
pub heads-apart : (p : Plan) → KeepsLimits p → each_pair (λ a b. differs a.head b.head) (parts_of p) ≡ true
heads-apart p lim =
    let ports = each port_part p.ports in
    let sks = map subport_kind_part p.subport_kinds in
    let pks = map pipe_kind_part p.pipe_kinds in
    let subs = subport_parts 0 p.ports in
    let meters = map meter_part p.meters in
    let rules = map (rule_part p.meters) p.rules in
    let pool : Kept 0 (pool_part p.pool ∷ []) = record { pairs = refl; low = refl } in
    let a : Kept 1 (pool_part p.pool ∷ ports) = grow 0 1 (pool_part p.pool ∷ []) ports pool (omega arith) (record {
      pairs = numbered-apart port_part heads.Port (λ n x. refl) 0 p.ports ne;
      high = numbered-all port_part heads.Port (λ n x. refl) (λ h. nat_lt 0 (tag h)) 0 p.ports (λ m e. refl);
      low = numbered-all port_part heads.Port (λ n x. refl) (λ h. nat_le (tag h) 1) 0 p.ports (λ m e. refl);
    }) in
    let b : Kept 2 (pool_part p.pool ∷ ports ++ sks) = grow 1 2 (pool_part p.pool ∷ ports) sks a (omega arith) (record {
      pairs = mapped-apart subport_kind_part (λ k. k.0) heads.SubportKind (λ k. refl) p.subport_kinds ne lim.subport_kinds_order;
      high = mapped-all subport_kind_part (λ k. k.0) heads.SubportKind (λ k. refl) (λ h. nat_lt 1 (tag h)) p.subport_kinds (λ k. refl);
      low = mapped-all subport_kind_part (λ k. k.0) heads.SubportKind (λ k. refl) (λ h. nat_le (tag h) 2) p.subport_kinds (λ k. refl);
    }) in
    let c : Kept 3 (pool_part p.pool ∷ ports ++ sks ++ pks) = grow 2 3 (pool_part p.pool ∷ ports ++ sks) pks b (omega arith) (record {
      pairs = mapped-apart pipe_kind_part (λ k. k.number) heads.PipeKind (λ k. refl) p.pipe_kinds ne lim.pipe_kinds_order;
      high = mapped-all pipe_kind_part (λ k. k.number) heads.PipeKind (λ k. refl) (λ h. nat_lt 2 (tag h)) p.pipe_kinds (λ k. refl);
      low = mapped-all pipe_kind_part (λ k. k.number) heads.PipeKind (λ k. refl) (λ h. nat_le (tag h) 3) p.pipe_kinds (λ k. refl);
    }) in
    let d : Kept 4 (pool_part p.pool ∷ ports ++ sks ++ pks ++ subs) = grow 3 4 (pool_part p.pool ∷ ports ++ sks ++ pks) subs c (omega arith) (record {
      pairs = subports-apart 0 p.ports;
      high = subports-all (λ h. nat_lt 3 (tag h)) 0 p.ports (λ m k e. refl);
      low = subports-all (λ h. nat_le (tag h) 4) 0 p.ports (λ m k e. refl);
    }) in
    let coded : Kept 5 (codes_part p.codes ∷ []) = record { pairs = refl; low = refl } in
    let named = grow 5 6 (codes_part p.codes ∷ []) meters coded (omega arith) (record {
      pairs = meters-apart p.meters lim.meter_names;
      high = meters-all (λ h. nat_lt 5 (tag h)) p.meters (λ name. refl);
      low = meters-all (λ h. nat_le (tag h) 6) p.meters (λ name. refl);
    }) in
    let e : Kept 6 (pool_part p.pool ∷ ports ++ sks ++ pks ++ subs ++ codes_part p.codes ∷ meters) = grow 4 6 (pool_part p.pool ∷ ports ++ sks ++ pks ++ subs) (codes_part p.codes ∷ meters) d (omega arith) (record {
      pairs = named.pairs;
      high = meters-all (λ h. nat_lt 4 (tag h)) p.meters (λ name. refl);
      low = named.low;
    }) in
    let f = grow 6 7 (pool_part p.pool ∷ ports ++ sks ++ pks ++ subs ++ codes_part p.codes ∷ meters) rules e (omega arith) (record {
      pairs = mapped-apart (rule_part p.meters) (λ r. r.number) heads.Rule (λ r. refl) p.rules ne lim.rules_order;
      high = mapped-all (rule_part p.meters) (λ r. r.number) heads.Rule (λ r. refl) (λ h. nat_lt 6 (tag h)) p.rules (λ r. refl);
      low = mapped-all (rule_part p.meters) (λ r. r.number) heads.Rule (λ r. refl) (λ h. nat_le (tag h) 7) p.rules (λ r. refl);
    }) in
    f.pairs
