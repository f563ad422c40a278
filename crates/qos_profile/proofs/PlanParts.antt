-- All sections of a plan are read as its parts.
use Rattle.std.proofs.Common.{◌≡◌, ◌==◌, ℕ, zero, suc, ◌+◌, ◌<◌, ◌≤◌, true, false, cond, ◌&&◌, ◌||◌, nat_le, List, [], ◌∷◌, ◌++◌, length, map, find, get_or, slice_get, Option, Some, None, refl, subst, arith, ⊎_elim}
use Rattle.std.specs.List.{list_all, All}
use Rattle.std.specs.Option.{IfSome, IsSome, option_map, option_and_then}
use Rattle.std.proofs.lemmas.Bool.{and_parts, and_from, or_cases, or_left, or_right, le-leb, leb-true, eqb-true}
use Rattle.std.proofs.lemmas.List.Elements.{All-head, All-tail, All-weaker}
use Rattle.profile_plan.specs.declared.port.PortPlan.{PortPlan}
use Rattle.profile_plan.specs.declared.port.SubportPlan.{SubportPlan}
use Rattle.profile_plan.specs.declared.shaping.Shaping.{Shaping}
use Rattle.profile_plan.specs.declared.shaping.PipeKind.{PipeKind}
use Rattle.profile_plan.specs.declared.meter.MeterPlan.{MeterPlan}
use Rattle.profile_plan.specs.declared.rule.PipeChoice.{PipeChoice}
use Rattle.profile_plan.specs.declared.rule.PipeChoice.TheVariants as pipes
use Rattle.profile_plan.specs.declared.rule.RulePlan.{RulePlan}
use Rattle.profile_plan.specs.Limits.{IsShaping, IsPipeKind, IsMeter, is_name_byte}
use Rattle.profile_plan.specs.Profile.{Plan, KeepsLimits, IsPort, IsSubport, IsRule, IsBelow, subport_kind_of, pipe_kind_of, subport_of}
use Rattle.profile_print.specs.Written.{Block, each, each_from}
use Rattle.profile_print.specs.Text.{pool_block, port_block, subport_kind_block, pipe_kind_block, subport_block, subport_blocks, codes_block, meter_block, rule_block, name_of_meter, blocks_of}
use Rattle.profile_print.specs.Plain.{is_plain, is_word, HasWords}
use Rattle.qos_profile.specs.Values.{is_within}
use Rattle.qos_profile.specs.Printed.{Part, pool_part, port_part, subport_kind_part, pipe_kind_part, subport_part, subport_parts, codes_part, meter_part, rule_part, parts_of}
use Rattle.qos_profile.specs.Forms.{HasClasses, HasSizes, HasWeights, HasAddresses, KeepsForms}
use Rattle.qos_profile.proofs.Blocks.{all-weaker, AreRead}
use Rattle.qos_profile.proofs.Parts.{pool-read, port-read, subport-kind-read, pipe-kind-read, subport-read, codes-read}
use Rattle.qos_profile.proofs.RuleParts.{IsPipe, IsName, meter-read, rule-read}

reads-append : (xs ys : List Block) (ps qs : List Part) → AreRead xs ps → AreRead ys qs → AreRead (xs ++ ys) (ps ++ qs)
reads-append [] ys [] qs h g = g
reads-append [] ys (p ∷ ps) qs h g = absurd h
reads-append (x ∷ xs) ys [] qs h g = absurd h
reads-append (x ∷ xs) ys (p ∷ ps) qs h g = (h.0, reads-append xs ys ps qs h.1 g)

-- an item that is there
pub get-below : {X : Type 0} (xs : List X) (i : ℕ) (x : X) → slice_get xs i ≡ Some x → i < length xs
get-below [] i x e = absurd (cc)
get-below (y ∷ ys) zero x e = omega arith
get-below (y ∷ ys) (suc i) x e = let rest = get-below ys i x e in omega arith

pub all-at : {X : Type 0} (P : X → Type 0) (xs : List X) (i : ℕ) (x : X) → slice_get xs i ≡ Some x → All P xs → P x
all-at P [] i x e h = absurd (cc)
all-at P (y ∷ ys) zero x e h = subst P (same-some y x e) (All-head P y ys h)
  where
    same-some : {Y : Type 0} (a b : Y) → Some a ≡ Some b → a ≡ b
    same-some a b q = cc
all-at P (y ∷ ys) (suc i) x e h = all-at P ys i x e (All-tail P y ys h)

-- the numbers of profiles that are there
kind-small : (ks : List (ℕ × Shaping)) (n : ℕ) → All (λ k. (k.0 ≤ 63) × IsShaping k.1) ks → IsSome (subport_kind_of ks n) → n ≤ 63
kind-small [] n h e = absurd (cc)
kind-small (k ∷ ks) n h e =
    elim (k.0 == n) as (λ t. (k.0 == n) ≡ t → IsSome (option_map (λ kind. kind.1) (cond t (Some k) (find (λ kind. kind.0 == n) ks))) → n ≤ 63) [
      | true ↦ λ same g. omega (arith, eqb-true k.0 n same, (All-head (λ x. (x.0 ≤ 63) × IsShaping x.1) k ks h).0)
      | false ↦ λ same g. kind-small ks n (All-tail (λ x. (x.0 ≤ 63) × IsShaping x.1) k ks h) g
    ] refl e

pipe-kind-small : (ks : List PipeKind) (n : ℕ) → All IsPipeKind ks → IsSome (pipe_kind_of ks n) → n ≤ 255
pipe-kind-small [] n h e = absurd (cc)
pipe-kind-small (k ∷ ks) n h e =
    elim (k.number == n) as (λ t. (k.number == n) ≡ t → IsSome (cond t (Some k) (find (λ kind. kind.number == n) ks)) → n ≤ 255) [
      | true ↦ λ same g. omega (arith, eqb-true k.number n same, (All-head IsPipeKind k ks h).number)
      | false ↦ λ same g. pipe-kind-small ks n (All-tail IsPipeKind k ks h) g
    ] refl e

ports-read : (ks : List (ℕ × Shaping)) (ps : List PipeKind) (n : ℕ) (ports : List PortPlan) → n + length ports ≤ 16 → All (IsPort ks ps) ports → AreRead (each_from port_block n ports) (each_from port_part n ports)
ports-read ks ps n [] small h = tt
ports-read ks ps n (p ∷ ports) small h =
    (port-read n p ks ps (omega arith) (All-head (IsPort ks ps) p ports h), ports-read ks ps (n + 1) ports (omega arith) (All-tail (IsPort ks ps) p ports h))

subport-kinds-read : (ks : List (ℕ × Shaping)) → All (λ k. (k.0 ≤ 63) × IsShaping k.1) ks → All (λ k. HasClasses k.1) ks → AreRead (map subport_kind_block ks) (map subport_kind_part ks)
subport-kinds-read [] h g = tt
subport-kinds-read (k ∷ ks) h g =
    let here = All-head (λ x. (x.0 ≤ 63) × IsShaping x.1) k ks h in
    (subport-kind-read k here.0 here.1 (All-head (λ x. HasClasses x.1) k ks g), subport-kinds-read ks (All-tail (λ x. (x.0 ≤ 63) × IsShaping x.1) k ks h) (All-tail (λ x. HasClasses x.1) k ks g))

pipe-kinds-read : (ks : List PipeKind) → All IsPipeKind ks → All HasWeights ks → AreRead (map pipe_kind_block ks) (map pipe_kind_part ks)
pipe-kinds-read [] h g = tt
pipe-kinds-read (k ∷ ks) h g =
    (pipe-kind-read k (All-head IsPipeKind k ks h) (All-head HasWeights k ks g), pipe-kinds-read ks (All-tail IsPipeKind k ks h) (All-tail HasWeights k ks g))

module _ (ks : List (ℕ × Shaping)) (ps : List PipeKind) (hk : All (λ k. (k.0 ≤ 63) × IsShaping k.1) ks) (hp : All IsPipeKind ps) where
  subports-read : (port n : ℕ) (ss : List SubportPlan) → port ≤ 15 → n + length ss ≤ 8 → All (IsSubport ks ps) ss → All (λ s. length s.sizes ≡ 13) ss → AreRead (each_from (subport_block port) n ss) (each_from (subport_part port) n ss)
  subports-read port n [] p small h g = tt
  subports-read port n (s ∷ ss) p small h g =
      let here = All-head (IsSubport ks ps) s ss h in (
        subport-read port n s ks ps p (omega arith) here (All-head (λ x. length x.sizes ≡ 13) s ss g) (kind-small ks s.kind hk here.kind) (All-weaker (λ v. IsSome (pipe_kind_of ps v)) (λ v. v ≤ 255) (λ v e. pipe-kind-small ps v hp e) s.pipes here.each_pipe),
        subports-read port (n + 1) ss p (omega arith) (All-tail (IsSubport ks ps) s ss h) (All-tail (λ x. length x.sizes ≡ 13) s ss g),
      )

  all-subports-read : (n : ℕ) (ports : List PortPlan) → n + length ports ≤ 16 → All (IsPort ks ps) ports → All HasSizes ports → AreRead (subport_blocks n ports) (subport_parts n ports)
  all-subports-read n [] small h g = tt
  all-subports-read n (port ∷ ports) small h g =
      let here = All-head (IsPort ks ps) port ports h in
      reads-append (each (subport_block n) port.subports) (subport_blocks (n + 1) ports) (each (subport_part n) port.subports) (subport_parts (n + 1) ports) (subports-read n 0 port.subports (omega arith) (omega (arith, here.subports.1)) here.each (All-head HasSizes port ports g)) (all-subports-read (n + 1) ports (omega arith) (All-tail (IsPort ks ps) port ports h) (All-tail HasSizes port ports g))

meters-read : (ms : List MeterPlan) → All IsMeter ms → AreRead (map meter_block ms) (map meter_part ms)
meters-read [] h = tt
meters-read (m ∷ ms) h = (meter-read m (All-head IsMeter m ms h), meters-read ms (All-tail IsMeter m ms h))

-- the name of a meter that is there
name-there : (ms : List MeterPlan) (n : ℕ) → n < length ms → All IsMeter ms → IsName (name_of_meter ms n)
name-there [] n below h = absurd (omega arith)
name-there (m ∷ ms) zero below h =
    let lim = All-head IsMeter m ms h in
    record { low = lim.name.0; high = lim.name.1; bytes = lim.letters }
name-there (m ∷ ms) (suc n) below h = name-there ms n (omega arith) (All-tail IsMeter m ms h)

meter-named : (ms : List MeterPlan) (o : Option ℕ) → IfSome o (λ n. n < length ms) → All IsMeter ms → IfSome o (λ n. IsName (name_of_meter ms n))
meter-named ms None below h = below
meter-named ms (Some n) below h = name-there ms n below h

-- where a rule's port, subport and pipe are there, their numbers are small
record IsPlace (r : RulePlan) : Type 0 where
  port : r.port ≤ 15
  subport : r.subport ≤ 7
  pipe : IsPipe r.pipe

pipe-small : (c : PipeChoice) (count : ℕ) → count ≤ 4096 → IsBelow c count → IsPipe c
pipe-small (pipes.Fixed n) count small h = omega arith
pipe-small pipes.Vlan count small h = tt
pipe-small pipes.Host count small h = tt

place-of : (ks : List (ℕ × Shaping)) (ps : List PipeKind) (ports : List PortPlan) (r : RulePlan) → length ports ≤ 16 → All (IsPort ks ps) ports → IsSome (subport_of ports r.port r.subport) → IfSome (subport_of ports r.port r.subport) (λ s. IsBelow r.pipe (length s.pipes)) → IsPlace r
place-of ks ps ports r few h there below = at-port (slice_get ports r.port) refl there below
  where
    at-subport : (port : PortPlan) → r.port ≤ 15 → IsPort ks ps port → (o : Option SubportPlan) → slice_get port.subports r.subport ≡ o → IsSome o → IfSome o (λ s. IsBelow r.pipe (length s.pipes)) → IsPlace r
    at-subport port p lim None e is g = absurd (cc)
    at-subport port p lim (Some s) e is g =
        let sub = get-below port.subports r.subport s e in
        let here = all-at (IsSubport ks ps) port.subports r.subport s e lim.each in
        record { port = p; subport = omega (arith, lim.subports.1); pipe = pipe-small r.pipe (length s.pipes) here.pipes.1 g }

    at-port : (o : Option PortPlan) → slice_get ports r.port ≡ o → IsSome (option_and_then (λ p. slice_get p.subports r.subport) o) → IfSome (option_and_then (λ p. slice_get p.subports r.subport) o) (λ s. IsBelow r.pipe (length s.pipes)) → IsPlace r
    at-port None e is g = absurd (cc)
    at-port (Some port) e is g =
        let i = get-below ports r.port port e in
        at-subport port (omega arith) (all-at (IsPort ks ps) ports r.port port e h) (slice_get port.subports r.subport) refl is g

rules-read : (ks : List (ℕ × Shaping)) (ps : List PipeKind) (ports : List PortPlan) (ms : List MeterPlan) (rs : List RulePlan) → length ports ≤ 16 → All (IsPort ks ps) ports → All IsMeter ms → All (IsRule ports ms) rs → All HasAddresses rs → AreRead (map (rule_block ms) rs) (map (rule_part ms) rs)
rules-read ks ps ports ms [] few hp hm h g = tt
rules-read ks ps ports ms (r ∷ rs) few hp hm h g =
    let lim = All-head (IsRule ports ms) r rs h in
    let place = place-of ks ps ports r few hp lim.subport lim.pipe in (
      rule-read ms r (record {
        number = lim.number;
        input = lim.input;
        vlan = lim.vlan;
        src = lim.src;
        dst = lim.dst;
        addresses = All-head HasAddresses r rs g;
        port = place.port;
        subport = place.subport;
        pipe = place.pipe;
        code = lim.code;
        meter = meter-named ms r.meter lim.meter hm;
      }),
      rules-read ks ps ports ms rs few hp hm (All-tail (IsRule ports ms) r rs h) (All-tail HasAddresses r rs g),
    )

pub plan-read : (p : Plan) → KeepsLimits p → KeepsForms p → AreRead (blocks_of p) (parts_of p)
plan-read p lim form =
    let xs0 = pool_block p.pool ∷ each port_block p.ports in
    let ys0 = pool_part p.pool ∷ each port_part p.ports in
    let xs1 = map subport_kind_block p.subport_kinds in
    let ys1 = map subport_kind_part p.subport_kinds in
    let xs2 = map pipe_kind_block p.pipe_kinds in
    let ys2 = map pipe_kind_part p.pipe_kinds in
    let xs3 = subport_blocks 0 p.ports in
    let ys3 = subport_parts 0 p.ports in
    let xs4 = codes_block p.codes ∷ map meter_block p.meters in
    let ys4 = codes_part p.codes ∷ map meter_part p.meters in
    let xs5 = map (rule_block p.meters) p.rules in
    let ys5 = map (rule_part p.meters) p.rules in
    let a = reads-append xs0 xs1 ys0 ys1 (pool-read p.pool lim.pool, ports-read p.subport_kinds p.pipe_kinds 0 p.ports (omega (arith, lim.ports.1)) lim.each_port) (subport-kinds-read p.subport_kinds lim.subport_kinds form.subport_kinds) in
    let b = reads-append (xs0 ++ xs1) xs2 (ys0 ++ ys1) ys2 a (pipe-kinds-read p.pipe_kinds lim.pipe_kinds form.pipe_kinds) in
    let c = reads-append (xs0 ++ xs1 ++ xs2) xs3 (ys0 ++ ys1 ++ ys2) ys3 b (all-subports-read p.subport_kinds p.pipe_kinds lim.subport_kinds lim.pipe_kinds 0 p.ports (omega (arith, lim.ports.1)) lim.each_port form.ports) in
    let d = reads-append (xs0 ++ xs1 ++ xs2 ++ xs3) xs4 (ys0 ++ ys1 ++ ys2 ++ ys3) ys4 c (codes-read p.codes lim.code_count lim.codes, meters-read p.meters lim.meters) in
    reads-append (xs0 ++ xs1 ++ xs2 ++ xs3 ++ xs4) xs5 (ys0 ++ ys1 ++ ys2 ++ ys3 ++ ys4) ys5 d (rules-read p.subport_kinds p.pipe_kinds p.ports p.meters p.rules lim.ports.1 lim.each_port lim.meters lim.rules form.rules)

-- a name is a plain word
name-plain : (b : ℕ) → is_name_byte b ≡ true → is_plain b ≡ true
name-plain b h =
    ⊎_elim
    (λ e. ⊎_elim
    (λ f. let q = and_parts (nat_le 97 b) (nat_le b 122) f in let low = leb-true 97 b q.0 in or_right (nat_le 46 b && nat_le b 57) (nat_le 95 b && nat_le b 122) (and_from (nat_le 95 b) (nat_le b 122) (le-leb 95 b (omega arith)) q.1))
    (λ f. let q = and_parts (nat_le 48 b) (nat_le b 57) f in let low = leb-true 48 b q.0 in or_left (nat_le 46 b && nat_le b 57) (nat_le 95 b && nat_le b 122) (and_from (nat_le 46 b) (nat_le b 57) (le-leb 46 b (omega arith)) q.1))
    (or_cases (is_within 97 122 b) (is_within 48 57 b) e))
    (λ e. let same = eqb-true b 95 e in or_right (nat_le 46 b && nat_le b 57) (nat_le 95 b && nat_le b 122) (and_from (nat_le 95 b) (nat_le b 122) (le-leb 95 b (omega arith)) (le-leb b 122 (omega arith))))
    (or_cases (is_within 97 122 b || is_within 48 57 b) (b == 95) h)

names-plain : (ms : List MeterPlan) → All IsMeter ms → All (λ m. is_word m.name ≡ true) ms
unfolding is_word
names-plain ms h = λ k d below.
    let m = get_or ms k d in
    and_from (nat_le 1 (length m.name)) (list_all is_plain m.name) (le-leb 1 (length m.name) (h k d below).name.0) (all-weaker is_name_byte is_plain name-plain m.name (h k d below).letters)

pub plan-words : (p : Plan) → KeepsLimits p → KeepsForms p → HasWords p
plan-words p lim form = record {
  names = names-plain p.meters lim.meters;
  named = λ k d below. (lim.rules k d below).meter;
  sizes = λ k d below. λ i e under. (let size = form.ports k d below i e under in omega arith);
  weights = λ k d below. (let size = (form.pipe_kinds k d below).count in omega arith);
}
