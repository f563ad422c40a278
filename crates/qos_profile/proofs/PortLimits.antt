-- The limits of the ports, which are there without a gap, as are the subports of each.
use Rattle.std.proofs.Common.{◌≡◌, ℕ, suc, ◌+◌, ◌<◌, ◌≤◌, Bool, true, false, max, List, [], ◌∷◌, length, map, fold, get_or, ⊎_elim, inl, inr, ◌⊎◌, ◌||◌, zero, Some, refl, sym, ap, subst, ◌∙◌, arith, slice_get}
use Rattle.std.specs.Prelude.{All}
use Rattle.std.specs.List.{list_any, list_all, range_with_len}
use Rattle.std.proofs.lemmas.Bool.{cases_order}
use Rattle.std.proofs.lemmas.List.Elements.{All-map}
use Rattle.std.proofs.lemmas.List.FromFn.{get_or-range_with_len, length-range_with_len, length-map-range_with_len}
use Rattle.std.proofs.lemmas.List.Sums.{AllPass-from_list_all}
use Rattle.profile_plan.specs.Limits.{Within}
use Rattle.profile_plan.specs.Profile.{IsSubport, IsPort}
use Rattle.qos_profile.specs.declared.head.Head.{Head}
use Rattle.qos_profile.specs.declared.head.Head.TheVariants as heads
use Rattle.qos_profile.specs.declared.section.Section.{Section}
use Rattle.qos_profile.specs.Sections.{same_head}
use Rattle.qos_profile.specs.Lookups.{number_at, is_there, facts_at}
use Rattle.qos_profile.specs.Missing.{ports_to}
use Rattle.qos_profile.specs.Planned.{subport_of, subports_of, port_of, port_count, ports_of, subport_kinds_of, pipe_kinds_of}
use Rattle.qos_profile.specs.Fits.{FitsWithSubports, FitPorts}
use Rattle.qos_profile.proofs.Sound.{IsSound, IsSoundIn, EachSection, sound-at, same-head}
use Rattle.qos_profile.proofs.PartLimits.{port-numbers}
use Rattle.qos_profile.proofs.SubportLimits.{subport-limits}

-- what a test of all numbers below a count says of one
pub test-below : (q : ℕ → Bool) (count n : ℕ) → list_all q (range_with_len 0 count) ≡ true → n < count → q n ≡ true
test-below q count n all below =
    let test = AllPass-from_list_all q (range_with_len 0 count) all n 0 (omega (arith, length-range_with_len 0 count)) in
    let at : 0 + n ≡ n = omega arith in
    subst (λ k. q k ≡ true) (get_or-range_with_len 0 count n 0 below ∙ at) test

-- what holds of all numbers below a count holds of what they make
pub each-below : {X : Type 0} (P : X → Type 0) (make : ℕ → X) (count : ℕ) → ((n : ℕ) → n < count → P (make n)) → All P (map make (range_with_len 0 count))
each-below P make count each =
    All-map P make (range_with_len 0 count) (λ k d below. let within : k < count = omega (arith, length-range_with_len 0 count) in subst (λ n. P (make n)) (sym (get_or-range_with_len 0 count k d within ∙ (let e : 0 + k ≡ k = omega arith in e))) (each k within))

-- the element at a number below a count
pub made-at : {X : Type 0} (make : ℕ → X) (a count n : ℕ) → n < count → slice_get (map make (range_with_len a count)) n ≡ Some (make (a + n))
made-at make a zero n below = absurd (omega arith)
made-at make a (suc count) zero below = ap (λ k. Some (make k)) (let e : a ≡ a + 0 = omega arith in e)
made-at make a (suc count) (suc n) below =
    made-at make (a + 1) count n (omega arith) ∙ ap (λ k. Some (make k)) (let e : a + 1 + n ≡ a + suc n = omega arith in e)

-- ports

-- what holds below each number holds below the greatest
below-greatest : {X : Type 0} (Q : ℕ → Type 0) (f : X → ℕ) (xs : List X) (a : ℕ) → ((n : ℕ) → n < a → Q n) → ((k : ℕ) (d : X) → k < length xs → (n : ℕ) → n < f (get_or xs k d) → Q n) → (n : ℕ) → n < fold max a (map f xs) → Q n
below-greatest Q f [] a first each n below = first n below
below-greatest Q f (x ∷ xs) a first each n below =
    below-greatest Q f xs (max a (f x)) (λ m h. ⊎_elim (λ low. first m low) (λ low. each 0 x (omega arith) m low) (by m h)) (λ k d h. each (suc k) d (omega arith)) n below
  where
    by : (m : ℕ) → m < max a (f x) → (m < a) ⊎ (m < f x)
    by m h = ⊎_elim (λ (e : f x ≡ a). inl (omega arith)) (λ (o : (f x < a) ⊎ (a < f x)). ⊎_elim (λ (l : f x < a). inl (omega arith)) (λ (l : a < f x). inr (omega arith)) o) (cases_order (f x) a)

-- each number is at most the greatest
greatest-first : {X : Type 0} (f : X → ℕ) (xs : List X) (a : ℕ) → a ≤ fold max a (map f xs)
greatest-first f [] a = omega arith
greatest-first f (x ∷ xs) a = omega (arith, greatest-first f xs (max a (f x)))

greatest-each : {X : Type 0} (f : X → ℕ) (q : X → Bool) (xs : List X) (a least : ℕ) → ((x : X) → q x ≡ true → least ≤ f x) → list_any q xs ≡ true → least ≤ fold max a (map f xs)
greatest-each f q [] a least each h = absurd (cc)
greatest-each f q (x ∷ xs) a least each h = by (q x) refl h (greatest-each f q xs (max a (f x)) least each)
  where
    by : (t : Bool) → q x ≡ t → (t || list_any q xs) ≡ true → (list_any q xs ≡ true → least ≤ fold max (max a (f x)) (map f xs)) → least ≤ fold max (max a (f x)) (map f xs)
    by true e g later = omega (arith, greatest-first f xs (max a (f x)), each x e)
    by false e g later = later g

pub each-all : (P : Section → Type 0) (ss : List Section) → EachSection P ss → (k : ℕ) (d : Section) → k < length ss → P (get_or ss k d)
each-all P [] each k d h = absurd (omega arith)
each-all P (s ∷ ss) each zero d h = each.0
each-all P (s ∷ ss) each (suc k) d h = each-all P ss each.1 k d (omega arith)

-- each port below the count is there
pub port-there : (ss : List Section) (n : ℕ) → IsSound ss → n < port_count ss → is_there ss (heads.Port n) ≡ true
port-there ss n sound below =
    below-greatest (λ m. is_there ss (heads.Port m) ≡ true) (λ s. ports_to s.head) ss 0 (λ m h. absurd (omega arith)) (λ k d h m low. test-below (λ i. is_there ss (heads.Port i)) (ports_to (get_or ss k d).head) m (each-all (IsSoundIn ss) ss sound.each k d h).ports low) n below

-- there are 1 to 16 ports
few-to : (head : Head) → ports_to head ≤ 16
few-to heads.Pool = omega arith
few-to (heads.Port n) = omega arith
few-to (heads.SubportKind n) = omega arith
few-to (heads.PipeKind n) = omega arith
few-to (heads.Subport p k) = omega arith
few-to heads.Codes = omega arith
few-to (heads.Meter name) = omega arith
few-to (heads.Rule n) = omega arith
few-to heads.Red = omega arith

few-ports : (ss : List Section) (a : ℕ) → a ≤ 16 → fold max a (map (λ s. ports_to s.head) ss) ≤ 16
few-ports [] a h = h
few-ports (s ∷ ss) a h = few-ports ss (max a (ports_to s.head)) (omega (arith, few-to s.head))

-- a port that is there is below the count
pub port-below : (ss : List Section) (n : ℕ) → IsSound ss → is_there ss (heads.Port n) ≡ true → n < port_count ss
port-below ss n sound there =
    let kept : n ≤ 15 = (sound-at ss (heads.Port n) sound refl there).sound.head in
    let least : n + 1 ≤ port_count ss = greatest-each (λ s. ports_to s.head) (λ s. same_head s.head (heads.Port n)) ss 0 (n + 1) (λ s e. subst (λ h. n + 1 ≤ ports_to h) (sym (same-head s.head (heads.Port n) refl e)) (omega arith)) there in
    omega arith

pub port-count-limits : (ss : List Section) → IsSound ss → Within 1 16 (port_count ss)
port-count-limits ss sound = (omega (arith, port-below ss 0 sound sound.there), few-ports ss 0 (omega arith))

-- each subport of a port that is there
pub subport-there : (ss : List Section) (p k : ℕ) → IsSound ss → is_there ss (heads.Port p) ≡ true → k < number_at (facts_at ss (heads.Port p)) 1 0 0 → is_there ss (heads.Subport p k) ≡ true
subport-there ss p k sound there below =
    test-below (λ i. is_there ss (heads.Subport p i)) (number_at (facts_at ss (heads.Port p)) 1 0 0) k (sound-at ss (heads.Port p) sound refl there).sound.subports below

port-limits : (ss : List Section) (p : ℕ) → IsSound ss → p < port_count ss → IsPort (subport_kinds_of ss) (pipe_kinds_of ss) (port_of ss p (facts_at ss (heads.Port p))) × FitsWithSubports ss p (facts_at ss (heads.Port p))
unfolding port_of
port-limits ss p sound below =
    let there = port-there ss p sound below in
    let facts = facts_at ss (heads.Port p) in
    let s = (sound-at ss (heads.Port p) sound refl there).sound in
    let n = port-numbers p facts s.given s.complete in
    let count : length (subports_of ss p (number_at facts 1 0 0)) ≡ number_at facts 1 0 0 = length-map-range_with_len (λ k. subport_of (facts_at ss (heads.Subport p k))) 0 (number_at facts 1 0 0) in (
      record {
        line = n.line;
        overhead = n.overhead.1;
        mtu = n.mtu;
        burst = n.burst;
        quantum = n.quantum;
        drain = n.drain;
        subports = subst (Within 1 8) (sym count) n.subports;
        each = each-below (IsSubport (subport_kinds_of ss) (pipe_kinds_of ss)) (λ k. subport_of (facts_at ss (heads.Subport p k))) (number_at facts 1 0 0) (λ k low. (subport-limits ss p k sound (subport-there ss p k sound there low)).0);
      },
      (record { overhead = n.overhead.1; mtu = n.mtu.1; burst = n.burst.1 }, λ k low. (subport-limits ss p k sound (subport-there ss p k sound there low)).1),
    )

pub ports-limits : (ss : List Section) → IsSound ss → All (IsPort (subport_kinds_of ss) (pipe_kinds_of ss)) (ports_of ss)
ports-limits ss sound =
    each-below (IsPort (subport_kinds_of ss) (pipe_kinds_of ss)) (λ n. port_of ss n (facts_at ss (heads.Port n))) (port_count ss) (λ n below. (port-limits ss n sound below).0)

pub ports-length : (ss : List Section) → length (ports_of ss) ≡ port_count ss
ports-length ss = length-map-range_with_len (λ n. port_of ss n (facts_at ss (heads.Port n))) 0 (port_count ss)

pub ports-fit : (ss : List Section) → IsSound ss → FitPorts ss
ports-fit ss sound n below = (port-limits ss n sound below).1

-- the subports of a port that is there
pub port-subports : (ss : List Section) (n : ℕ) → (port_of ss n (facts_at ss (heads.Port n))).subports ≡ subports_of ss n (number_at (facts_at ss (heads.Port n)) 1 0 0)
unfolding port_of
port-subports ss n = refl
