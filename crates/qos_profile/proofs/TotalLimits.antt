-- The pipes and queues of a profile are among those of its sections.
use Rattle.std.proofs.Common.{◌≡◌, ◌==◌, ℕ, zero, suc, ◌+◌, ◌*◌, ◌<◌, ◌≤◌, Bool, true, false, cond, ◌&&◌, min, List, [], ◌∷◌, length, map, find, get_or, Option, Some, refl, sym, ap, subst, ◌∙◌, arith, mul-le-mul_left}
use Rattle.std.specs.Prelude.{All, sum}
use Rattle.std.specs.List.{sum_by, range_with_len}
use Rattle.std.proofs.lemmas.Bool.{eqb-true}
use Rattle.std.proofs.lemmas.List.Elements.{All-head, All-tail}
use Rattle.std.proofs.lemmas.List.Sums.{sum_by-cons}
use Rattle.std.proofs.lemmas.List.FromFn.{length-map-range_with_len}
use Rattle.profile_plan.specs.declared.port.SubportPlan.{SubportPlan}
use Rattle.profile_plan.specs.Profile as plan
use Rattle.qos_profile.specs.declared.value.Value.{Value}
use Rattle.qos_profile.specs.declared.value.Value.TheVariants as values
use Rattle.qos_profile.specs.declared.fact.Fact.{Fact}
use Rattle.qos_profile.specs.declared.head.Head.{Head}
use Rattle.qos_profile.specs.declared.head.Head.TheVariants as heads
use Rattle.qos_profile.specs.declared.section.Section.{Section}
use Rattle.qos_profile.specs.Sections.{same_head}
use Rattle.qos_profile.specs.Lookups.{value_at, number_at, is_there, facts_or_none, facts_at}
use Rattle.qos_profile.specs.Large.{room_with, pipes_in, room_in}
use Rattle.qos_profile.specs.Planned.{sizes_or, subport_of, port_of, port_count, ports_of}
use Rattle.qos_profile.proofs.Sound.{IsSound, sound-at}
use Rattle.qos_profile.proofs.PartLimits.{totals-small}
use Rattle.qos_profile.proofs.SubportLimits.{sizes-limits, pipes-within, owes-subport}
use Rattle.qos_profile.proofs.PortLimits.{port-there, subport-there, port-subports}

-- the sum of a function over so many numbers
total : (ℕ → ℕ) → ℕ → ℕ → ℕ
total f a zero = 0
total f a (suc n) = f a + total f (a + 1) n

total-range : {X : Type 0} (w : X → ℕ) (make : ℕ → X) (a n : ℕ) → sum_by w (map make (range_with_len a n)) ≡ total (λ k. w (make k)) a n
unfolding total
total-range w make a zero = refl
total-range w make a (suc n) =
    sum_by-cons w (make a) (map make (range_with_len (a + 1) n)) ∙ ap (λ m. w (make a) + m) (total-range w make (a + 1) n)

total-le : (f g : ℕ → ℕ) (a n : ℕ) → ((k : ℕ) → a ≤ k → k < a + n → f k ≤ g k) → total f a n ≤ total g a n
unfolding total
total-le f g a zero each = omega arith
total-le f g a (suc n) each =
    omega (arith, each a (omega arith) (omega arith), total-le f g (a + 1) n (λ k low high. each k (omega arith) (omega arith)))

total-add : (f g : ℕ → ℕ) (a n : ℕ) → total (λ k. f k + g k) a n ≡ total f a n + total g a n
unfolding total
total-add f g a zero = refl
total-add f g a (suc n) = omega (arith, total-add f g (a + 1) n)

total-zero : (a n : ℕ) → total (λ k. 0) a n ≡ 0
unfolding total
total-zero a zero = refl
total-zero a (suc n) = omega (arith, total-zero (a + 1) n)

other : (m k : ℕ) → (m ≡ k → ⊥) → (m == k) ≡ false
other m k ne = by (m == k) refl
  where
    by : (t : Bool) → (m == k) ≡ t → t ≡ false
    by false e = refl
    by true e = absurd (ne (eqb-true m k e))

-- one number among them counts once
total-past : (m c a n : ℕ) → m < a → total (λ k. cond (m == k) c 0) a n ≡ 0
unfolding total
total-past m c a zero h = refl
total-past m c a (suc n) h =
    let none : cond (m == a) c 0 ≡ 0 = ap (λ t. cond t c 0) (other m a (λ e. absurd (omega arith))) in
    omega (arith, none, total-past m c (a + 1) n (omega arith))

total-one : (m c a n : ℕ) → total (λ k. cond (m == k) c 0) a n ≤ c
unfolding total
total-one m c a zero = omega arith
total-one m c a (suc n) = by (m == a) refl (total-one m c (a + 1) n)
  where
    by : (t : Bool) → (m == a) ≡ t → total (λ k. cond (m == k) c 0) (a + 1) n ≤ c → cond t c 0 + total (λ k. cond (m == k) c 0) (a + 1) n ≤ c
    by true e rest = omega (arith, total-past m c (a + 1) n (omega (arith, eqb-true m a e)))
    by false e rest = omega arith

total-pair : (m j c p n : ℕ) → total (λ k. cond (m == p && j == k) c 0) 0 n ≤ cond (m == p) c 0
total-pair m j c p n = by (m == p)
  where
    by : (t : Bool) → total (λ k. cond (t && j == k) c 0) 0 n ≤ cond t c 0
    by true = total-one j c 0 n
    by false = omega (arith, total-zero 0 n)

-- over the subports of some ports
module _ (count : ℕ → ℕ) (ports : ℕ) where
  both : (ℕ → ℕ → ℕ) → ℕ
  both f = total (λ p. total (f p) 0 (count p)) 0 ports

  both-le : (f g : ℕ → ℕ → ℕ) → ((p k : ℕ) → p < ports → k < count p → f p k ≤ g p k) → both f ≤ both g
  unfolding both
  both-le f g each =
      total-le (λ p. total (f p) 0 (count p)) (λ p. total (g p) 0 (count p)) 0 ports (λ p low high. total-le (f p) (g p) 0 (count p) (λ k a b. each p k (omega arith) (omega arith)))

  both-add : (f g : ℕ → ℕ → ℕ) → both (λ p k. f p k + g p k) ≤ both f + both g
  unfolding both
  both-add f g =
      omega (arith, total-le (λ p. total (λ k. f p k + g p k) 0 (count p)) (λ p. total (f p) 0 (count p) + total (g p) 0 (count p)) 0 ports (λ p low high. omega (arith, total-add (f p) (g p) 0 (count p))), total-add (λ p. total (f p) 0 (count p)) (λ p. total (g p) 0 (count p)) 0 ports)

  both-zero : both (λ p k. 0) ≤ 0
  unfolding both
  both-zero =
      omega (arith, total-le (λ p. total (λ k. 0) 0 (count p)) (λ p. 0) 0 ports (λ p low high. omega (arith, total-zero 0 (count p))), total-zero 0 ports)

  both-one : (m j c : ℕ) → both (λ p k. cond (m == p && j == k) c 0) ≤ c
  unfolding both
  both-one m j c =
      omega (arith, total-le (λ p. total (λ k. cond (m == p && j == k) c 0) 0 (count p)) (λ p. cond (m == p) c 0) 0 ports (λ p low high. total-pair m j c p (count p)), total-one m c 0 ports)

-- what the facts of a subport weigh, and what a section weighs
pub record Weighs (u : List Fact → ℕ) (v : Section → ℕ) : Type 0 where
  pub none : u [] ≡ 0
  pub some : (s : Section) (p k : ℕ) → s.head ≡ heads.Subport p k → v s ≡ u s.facts

module _ (u : List Fact → ℕ) (v : Section → ℕ) (weighs : Weighs u v) (count : ℕ → ℕ) (ports : ℕ) where
  one-head : (s : Section) (h : Head) → s.head ≡ h → both count ports (λ p k. cond (same_head h (heads.Subport p k)) (u s.facts) 0) ≤ v s
  one-head s (heads.Subport m j) e = omega (arith, both-one count ports m j (u s.facts), weighs.some s m j e)
  one-head s heads.Pool e = omega (arith, both-zero count ports)
  one-head s (heads.Port n) e = omega (arith, both-zero count ports)
  one-head s (heads.SubportKind n) e = omega (arith, both-zero count ports)
  one-head s (heads.PipeKind n) e = omega (arith, both-zero count ports)
  one-head s heads.Codes e = omega (arith, both-zero count ports)
  one-head s (heads.Meter name) e = omega (arith, both-zero count ports)
  one-head s (heads.Rule n) e = omega (arith, both-zero count ports)
  one-head s heads.Red e = omega (arith, both-zero count ports)

  first-or-rest : (s : Section) (ss : List Section) (h : Head) → u (facts_at (s ∷ ss) h) ≤ cond (same_head s.head h) (u s.facts) 0 + u (facts_at ss h)
  first-or-rest s ss h = by (same_head s.head h)
    where
      by : (t : Bool) → u (facts_or_none (cond t (Some s) (find (λ x. same_head x.head h) ss))) ≤ cond t (u s.facts) 0 + u (facts_at ss h)
      by true = omega arith
      by false = omega arith

  among-sections : (ss : List Section) → both count ports (λ p k. u (facts_at ss (heads.Subport p k))) ≤ sum_by v ss
  among-sections [] =
      omega (arith, both-le count ports (λ p k. u []) (λ p k. 0) (λ p k a b. omega (arith, weighs.none)), both-zero count ports)
  among-sections (s ∷ ss) =
      omega (arith, both-le count ports (λ p k. u (facts_at (s ∷ ss) (heads.Subport p k))) (λ p k. cond (same_head s.head (heads.Subport p k)) (u s.facts) 0 + u (facts_at ss (heads.Subport p k))) (λ p k a b. first-or-rest s ss (heads.Subport p k)), both-add count ports (λ p k. cond (same_head s.head (heads.Subport p k)) (u s.facts) 0) (λ p k. u (facts_at ss (heads.Subport p k))), one-head s s.head refl, among-sections ss, sum_by-cons v s ss)

subport_count : List Section → ℕ → ℕ
subport_count ss p = number_at (facts_at ss (heads.Port p)) 1 0 0

-- a sum over the subports of all ports
ports-total : (ss : List Section) (w : SubportPlan → ℕ) → sum_by (λ port. sum_by w port.subports) (ports_of ss) ≡ both (subport_count ss) (port_count ss) (λ p k. w (subport_of (facts_at ss (heads.Subport p k))))
unfolding both subport_count
ports-total ss w =
    total-range (λ port. sum_by w port.subports) (λ n. port_of ss n (facts_at ss (heads.Port n))) 0 (port_count ss)
    ∙ total-same (λ n. sum_by w (port_of ss n (facts_at ss (heads.Port n))).subports) (λ n. total (λ k. w (subport_of (facts_at ss (heads.Subport n k)))) 0 (number_at (facts_at ss (heads.Port n)) 1 0 0)) 0 (port_count ss) (λ n. ap (sum_by w) (port-subports ss n) ∙ total-range w (λ k. subport_of (facts_at ss (heads.Subport n k))) 0 (number_at (facts_at ss (heads.Port n)) 1 0 0))
  where
    total-same : (f g : ℕ → ℕ) (a n : ℕ) → ((k : ℕ) → f k ≡ g k) → total f a n ≡ total g a n
    total-same f g a n each =
        omega (arith, total-le f g a n (λ k low high. omega (arith, each k)), total-le g f a n (λ k low high. omega (arith, each k)))

-- where each subport that is there weighs at most what its facts weigh, all together weigh at most what the sections weigh
pub weights-total : (ss : List Section) (w : SubportPlan → ℕ) (u : List Fact → ℕ) (v : Section → ℕ) → IsSound ss → Weighs u v → ((p k : ℕ) → is_there ss (heads.Subport p k) ≡ true → w (subport_of (facts_at ss (heads.Subport p k))) ≤ u (facts_at ss (heads.Subport p k))) → sum_by (λ port. sum_by w port.subports) (ports_of ss) ≤ sum_by v ss
unfolding subport_count
weights-total ss w u v sound weighs each =
    omega (arith, ports-total ss w, both-le (subport_count ss) (port_count ss) (λ p k. w (subport_of (facts_at ss (heads.Subport p k)))) (λ p k. u (facts_at ss (heads.Subport p k))) (λ p k a b. each p k (subport-there ss p k sound (port-there ss p sound a) b)), among-sections u v weighs (subport_count ss) (port_count ss) ss)

-- the pipes

abbrev pipes_u : List Fact → ℕ
pipes_u facts = min 4096 (number_at facts 1 0 0)

pub subport-pipes : (facts : List Fact) → length (subport_of facts).pipes ≡ number_at facts 1 0 0
unfolding subport_of
subport-pipes facts = length-map-range_with_len (λ pipe. number_at facts 3 pipe 0) 0 (number_at facts 1 0 0)

pub few-pipes : (ss : List Section) (p k : ℕ) → IsSound ss → is_there ss (heads.Subport p k) ≡ true → number_at (facts_at ss (heads.Subport p k)) 1 0 0 ≤ 4096
few-pipes ss p k sound there =
    let s = (sound-at ss (heads.Subport p k) sound refl there).sound in
    (pipes-within p k (facts_at ss (heads.Subport p k)) s.given (owes-subport p k (facts_at ss (heads.Subport p k)) s.complete).pipes).1

pub pipe-total-limits : (ss : List Section) → IsSound ss → plan.pipe_total (ports_of ss) ≤ 65536
pipe-total-limits ss sound =
    omega (arith, weights-total ss (λ s. length s.pipes) pipes_u (λ s. pipes_in s.head s.facts) sound (record { none = refl; some = λ s p k e. ap (λ h. pipes_in h s.facts) e }) (λ p k there. let facts = facts_at ss (heads.Subport p k) in omega (arith, subport-pipes facts, few-pipes ss p k sound there)), (totals-small ss sound).pipes)

-- the queues

sum-capped : (xs : List ℕ) → All (λ n. n ≤ 65536) xs → sum xs ≤ sum_by (min 65536) xs
sum-capped [] all = omega arith
sum-capped (x ∷ xs) all =
    omega (arith, All-head (λ n. n ≤ 65536) x xs all, sum-capped xs (All-tail (λ n. n ≤ 65536) x xs all), sum_by-cons (λ n. n) x xs, sum_by-cons (min 65536) x xs)

one-capped : (xs : List ℕ) (i : ℕ) → All (λ n. n ≤ 65536) xs → get_or xs i 0 ≤ min 65536 (get_or xs i 0)
one-capped [] i all = omega arith
one-capped (x ∷ xs) zero all = omega (arith, All-head (λ n. n ≤ 65536) x xs all)
one-capped (x ∷ xs) (suc i) all = one-capped xs i (All-tail (λ n. n ≤ 65536) x xs all)

room-capped : (o : Option Value) → All (λ n. n ≤ 65536) (sizes_or o) → plan.pipe_room (sizes_or o) ≤ room_with o
room-capped (Some (values.Sizes sizes)) all = omega (arith, sum-capped sizes all, one-capped sizes 12 all)
room-capped _ all = omega arith

rooms_u : List Fact → ℕ
rooms_u facts = min 4096 (number_at facts 1 0 0) * room_with (value_at facts 2 0)

subport-sizes : (facts : List Fact) → (subport_of facts).sizes ≡ sizes_or (value_at facts 2 0)
unfolding subport_of
subport-sizes facts = refl

times-le : (a b c d : ℕ) → a ≡ b → c ≤ d → a * c ≤ b * d
times-le a b c d e h = subst (λ x. a * c ≤ x * d) e (mul-le-mul_left a h)

pub queue-total-limits : (ss : List Section) → IsSound ss → plan.queue_total (ports_of ss) ≤ 4194304
unfolding rooms_u
queue-total-limits ss sound =
    omega (arith, weights-total ss plan.subport_room rooms_u room_in sound (record { none = refl; some = λ s p k e. ap (λ h. pipes_in h s.facts * room_with (value_at s.facts 2 0)) e }) (λ p k there. room p k (facts_at ss (heads.Subport p k)) (few-pipes ss p k sound there) (sizes-limits p k (facts_at ss (heads.Subport p k)) (sound-at ss (heads.Subport p k) sound refl there).sound.given)), (totals-small ss sound).queues)
  where
    room : (p k : ℕ) (facts : List Fact) → number_at facts 1 0 0 ≤ 4096 → All (λ n. n ≤ 65536) (sizes_or (value_at facts 2 0)) → plan.subport_room (subport_of facts) ≤ min 4096 (number_at facts 1 0 0) * room_with (value_at facts 2 0)
    room p k facts few all =
        let count : length (subport_of facts).pipes ≡ min 4096 (number_at facts 1 0 0) = omega (arith, subport-pipes facts) in
        times-le (length (subport_of facts).pipes) (min 4096 (number_at facts 1 0 0)) (plan.pipe_room (subport_of facts).sizes) (room_with (value_at facts 2 0)) count (subst (λ ns. plan.pipe_room ns ≤ room_with (value_at facts 2 0)) (sym (subport-sizes facts)) (room-capped (value_at facts 2 0) all))
