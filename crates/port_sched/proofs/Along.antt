-- What holds of each small step of a dequeue holds of all of it.
use Rattle.std.proofs.Common.{◌≡◌, ℕ, zero, suc, ◌+◌, ◌*◌, ◌%◌, ◌||◌, max, cond, eqb, leb, List, [], ◌∷◌, Option, Some, None, refl, sym, ap, ◌∙◌, subst, set, length}
use Rattle.std.specs.List.{fold, slice_get, range_with_len}
use Rattle.std.proofs.lemmas.Bool.{cond_both}
use Rattle.std.proofs.lemmas.List.{set-get_or}
use Rattle.std.proofs.lemmas.Option.{get_or_from_slice_get}
use Rattle.qos_base.specs.declared.packet.Pkt.{Pkt}
use Rattle.active_bitmap.specs.NextActive.{next_active}
use Rattle.port_sched.specs.Pipe.{Pipe}
use Rattle.port_sched.specs.Subport.{Subport, active}
use Rattle.port_sched.specs.Port.{Port, tick}
use Rattle.port_sched.specs.Classes.{Visit, strict_turn, best_effort_turn, classes_turn}
use Rattle.port_sched.specs.Visit.{Service, visit_start, visit_end, visit_pipe}
use Rattle.port_sched.specs.PortDequeue.{Course, cost_with, subport_at, service_start, service_end, visit_next, visit, active_count, pipe_count, visits, moved_on, turn_of, in_order, dequeue_port}

-- a relation of before and after that goes along with one step after another
pub record Joins {X : Type 0} (R : X → X → Type 0) : Type 0 where
  pub none : (a : X) → R a a
  pub joined : (a b c : X) → R a b → R b c → R a c

module _ {X : Type 0} (R : X → X → Type 0) (along : Joins R) where
  pub fold-along : {A : Type 0} (step : X → A → X) → ((x : X) (a : A) → R x (step x a)) → (x : X) (items : List A) → R x (fold step x items)
  fold-along step one x [] = along.none x
  fold-along step one x (a ∷ rest) = along.joined x (step x a) (fold step (step x a) rest) (one x a) (fold-along step one (step x a) rest)

module _ {T : Type 0} (cost : T → ℕ) (R : Visit T → Visit T → Type 0) (along : Joins R) where
  -- the classes of a visit
  pub classes-along : ((v : Visit T) (class : ℕ) → R v (strict_turn cost v class)) → ((v : Visit T) → R v (best_effort_turn cost v))
      → (v : Visit T) → R v (classes_turn cost v)
  unfolding classes_turn
  classes-along strict best_effort v =
      let first = fold (strict_turn cost) v (range_with_len 0 12) in
      along.joined v first (best_effort_turn cost first) (fold-along R along (strict_turn cost) strict v (range_with_len 0 12)) (best_effort first)

-- the steps of a visit, by what is found: the pipe, the next one with a packet, and the subport
module _ {T : Type 0} where
  abbrev pub visit_of : (T → ℕ) → ℕ → Service T → Option (Pipe T) → Service T
  visit_of cost q g (Some p) = visit_end q g (classes_turn cost (visit_start g p))
  visit_of cost q g None = g

  abbrev pub visit_that : (T → ℕ) → Service T → Option ℕ → Service T
  visit_that cost g (Some q) = visit_pipe cost q g
  visit_that cost g None = g

  -- in a course `c`, whose buckets are stepped in `stepped`
  abbrev pub visit_in : (T → Pkt) → ℕ → Course T → Course T → Option (Subport T) → Course T
  visit_in packet k c stepped (Some s) = service_end packet k stepped (visit_next packet (cost_with packet c.port.overhead) (service_start packet stepped s))
  visit_in packet k c stepped None = c

module _ {T : Type 0} (packet : T → Pkt) where
  -- pipe q of subport k is visited, in a port whose buckets are stepped
  abbrev pub visited : ℕ → ℕ → Course T → Subport T → Pipe T → Course T
  visited k q c s p =
      let g = service_start packet c s in
      service_end packet k c (visit_end q g (classes_turn (cost_with packet c.port.overhead) (visit_start g p)))

  -- where a dequeue at `now` starts
  abbrev pub start_of : ℕ → ℕ → Port T → Course T
  start_of now room s = record { port = record s { time = max s.time now }; room = room; sends = [] }

  abbrev pub stepped : Course T → Course T
  stepped c = record c { port = tick c.port.time c.port }

  -- What holds of the small steps: the buckets are stepped, the cursor moves, and a pipe with a packet is visited.
  pub record HoldsOfSteps (R : Course T → Course T → Type 0) : Type 0 where
    pub along : Joins R
    pub ticked : (c : Course T) → R c (stepped c)
    pub moved : (c : Course T) (k : ℕ) → R c (record c { port = record c.port { cursor = (k + 1) % length c.port.subports } })
    pub served : (k q : ℕ) (c : Course T) (s : Subport T) (p : Pipe T) → slice_get c.port.subports k ≡ Some s
        → next_active s.cursor (active s) ≡ Some q → slice_get s.pipes q ≡ Some p → R c (visited k q c s p)

  module _ (R : Course T → Course T → Type 0) (holds : HoldsOfSteps R) where
    -- a subport goes back as it was
    nothing-along : (k : ℕ) (c : Course T) (s : Subport T) → slice_get c.port.subports k ≡ Some s
        → R c (service_end packet k c (service_start packet c s))
    nothing-along k c s there =
        let same : set c.port.subports k s ≡ c.port.subports =
        ap (set c.port.subports k) (sym (get_or_from_slice_get c.port.subports k s s there)) ∙ set-get_or c.port.subports k s in
        subst (λ ss. R c (record c { port = record c.port { subports = ss } })) (sym same) (holds.along.none c)

    pipe-along : (k q : ℕ) (c : Course T) (s : Subport T) → slice_get c.port.subports k ≡ Some s
        → next_active s.cursor (active s) ≡ Some q → (found : Option (Pipe T)) → slice_get s.pipes q ≡ found
        → R c (service_end packet k c (visit_of (cost_with packet c.port.overhead) q (service_start packet c s) found))
    pipe-along k q c s there next (Some p) found = holds.served k q c s p there next found
    pipe-along k q c s there next None found = nothing-along k c s there

    next-along : (k : ℕ) (c : Course T) (s : Subport T) → slice_get c.port.subports k ≡ Some s → (next : Option ℕ)
        → next_active s.cursor (active s) ≡ next
        → R c (service_end packet k c (visit_that (cost_with packet c.port.overhead) (service_start packet c s) next))
    next-along k c s there (Some q) next = pipe-along k q c s there next (slice_get s.pipes q) refl
    next-along k c s there None next = nothing-along k c s there

    subport-along : (k : ℕ) (c : Course T) (found : Option (Subport T)) → slice_get (stepped c).port.subports k ≡ found
        → R c (visit_in packet k c (stepped c) found)
    subport-along k c (Some s) found =
        holds.along.joined c (stepped c) (visit_in packet k c (stepped c) (Some s)) (holds.ticked c) (next-along k (stepped c) s found (next_active s.cursor (active s)) refl)
    subport-along k c None found = holds.along.none c

    pub visit-along : (k : ℕ) (c : Course T) → R c (visit packet k c)
    unfolding visit
    visit-along k c = subport-along k c (slice_get (stepped c).port.subports k) refl

    visits-along : (most k misses : ℕ) (c : Course T) → R c (visits packet most k misses c)
    unfolding visits
    visits-along zero k misses c = holds.along.none c
    visits-along (suc most) k misses c =
        let next = visit packet k c in
        let rest = visits packet most k (cond (eqb next.room c.room) (misses + 1) 0) next in
        cond_both (eqb c.room 0 || leb (active_count packet (subport_at packet k c)) misses) c rest (R c)
        (λ _. holds.along.none c)
        (λ _. holds.along.joined c next rest (visit-along k c) (visits-along most k (cond (eqb next.room c.room) (misses + 1) 0) next))

    moved_on-along : (k : ℕ) (c : Course T) → R c (moved_on packet k c)
    moved_on-along k c =
        let next = (k + 1) % length c.port.subports in
        cond_both (eqb c.room 0) (record c { port = record c.port { cursor = next } }) c (R c)
        (λ _. holds.moved c k)
        (λ _. holds.along.none c)

    turn-along : (c : Course T) (k : ℕ) → R c (turn_of packet c k)
    turn-along c k =
        let most = (c.room + 1) * (pipe_count packet (subport_at packet k c) + 1) in
        let end = visits packet most k 0 c in
        cond_both (eqb c.room 0) c (moved_on packet k end) (R c)
        (λ _. holds.along.none c)
        (λ _. holds.along.joined c end (moved_on packet k end) (visits-along most k 0 c) (moved_on-along k end))

    pub dequeue-along : (now room : ℕ) (s : Port T) → R (start_of now room s) (dequeue_port packet now room s)
    unfolding dequeue_port
    dequeue-along now room s = fold-along R holds.along (turn_of packet) turn-along (start_of now room s) (in_order packet (start_of now room s).port)
