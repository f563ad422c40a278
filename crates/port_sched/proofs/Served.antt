-- What is sent on the way from one state to a later one: by the class turns of a visit, then a visit at a time.
use Rattle.std.proofs.Common.{◌≡◌, ◌≤◌, ℕ, zero, suc, ◌+◌, ◌*◌, min, Bool, true, false, cond, ltb, leb, ◌&&◌, List, [], ◌∷◌, ◌++◌, Option, Some, None, take, length, map, refl, sym, ap, ◌∙◌, subst, append_assoc, length-append, length-take, set, arith}
use Rattle.std.specs.List.{flat_map, slice_get}
use Rattle.std.specs.List.Sorted.{IsPermutation}
use Rattle.std.proofs.lemmas.Bool.{cond_both}
use Rattle.std.proofs.lemmas.List.{append-nil}
use Rattle.std.proofs.lemmas.List.Sums.{sum_by-append}
use Rattle.std.proofs.lemmas.List.Sorted.{IsPermutation-refl, IsPermutation-trans, IsPermutation-append_right}
use Rattle.qos_base.specs.declared.packet.Pkt.{Pkt}
use Rattle.qos_base.specs.declared.packet.Departure.{Departure}
use Rattle.queue_store.specs.Queues.{list_of}
use Rattle.port_sched.specs.Sends.{total_cost, sends_from, longest_front}
use Rattle.port_sched.specs.Level.{level_renewed}
use Rattle.port_sched.specs.Pipe.{Pipe}
use Rattle.port_sched.specs.Subport.{Subport}
use Rattle.port_sched.specs.Port.{Port, left_in, left_in_subport, left_of, tick, pipe_tick, subport_tick}
use Rattle.port_sched.specs.Renewal.{has_seen, subport_renewed, share_renewed}
use Rattle.port_sched.specs.Classes.{Visit, four_allow, best_effort_allows, best_effort_waits, after_pick, next_front, before, picked, draw, draws, after_draws, strict_turn, best_effort_turn, classes_turn}
use Rattle.port_sched.specs.Visit.{visit_start, cursor_after}
use Rattle.port_sched.specs.PortDequeue.{Course, cost_with, service_start, dequeue_port}
use Rattle.port_sched.proofs.Along.{Joins, HoldsOfSteps, classes-along, visited, start_of, dequeue-along}
use Rattle.port_sched.proofs.Paid.{sends_from-append}
use Rattle.port_sched.proofs.Permuted.{given, front_given}

-- port time, how many packets may still be sent, those that were, and what waits
pub record Stand (T : Type 0) : Type 0 where
  pub time : ℕ
  pub room : ℕ
  pub sends : List (Departure T)
  pub waits : List T

-- on the way from one state to another these parcels were sent
pub record AreServed {T : Type 0} (cost : T → ℕ) (from to : Stand T) (ts : List T) : Type 0 where
  pub sends : to.sends ≡ from.sends ++ sends_from cost from.time ts
  pub time : to.time ≡ from.time + total_cost cost ts
  pub room : length ts + to.room ≡ from.room
  pub each_once : IsPermutation (ts ++ to.waits) from.waits

pub record IsServed {T : Type 0} (cost : T → ℕ) (from to : Stand T) : Type 0 where
  pub more : List T
  pub are : AreServed cost from to more

-- a relation of what stands for a state goes along where it goes along
by_stand : {X Y : Type 0} (f : X → Y) (R : Y → Y → Type 0) → Joins R → Joins (λ a b. R (f a) (f b))
by_stand f R along = record { none = λ a. along.none (f a); joined = λ a b c one two. along.joined (f a) (f b) (f c) one two }

module _ {T : Type 0} (cost : T → ℕ) where
  none-served : (s : Stand T) → AreServed cost s s []
  none-served s = record { sends = sym (append-nil s.sends); time = omega arith; room = omega arith; each_once = IsPermutation-refl s.waits }

  both-served : (a b c : Stand T) (ts us : List T) → AreServed cost a b ts → AreServed cost b c us → AreServed cost a c (ts ++ us)
  both-served a b c ts us one two =
      let total = sum_by-append cost ts us in
      let count = length-append ts us in
      let time_one = one.time in
      let time_two = two.time in
      let room_one = one.room in
      let room_two = two.room in
      record {
        sends = two.sends ∙ ap (λ n. b.sends ++ sends_from cost n us) one.time
            ∙ ap (λ sends. sends ++ sends_from cost (a.time + total_cost cost ts) us) one.sends
            ∙ append_assoc a.sends (sends_from cost a.time ts) (sends_from cost (a.time + total_cost cost ts) us)
            ∙ ap (λ sends. a.sends ++ sends) (sym (sends_from-append cost a.time ts us));
        time = omega (arith, total);
        room = omega (arith, count);
        each_once = subst (λ ws. IsPermutation ws a.waits) (sym (append_assoc ts us c.waits))
            (IsPermutation-trans (ts ++ (us ++ c.waits)) (ts ++ b.waits) a.waits (IsPermutation-append_right ts (us ++ c.waits) b.waits two.each_once) one.each_once);
      }

  pub served-along : Joins (IsServed cost)
  served-along = record {
    none = λ s. record { more = []; are = none-served s };
    joined = λ a b c one two. record { more = one.more ++ two.more; are = both-served a b c one.more two.more one.are two.are };
  }

  pub longest_front-most : (credits n : ℕ) (ts : List T) → longest_front cost credits n ts ≤ n
  unfolding longest_front
  longest_front-most credits zero ts = omega arith
  longest_front-most credits (suc n) ts =
      let rest = longest_front-most credits n ts in
      cond_both (leb (total_cost cost (take (suc n) ts)) credits) (suc n) (longest_front cost credits n ts) (λ m. m ≤ suc n) (λ _. omega arith) (λ _. omega (arith, rest))

  abbrev pub stand_of : Visit T → Stand T
  stand_of v = record { time = v.time; room = v.room; sends = v.sends; waits = left_in v.pipe }

  strict-served : (v : Visit T) (class : ℕ) → IsServed cost (stand_of v) (stand_of (strict_turn cost v class))
  strict-served v class =
      let queue = list_of class v.pipe.queues in
      let n = longest_front cost (four_allow class v) (min v.room (length queue)) queue in
      let most = longest_front-most (four_allow class v) (min v.room (length queue)) queue in
      let count = length-take n queue in
      record {
        more = take n queue;
        are = record { sends = refl; time = refl; room = omega (arith, most, count); each_once = front_given n v.pipe.queues.lists class };
      }

  before-most : (first : Option T) (ts : List T) (n : ℕ) → length ts ≤ n → length (before first ts) ≤ suc n
  before-most (Some t) ts n within = omega arith
  before-most None ts n within = omega arith

  draws-most : (n : ℕ) (p : Pipe T) → length (draws cost n p) ≤ n
  unfolding draws
  draws-most zero p = omega arith
  draws-most (suc n) p = before-most (next_front p) (draws cost n (draw cost p)) n (draws-most n (draw cost p))

  -- a packet is drawn, if so many are
  before-is : (n : ℕ) (queue ts : List T) → suc n ≤ length (before (slice_get queue 0) ts)
      → (take (suc n) (before (slice_get queue 0) ts) ≡ take 1 queue ++ take n ts) × (n ≤ length ts)
  before-is n [] ts within = absurd (omega arith)
  before-is n (t ∷ queue) ts within = (refl, omega arith)

  -- what is drawn leaves the queues
  draws-given : (n m : ℕ) (p : Pipe T) → n ≤ length (draws cost m p)
      → IsPermutation (take n (draws cost m p) ++ left_in (after_draws cost n p)) (left_in p)
  unfolding draws after_draws
  draws-given zero m p within = IsPermutation-refl (left_in p)
  draws-given (suc n) zero p within = absurd (omega arith)
  draws-given (suc n) (suc m) p within =
      let queue = list_of (12 + picked p) p.queues in
      let drawn = draw cost p in
      let later = draws cost m drawn in
      let left = left_in (after_draws cost n drawn) in
      let first = before-is n queue later within in
      subst (λ ts. IsPermutation (ts ++ left) (left_in p)) (sym first.0)
      (subst (λ ts. IsPermutation ts (left_in p)) (sym (append_assoc (take 1 queue) (take n later) left))
      (IsPermutation-trans (take 1 queue ++ (take n later ++ left)) (take 1 queue ++ left_in drawn) (left_in p)
      (IsPermutation-append_right (take 1 queue) (take n later ++ left) (left_in drawn) (draws-given n m drawn first.1))
      (front_given 1 p.queues.lists (12 + picked p))))

  -- a pick leaves the queues as they are
  picked-waits : (more : Bool) (p : Pipe T) → left_in (cond more (after_pick p) p) ≡ left_in p
  picked-waits true p = refl
  picked-waits false p = refl

  best_effort-served : (v : Visit T) → IsServed cost (stand_of v) (stand_of (best_effort_turn cost v))
  best_effort-served v =
      let front = draws cost v.room v.pipe in
      let n = longest_front cost (best_effort_allows v) (length front) front in
      let drawn = after_draws cost n v.pipe in
      let most = longest_front-most (best_effort_allows v) (length front) front in
      let few = draws-most v.room v.pipe in
      let count = length-take n front in
      record {
        more = take n front;
        are = record {
          sends = refl;
          time = refl;
          room = omega (arith, most, few, count);
          each_once = subst (λ ws. IsPermutation (take n front ++ ws) (left_in v.pipe))
              (sym (picked-waits (ltb n v.room && best_effort_waits drawn) drawn)) (draws-given n v.room v.pipe most);
        };
      }

  -- the classes of a visit
  pub classes-served : (v : Visit T) → IsServed cost (stand_of v) (stand_of (classes_turn cost v))
  classes-served v = classes-along cost (λ a b. IsServed cost (stand_of a) (stand_of b)) (by_stand stand_of (IsServed cost) (served-along)) strict-served best_effort-served v

module _ {T : Type 0} where
  -- a renewal leaves the queues as they are
  share_renewed-waits : (s : Subport T) (p : Pipe T) → left_in (share_renewed s p) ≡ left_in p
  share_renewed-waits s p =
      let granted : Pipe T = record p { share = s.watermark.value * p.weight; seen = Some s.period } in
      cond_both s.oversub (cond (has_seen s.period p.seen) p granted) p (λ q. left_in q ≡ left_in p)
      (λ _. cond_both (has_seen s.period p.seen) p granted (λ q. left_in q ≡ left_in p) (λ _. refl) (λ _. refl))
      (λ _. refl)

  -- so does a step of the buckets
  same-parts : {A : Type 0} (f : A → List T) (g : A → A) (parts : List A) → ((x : A) → f (g x) ≡ f x)
      → flat_map f (map g parts) ≡ flat_map f parts
  same-parts f g [] same = refl
  same-parts f g (x ∷ parts) same = ap (λ ts. ts ++ flat_map f (map g parts)) (same x) ∙ ap (λ ts. f x ++ ts) (same-parts f g parts same)

  tick-waits : (moment : ℕ) (s : Port T) → left_of (tick moment s) ≡ left_of s
  tick-waits moment s =
      same-parts left_in_subport (subport_tick s.ticked moment) s.subports (λ sub. same-parts left_in (pipe_tick s.ticked moment) sub.pipes (λ p. refl))

module _ {T : Type 0} (packet : T → Pkt) where
  abbrev stand_at : Course T → Stand T
  stand_at c = record { time = c.port.time; room = c.room; sends = c.sends; waits = left_of c.port }

  -- on the way from one state of a port to another, whose overhead stays
  pub record IsCourse (from to : Course T) : Type 0 where
    pub overhead : to.port.overhead ≡ from.port.overhead
    pub served : IsServed (cost_with packet from.port.overhead) (stand_at from) (stand_at to)

  course-along : Joins IsCourse
  course-along = record {
    none = λ c. record { overhead = refl; served = (served-along (cost_with packet c.port.overhead)).none (stand_at c) };
    joined = λ a b c one two. record {
      overhead = two.overhead ∙ one.overhead;
      served = (served-along (cost_with packet a.port.overhead)).joined (stand_at a) (stand_at b) (stand_at c) one.served
          (subst (λ n. IsServed (cost_with packet n) (stand_at b) (stand_at c)) one.overhead two.served);
    };
  }

  -- one visit: what its classes send leaves its pipe, the pipe its subport, and the subport the port
  visited-served : (k q : ℕ) (c : Course T) (s : Subport T) (p : Pipe T) → slice_get c.port.subports k ≡ Some s
      → slice_get s.pipes q ≡ Some p
      → IsServed (cost_with packet c.port.overhead) (stand_at c) (stand_at (visited packet k q c s p))
  visited-served k q c s p subport pipe =
      let cost = cost_with packet c.port.overhead in
      let start = visit_start (service_start packet c s) p in
      let end = classes_turn cost start in
      let turn = classes-served cost start in
      let renewed = share_renewed-waits (subport_renewed c.port.time s) (record p { level = level_renewed c.port.time p.level }) in
      let after : Subport T = record (subport_renewed c.port.time s) {
        level = end.subport;
        cursor = cursor_after q (length s.pipes) end.room;
        pipes = set s.pipes q end.pipe;
      } in
      let are = turn.are in
      record {
        more = turn.more;
        are = record {
          sends = are.sends;
          time = are.time;
          room = are.room;
          each_once = given left_in_subport c.port.subports k s after turn.more subport
              (given left_in s.pipes q p end.pipe turn.more pipe (subst (IsPermutation (turn.more ++ left_in end.pipe)) renewed are.each_once));
        };
      }

  pub course-holds : HoldsOfSteps packet IsCourse
  course-holds = record {
    along = course-along;
    ticked = λ c. record {
      overhead = refl;
      served = subst (λ ws. IsServed (cost_with packet c.port.overhead) (stand_at c) (record { time = c.port.time; room = c.room; sends = c.sends; waits = ws })) (sym (tick-waits c.port.time c.port)) ((served-along (cost_with packet c.port.overhead)).none (stand_at c));
    };
    moved = λ c k. record { overhead = refl; served = (served-along (cost_with packet c.port.overhead)).none (stand_at c) };
    served = λ k q c s p subport next pipe. record { overhead = refl; served = visited-served k q c s p subport pipe };
  }

  pub served : (now room : ℕ) (s : Port T) → IsCourse (start_of packet now room s) (dequeue_port packet now room s)
  served now room s = dequeue-along packet IsCourse course-holds now room s
