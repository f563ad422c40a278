-- A turn of a subport, a visit at a time, and what the stages of a dequeue keep.
use Rattle.std.proofs.Common.{◌≡◌, ◌≢◌, ◌<◌, ◌≤◌, ◌⊎◌, ℕ, zero, suc, ◌+◌, ◌-◌, ◌*◌, ◌%◌, ◌||◌, max, List, [], ◌∷◌, ◌++◌, length, take, drop, eqb, leb, cond, refl, sym, ap, ◌∙◌, inl, inr, arith}
use Rattle.std.specs.Prelude.{Option, Some, None, fold}
use Rattle.std.proofs.lemmas.List.{take_all, take-append-drop, length-drop, drop_more}
use Rattle.std.proofs.lemmas.List.FromFn.{length-map-range_with_len, get_or-map-range_with_len}
use Rattle.std.proofs.Math.Nat.{mul-le-mul_right}
use Rattle.std.proofs.lemmas.Bool.{cases_lt}
use Rattle.std.proofs.lemmas.Bool.Decides.{nat_tests}
use Rattle.std.proofs.lemmas.List.Sums.{count_by-le-length, fold_more}
use Rattle.qos_base.specs.declared.packet.Pkt.{Pkt}
use Rattle.qos_base.specs.declared.packet.Departure.{Departure}
use Rattle.port_sched.specs.Pipe.{has_packet}
use Rattle.port_sched.specs.Subport.{Subport}
use Rattle.port_sched.specs.Port.{Port}
use Rattle.port_sched.specs.PortDequeue.{Course, subport_at, visit, visits, active_count, pipe_count, moved_on, turn_of, in_order, dequeue_port}
use Rattle.port_sched.specs.Visits.{visit_steps, visit_count, turn_visits, turns_visits, dequeue_visits}
use Rattle.port_sched.specs.Stage.{Stage, GoesTo}

module _ {T : Type 0} (first : ℕ) where
  pub GoesTo-itself : (s : Stage T) → GoesTo first s s
  GoesTo-itself s = record { room = omega arith; no_later = omega arith; sent = refl; held = refl; capacity = refl; subports = refl }

  pub GoesTo-then : (a b c : Stage T) → GoesTo first a b → GoesTo first b c → GoesTo first a c
  GoesTo-then a b c one two =
      let room_one = one.room in
      let room_two = two.room in
      let later_one = one.no_later in
      let later_two = two.no_later in
      record {
        room = omega arith;
        no_later = omega arith;
        sent = two.sent ∙ one.sent;
        held = two.held ∙ one.held;
        capacity = two.capacity ∙ one.capacity;
        subports = two.subports ∙ one.subports;
      }

-- what the tests of a turn choose
goes_on : {X : Type 0} (room misses active : ℕ) (x y : X) → 0 < room → misses < active → cond (eqb room 0 || leb active misses) x y ≡ y
goes_on room misses active x y some few = grind (arith, nat_tests)

is_over : {X : Type 0} (room misses active : ℕ) (x y : X) → (room ≡ 0) ⊎ (active ≤ misses)
    → cond (eqb room 0 || leb active misses) x y ≡ x
is_over room misses active x y over = grind (arith, nat_tests)

zero_room : {X : Type 0} (room : ℕ) (x y : X) → room ≡ 0 → cond (eqb room 0) x y ≡ x
zero_room room x y none = grind (arith, nat_tests)

some_room : {X : Type 0} (room : ℕ) (x y : X) → room ≢ 0 → cond (eqb room 0) x y ≡ y
some_room room x y some = grind (arith, nat_tests)

-- how many visits may still follow
abbrev pub left_over : ℕ → ℕ → ℕ → ℕ
left_over pipes room misses = room * (pipes + 1) + (pipes - misses)

-- how a visit counts
pub counts_miss : (left room misses : ℕ) → left ≡ room → misses + 1 ≡ cond (eqb left room) (misses + 1) 0
counts_miss left room misses same = grind (arith, nat_tests)

pub counts_send : (left room misses : ℕ) → left ≢ room → 0 ≡ cond (eqb left room) (misses + 1) 0
counts_send left room misses other = grind (arith, nat_tests)

-- a visit that sent nothing is one more miss, and one that sent something leaves less room
pub left_over-falls : (pipes active room left misses later : ℕ) → 0 < room → misses < active → active ≤ pipes → left ≤ room
    → later ≡ cond (eqb left room) (misses + 1) 0 → left_over pipes left later < left_over pipes room misses
left_over-falls pipes active room left misses later some few most within is = elim (cases_lt left room) [
  | inl sent ↦
      let none : later ≡ 0 = is ∙ unequal sent in
      let less : (left + 1) * (pipes + 1) ≤ room * (pipes + 1) = mul-le-mul_right (pipes + 1) (omega arith) in
      omega arith
  | inr idle ↦
      let same : left ≡ room = omega arith in
      let one_more : later ≡ misses + 1 = is ∙ equal same in
      let room_same : left * (pipes + 1) ≡ room * (pipes + 1) = ap (λ n. n * (pipes + 1)) same in
      omega arith
]
  where
    unequal : left < room → cond (eqb left room) (misses + 1) 0 ≡ 0
    unequal below = grind (arith, nat_tests)

    equal : left ≡ room → cond (eqb left room) (misses + 1) 0 ≡ misses + 1
    equal same = grind (arith, nat_tests)

module _ {T : Type 0} (packet : T → Pkt) where
  -- no more pipes have a packet than there are
  pub active-within : (o : Option (Subport T)) → active_count packet o ≤ pipe_count packet o
  active-within None = omega arith
  active-within (Some s) = count_by-le-length has_packet s.pipes

  module _ (k : ℕ) where
    pub visits-more : (most misses : ℕ) (c : Course T) → 0 < c.room → misses < active_count packet (subport_at packet k c)
        → visits packet (suc most) k misses c ≡ visits packet most k (cond (eqb (visit packet k c).room c.room) (misses + 1) 0)
        (visit packet k c)
    unfolding visits
    visits-more most misses c some few = goes_on c.room misses (active_count packet (subport_at packet k c)) _ _ some few

    pub visits-over : (most misses : ℕ) (c : Course T) → (c.room ≡ 0) ⊎ (active_count packet (subport_at packet k c) ≤ misses)
        → visits packet most k misses c ≡ c
    unfolding visits
    visits-over zero misses c over = refl
    visits-over (suc most) misses c over = is_over c.room misses (active_count packet (subport_at packet k c)) _ _ over

    -- one visit more is counted
    count-more : (most misses : ℕ) (c : Course T) → 0 < c.room → misses < active_count packet (subport_at packet k c)
        → visit_count packet (suc most) k misses c ≡ 1 + visit_count packet most k (cond (eqb (visit packet k c).room c.room) (misses + 1) 0)
        (visit packet k c)
    unfolding visit_count
    count-more most misses c some few = goes_on c.room misses (active_count packet (subport_at packet k c)) _ _ some few

    module _ (pipes : ℕ) (start : Course T) (from : ℕ) where
      -- what is left of the visits goes on from here, with visits enough, and steps enough for those that were made
      pub record HaveVisited (misses : ℕ) (now : Course T) (steps : ℕ) : Type 0 where
        pub most : ℕ
        pub enough : left_over pipes now.room misses ≤ most
        pub rest : visits packet ((start.room + 1) * (pipes + 1)) k 0 start ≡ visits packet most k misses now
        pub counted : steps + visit_steps * visit_count packet most k misses now
            ≤ from + visit_steps * visit_count packet ((start.room + 1) * (pipes + 1)) k 0 start

      pub HaveVisited-start : HaveVisited 0 start from
      HaveVisited-start = record { most = (start.room + 1) * (pipes + 1); enough = omega arith; rest = refl; counted = omega arith }

      by_most : (most misses later steps more : ℕ) (now next : Course T) → left_over pipes now.room misses ≤ most
          → visits packet ((start.room + 1) * (pipes + 1)) k 0 start ≡ visits packet most k misses now
          → steps + visit_steps * visit_count packet most k misses now
          ≤ from + visit_steps * visit_count packet ((start.room + 1) * (pipes + 1)) k 0 start
          → more ≤ steps + visit_steps → 0 < now.room
          → misses < active_count packet (subport_at packet k now) → next ≡ visit packet k now
          → later ≡ cond (eqb next.room now.room) (misses + 1) 0 → left_over pipes next.room later < left_over pipes now.room misses
          → HaveVisited later next more
      by_most zero misses later steps more now next enough rest counted taken some few is counts falls = absurd (omega arith)
      by_most (suc most) misses later steps more now next enough rest counted taken some few is counts falls =
          let here : visit_count packet (suc most) k misses now ≡ 1 + visit_count packet most k later next =
          count-more most misses now some few
          ∙ ap (λ (c : Course T). 1 + visit_count packet most k (cond (eqb c.room now.room) (misses + 1) 0) c) (sym is)
          ∙ ap (λ n. 1 + visit_count packet most k n next) (sym counts) in
          record {
            most = most;
            enough = omega arith;
            rest = rest ∙ visits-more most misses now some few
                ∙ ap (λ (c : Course T). visits packet most k (cond (eqb c.room now.room) (misses + 1) 0) c) (sym is)
                ∙ ap (λ n. visits packet most k n next) (sym counts);
            counted = omega (arith, here, counted, taken);
          }

      pub HaveVisited-more : (misses later steps more : ℕ) (now next : Course T) → HaveVisited misses now steps → more ≤ steps + visit_steps
          → 0 < now.room → misses < active_count packet (subport_at packet k now) → active_count packet (subport_at packet k now) ≤ pipes
          → next.room ≤ now.room → next ≡ visit packet k now → later ≡ cond (eqb next.room now.room) (misses + 1) 0
          → HaveVisited later next more
      HaveVisited-more misses later steps more now next so_far taken some few most within is counts =
          by_most so_far.most misses later steps more now next so_far.enough so_far.rest so_far.counted taken some few is counts
          (left_over-falls pipes (active_count packet (subport_at packet k now)) now.room next.room misses later some few most within
          counts)

      pub HaveVisited-over : (misses : ℕ) (now : Course T) (steps : ℕ) → HaveVisited misses now steps
          → (now.room ≡ 0) ⊎ (active_count packet (subport_at packet k now) ≤ misses)
          → now ≡ visits packet ((start.room + 1) * (pipes + 1)) k 0 start
      HaveVisited-over misses now steps so_far over = sym (so_far.rest ∙ visits-over so_far.most misses now over)

      pub HaveVisited-steps : (misses : ℕ) (now : Course T) (steps : ℕ) → HaveVisited misses now steps
          → steps ≤ from + visit_steps * visit_count packet ((start.room + 1) * (pipes + 1)) k 0 start
      HaveVisited-steps misses now steps so_far = omega (arith, so_far.counted)

module _ {T : Type 0} (packet : T → Pkt) (k : ℕ) (c : Course T) where
  -- there is no turn where no room is left
  pub turn-none : c.room ≡ 0 → c ≡ turn_of packet c k
  turn-none none = sym (zero_room c.room _ _ none)

  -- where the visits used up the room, the cursor moves on
  pub turn-moved : (later : Course T) → c.room ≢ 0
      → later ≡ visits packet ((c.room + 1) * (pipe_count packet (subport_at packet k c) + 1)) k 0 c → later.room ≡ 0
      → record later { port = record later.port { cursor = (k + 1) % length later.port.subports } } ≡ turn_of packet c k
  turn-moved later some is none = sym (zero_room later.room _ _ none) ∙ ap (moved_on packet k) is ∙ sym (some_room c.room _ _ some)

  pub turn-kept : (later : Course T) → c.room ≢ 0
      → later ≡ visits packet ((c.room + 1) * (pipe_count packet (subport_at packet k c) + 1)) k 0 c → later.room ≢ 0
      → later ≡ turn_of packet c k
  turn-kept later some is left = sym (some_room later.room _ _ left) ∙ ap (moved_on packet k) is ∙ sym (some_room c.room _ _ some)

module _ {T : Type 0} (packet : T → Pkt) (start : Course T) (from : ℕ) where
  -- the first so many subports of a dequeue have had their turn, with steps enough for their visits
  pub record HaveTurned (turns : ℕ) (now : Course T) (steps : ℕ) : Type 0 where
    pub so_far : now ≡ fold (turn_of packet) start (take turns (in_order packet start.port))
    pub counted : steps + visit_steps * turns_visits packet (drop turns (in_order packet start.port)) now
        ≤ from + visit_steps * turns_visits packet (in_order packet start.port) start

  length-in_order : length (in_order packet start.port) ≡ length start.port.subports
  length-in_order = length-map-range_with_len (λ ahead. (start.port.cursor + ahead) % length start.port.subports) 0
      (length start.port.subports)

  pub HaveTurned-more : (turns k steps more : ℕ) (now next : Course T) → HaveTurned turns now steps
      → more ≤ steps + visit_steps * turn_visits packet k now → turns < length start.port.subports
      → k ≡ (start.port.cursor + turns) % length start.port.subports → next ≡ turn_of packet now k → HaveTurned (turns + 1) next more
  HaveTurned-more turns k steps more now next so_far taken within at is =
      let place =
      get_or-map-range_with_len (λ ahead. (start.port.cursor + ahead) % length start.port.subports) 0 (length start.port.subports)
      turns turns 0 within (omega arith) in
      record {
        so_far = is ∙ ap (λ c. turn_of packet c k) so_far.so_far
            ∙ ap (turn_of packet (fold (turn_of packet) start (take turns (in_order packet start.port)))) (at ∙ sym place)
            ∙ sym (fold_more (turn_of packet) start (in_order packet start.port) turns 0 (omega (arith, length-in_order)));
        counted =
            let left : drop turns (in_order packet start.port) ≡ k ∷ drop (turns + 1) (in_order packet start.port) =
            drop_more (in_order packet start.port) turns 0 (omega (arith, length-in_order))
            ∙ ap (λ n. n ∷ drop (turns + 1) (in_order packet start.port)) (place ∙ sym at) in
            let here : turns_visits packet (drop turns (in_order packet start.port)) now
            ≡ turn_visits packet k now + turns_visits packet (drop (turns + 1) (in_order packet start.port)) next =
            ap (λ ks. turns_visits packet ks now) left
            ∙ ap (λ c. turn_visits packet k now + turns_visits packet (drop (turns + 1) (in_order packet start.port)) c) (sym is) in
            omega (arith, here, so_far.counted, taken);
      }

  pub HaveTurned-all : (turns : ℕ) (now : Course T) (steps : ℕ) → HaveTurned turns now steps → length start.port.subports ≤ turns
      → now ≡ fold (turn_of packet) start (in_order packet start.port)
  HaveTurned-all turns now steps so_far all = so_far.so_far
      ∙ ap (fold (turn_of packet) start) (take_all turns (in_order packet start.port) (omega (arith, length-in_order)))

  pub HaveTurned-steps : (turns : ℕ) (now : Course T) (steps : ℕ) → HaveTurned turns now steps
      → steps ≤ from + visit_steps * turns_visits packet (in_order packet start.port) start
  HaveTurned-steps turns now steps so_far = omega (arith, so_far.counted)

-- the dequeue, from where it starts
pub dequeue_port-is : {T : Type 0} (packet : T → Pkt) (now room : ℕ) (port moved : Port T) (sends : List (Departure T))
    → moved ≡ record port { time = max port.time now } → sends ≡ []
    → dequeue_port packet now room port ≡ fold (turn_of packet) (record { port = moved; room = room; sends = sends })
    (in_order packet moved)
unfolding dequeue_port
dequeue_port-is {T} packet now room port moved sends is none =
    let from : Port T → List (Departure T) → Course T = λ p ds. record { port = p; room = room; sends = ds } in
    ap (λ p. fold (turn_of packet) (from p []) (in_order packet p)) (sym is)
    ∙ ap (λ ds. fold (turn_of packet) (from moved ds) (in_order packet moved)) (sym none)

pub dequeue_visits-is : {T : Type 0} (packet : T → Pkt) (now room : ℕ) (port moved : Port T) (sends : List (Departure T))
    → moved ≡ record port { time = max port.time now } → sends ≡ []
    → dequeue_visits packet now room port ≡ turns_visits packet (in_order packet moved) (record { port = moved; room = room; sends = sends })
unfolding dequeue_visits
dequeue_visits-is {T} packet now room port moved sends is none =
    let from : Port T → List (Departure T) → Course T = λ p ds. record { port = p; room = room; sends = ds } in
    ap (λ p. turns_visits packet (in_order packet p) (from p [])) (sym is)
    ∙ ap (λ ds. turns_visits packet (in_order packet moved) (from moved ds)) (sym none)

-- what `out` holds at the end, and how many packets that is
pub sends-after : {T : Type 0} (held out sends : List (Departure T)) (first : ℕ) → first ≡ length held → take first out ≡ take first held
    → drop first out ≡ sends → out ≡ held ++ sends
sends-after held out sends first all same is =
    sym (take-append-drop first out) ∙ ap (λ ds. ds ++ drop first out) (same ∙ take_all first held (omega arith))
    ∙ ap (λ ds. held ++ ds) is

pub count-after : {T : Type 0} (held out sends : List (Departure T)) (first room left : ℕ) → first ≡ length held
    → length out + left ≡ length held + room → left ≤ room → drop first out ≡ sends → room - left ≡ length sends
count-after held out sends first room left all sent within is = omega (arith, length-drop first out, ap length is)
