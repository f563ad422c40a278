-- What a dequeue sends leaves the front of its queue: by the class turns of a visit, then a visit at a time.
use Rattle.std.proofs.Common.{◌≡◌, ◌<◌, ◌≤◌, ℕ, zero, suc, ◌+◌, ◌*◌, ◌%◌, min, Bool, true, false, cond, ltb, ◌&&◌, List, [], ◌∷◌, ◌++◌, Option, Some, None, take, drop, length, map, set, replicate, refl, sym, ap, ◌∙◌, subst, inl, inr, append_assoc, arith}
use Rattle.std.specs.List.{fold, slice_get}
use Rattle.std.specs.Option.{option_map, option_and_then}
use Rattle.std.proofs.lemmas.Bool.{cases_lt, cond_both}
use Rattle.std.proofs.lemmas.List.{append-nil, map-append, map-set, set-get_or, get_or_past, get_or-set_same}
use Rattle.std.proofs.lemmas.List.Sums.{fold-append}
use Rattle.std.proofs.lemmas.Option.{slice_get-map}
use Rattle.qos_base.specs.declared.packet.Pkt.{Pkt}
use Rattle.qos_base.specs.declared.packet.Departure.{Departure}
use Rattle.active_bitmap.specs.NextActive.{next_active}
use Rattle.queue_store.specs.Queues.{Queues, list_of, with_list, without_front}
use Rattle.port_sched.specs.Sends.{sends_from, longest_front}
use Rattle.port_sched.specs.Level.{level_renewed}
use Rattle.port_sched.specs.Pipe.{Pipe}
use Rattle.port_sched.specs.Subport.{Subport, active}
use Rattle.port_sched.specs.Port.{Port, at, pipe_tick, subport_tick}
use Rattle.port_sched.specs.Renewal.{has_seen, subport_renewed, share_renewed}
use Rattle.port_sched.specs.Classes.{Visit, four_allow, best_effort_allows, best_effort_waits, after_pick, next_front, before, picked, draw, draws, after_draws, strict_turn, best_effort_turn, classes_turn}
use Rattle.port_sched.specs.Visit.{visit_start, visit_end}
use Rattle.port_sched.specs.PortDequeue.{Course, cost_with, service_start, dequeue_port}
use Rattle.port_sched.specs.Parcels.{parcels}
use Rattle.port_sched.specs.Leaving.{fronts_of, Leaves, all_queues, front_in, front_left, FrontsAreSent}
use Rattle.port_sched.proofs.Along.{Joins, HoldsOfSteps, classes-along, visited, stepped, dequeue-along}
use Rattle.port_sched.proofs.Served.{longest_front-most}
use Rattle.port_sched.proofs.Counted.{parcels-sends_from}

-- ---- one leaving after another

module _ {S X T : Type 0} (front : S → X → Option T) (without : S → X → X) where
  abbrev left : List S → X → X
  left places x = fold (λ x s. without s x) x places

  fronts_of-append :
      (one two : List S) (x : X) →
      fronts_of front without (one ++ two) x ≡ fronts_of front without one x ++ fronts_of front without two (left one x)
  fronts_of-append [] two x = refl
  fronts_of-append (s ∷ one) two x = ap (λ fs. front s x ∷ fs) (fronts_of-append one two (without s x))

  none-leaves : (x : X) → Leaves front without x [] x
  none-leaves x = record { places = []; fronts = refl; rest = refl }

  both-leave :
      (a b c : X) (ts us : List T) → Leaves front without a ts b → Leaves front without b us c →
      Leaves front without a (ts ++ us) c
  both-leave a b c ts us one two = record {
    places = one.places ++ two.places;
    fronts = fronts_of-append one.places two.places a
        ∙ ap (λ fs. fs ++ fronts_of front without two.places (left one.places a)) one.fronts
        ∙ ap (λ x. map (λ t. Some t) ts ++ fronts_of front without two.places x) one.rest
        ∙ ap (λ fs. map (λ t. Some t) ts ++ fs) two.fronts ∙ sym (map-append (λ t. Some t) ts us);
    rest = fold-append (λ x s. without s x) a one.places two.places ∙ ap (left two.places) one.rest ∙ two.rest;
  }

-- What was sent on the way from one state to another left from the fronts of its places.
record HasLeft {S X T Y : Type 0} (front : S → X → Option T) (without : S → X → X) (sent : Y → List T) (place : Y → X) (from to : Y) : Type 0 where
  more : List T
  sends : sent to ≡ sent from ++ more
  leave : Leaves front without (place from) more (place to)

module _ {S X T Y : Type 0} (front : S → X → Option T) (without : S → X → X) (sent : Y → List T) (place : Y → X) where
  nothing-left : (a b : Y) → sent b ≡ sent a → place b ≡ place a → HasLeft front without sent place a b
  nothing-left a b sends places = record {
    more = [];
    sends = sends ∙ sym (append-nil (sent a));
    leave = subst (Leaves front without (place a) []) (sym places) (none-leaves front without (place a));
  }

  left-along : Joins (HasLeft front without sent place)
  left-along = record {
    none = λ a. nothing-left a a refl refl;
    joined = λ a b c one two. record {
      more = one.more ++ two.more;
      sends = two.sends ∙ ap (λ ts. ts ++ two.more) one.sends ∙ append_assoc (sent a) one.more two.more;
      leave = both-leave front without (place a) (place b) (place c) one.more two.more one.leave two.leave;
    };
  }

-- ---- items of a list

module _ {X : Type 0} where
  at-set : (xs : List X) (k : ℕ) (x : X) (step : X → X) → slice_get xs k ≡ Some x → at k step xs ≡ set xs k (step x)
  at-set [] k x step there = refl
  at-set (y ∷ xs) zero x step there = let same : y ≡ x = cc in ap (λ z. step z ∷ xs) same
  at-set (y ∷ xs) (suc k) x step there = ap (λ zs. y ∷ zs) (at-set xs k x step there)

  get-set : (xs : List X) (k : ℕ) (x y : X) → slice_get xs k ≡ Some x → slice_get (set xs k y) k ≡ Some y
  get-set [] k x y there = absurd (cc)
  get-set (z ∷ xs) zero x y there = refl
  get-set (z ∷ xs) (suc k) x y there = get-set xs k x y there

  set-same : (xs : List X) (k : ℕ) (x : X) → slice_get xs k ≡ Some x → set xs k x ≡ xs
  set-same [] k x there = refl
  set-same (y ∷ xs) zero x there = let same : x ≡ y = cc in ap (λ z. z ∷ xs) same
  set-same (y ∷ xs) (suc k) x there = ap (λ zs. y ∷ zs) (set-same xs k x there)

  set-twice : (xs : List X) (k : ℕ) (x y : X) → set (set xs k x) k y ≡ set xs k y
  set-twice [] k x y = refl
  set-twice (z ∷ xs) zero x y = refl
  set-twice (z ∷ xs) (suc k) x y = ap (λ zs. z ∷ zs) (set-twice xs k x y)

-- what leaves an item of a list leaves the list
module _
    {S R X T : Type 0} (front : S → X → Option T) (without : S → X → X) (k : ℕ) (named : S → R)
    (front_of : R → List X → Option T) (without_of : R → List X → List X)
    (is_front : (s : S) (xs : List X) → front_of (named s) xs ≡ option_and_then (front s) (slice_get xs k))
    (is_without : (s : S) (xs : List X) → without_of (named s) xs ≡ at k (without s) xs) where
  lifted-fronts :
      (places : List S) (x : X) (xs : List X) → slice_get xs k ≡ Some x →
      fronts_of front_of without_of (map named places) xs ≡ fronts_of front without places x
  lifted-fronts [] x xs there = refl
  lifted-fronts (s ∷ places) x xs there =
      let first : front_of (named s) xs ≡ front s x = is_front s xs ∙ ap (option_and_then (front s)) there in
      let later : without_of (named s) xs ≡ set xs k (without s x) = is_without s xs ∙ at-set xs k x (without s) there in
      ap (λ f. f ∷ fronts_of front_of without_of (map named places) (without_of (named s) xs)) first
      ∙ ap (λ ys. front s x ∷ fronts_of front_of without_of (map named places) ys) later
      ∙ ap (λ fs. front s x ∷ fs) (lifted-fronts places (without s x) (set xs k (without s x)) (get-set xs k x (without s x) there))

  lifted-left :
      (places : List S) (x : X) (xs : List X) → slice_get xs k ≡ Some x →
      left front_of without_of (map named places) xs ≡ set xs k (left front without places x)
  lifted-left [] x xs there = sym (set-same xs k x there)
  lifted-left (s ∷ places) x xs there =
      let later : without_of (named s) xs ≡ set xs k (without s x) = is_without s xs ∙ at-set xs k x (without s) there in
      ap (left front_of without_of (map named places)) later
      ∙ lifted-left places (without s x) (set xs k (without s x)) (get-set xs k x (without s x) there)
      ∙ set-twice xs k (without s x) (left front without places (without s x))

  lifted :
      (x y : X) (ts : List T) (xs : List X) → slice_get xs k ≡ Some x → Leaves front without x ts y →
      Leaves front_of without_of xs ts (set xs k y)
  lifted x y ts xs there leave = record {
    places = map named leave.places;
    fronts = lifted-fronts leave.places x xs there ∙ leave.fronts;
    rest = lifted-left leave.places x xs there ∙ ap (set xs k) leave.rest;
  }

-- ---- the queues of a pipe

module _ {T : Type 0} where
  abbrev queue_front : ℕ → Queues T → Option T
  queue_front n q = slice_get (list_of n q) 0

  first-more :
      (ts : List T) (n : ℕ) → suc n ≤ length ts →
      (slice_get ts 0 ∷ map (λ t. Some t) (take n (drop 1 ts)) ≡ map (λ t. Some t) (take (suc n) ts)) × (n ≤ length (drop 1 ts)) × (drop n (drop 1 ts) ≡ drop (suc n) ts)
  first-more [] n within = absurd (omega arith)
  first-more (t ∷ ts) n within = (refl, omega arith, refl)

  -- a queue with a packet is there
  is-there : (n : ℕ) (q : Queues T) → 0 < length (list_of n q) → n < length q.lists
  is-there n q some = elim (cases_lt n (length q.lists)) [
    | inl within ↦ within
    | inr past ↦ absurd (omega (arith, some, ap length (get_or_past q.lists n [] past)))
  ]

  list-after : (n : ℕ) (q : Queues T) → 0 < length (list_of n q) → list_of n (without_front n q) ≡ drop 1 (list_of n q)
  list-after n q some = get_or-set_same q.lists n (drop 1 (list_of n q)) [] (is-there n q some)

  queue-fronts :
      (queue n : ℕ) (q : Queues T) → n ≤ length (list_of queue q) →
      fronts_of queue_front without_front (replicate n queue) q ≡ map (λ t. Some t) (take n (list_of queue q))
  queue-fronts queue zero q within = refl
  queue-fronts queue (suc n) q within =
      let waits = list_of queue q in
      let parts = first-more waits n within in
      let after = list-after queue q (omega arith) in
      let rest = queue-fronts queue n (without_front queue q) (omega (arith, parts.1, ap length after)) in
      ap (λ fs. slice_get waits 0 ∷ fs) (rest ∙ ap (λ ts. map (λ t. Some t) (take n ts)) after) ∙ parts.0

  queue-left :
      (queue n : ℕ) (q : Queues T) → n ≤ length (list_of queue q) →
      left queue_front without_front (replicate n queue) q ≡ with_list queue (drop n (list_of queue q)) q
  queue-left queue zero q within = ap (λ lists. record q { lists = lists }) (sym (set-get_or q.lists queue []))
  queue-left queue (suc n) q within =
      let waits = list_of queue q in
      let parts = first-more waits n within in
      let after = list-after queue q (omega arith) in
      queue-left queue n (without_front queue q) (omega (arith, parts.1, ap length after))
      ∙ ap (λ ts. with_list queue (drop n ts) (without_front queue q)) after
      ∙ ap (λ lists. record q { lists = lists }) (set-twice q.lists queue (drop 1 waits) (drop n (drop 1 waits)))
      ∙ ap (λ ts. with_list queue ts q) parts.2

  queue-leaves :
      (queue n : ℕ) (q : Queues T) → n ≤ length (list_of queue q) →
      Leaves queue_front without_front q (take n (list_of queue q)) (with_list queue (drop n (list_of queue q)) q)
  queue-leaves queue n q within = record { places = replicate n queue; fronts = queue-fronts queue n q within; rest = queue-left queue n q within }

  before-more :
      (first : Option T) (ts : List T) (n : ℕ) → suc n ≤ length (before first ts) →
      (first ∷ map (λ t. Some t) (take n ts) ≡ map (λ t. Some t) (take (suc n) (before first ts))) × (n ≤ length ts)
  before-more (Some t) ts n within = (refl, omega arith)
  before-more None ts n within = absurd (omega arith)

module _ {T : Type 0} (cost : T → ℕ) where
  draw_places : ℕ → Pipe T → List ℕ
  draw_places zero p = []
  draw_places (suc n) p = (12 + picked p) ∷ draw_places n (draw cost p)

  draw-fronts :
      (n m : ℕ) (p : Pipe T) → n ≤ length (draws cost m p) →
      fronts_of queue_front without_front (draw_places n p) p.queues ≡ map (λ t. Some t) (take n (draws cost m p))
  unfolding draws draw_places
  draw-fronts zero m p within = refl
  draw-fronts (suc n) zero p within = absurd (omega arith)
  draw-fronts (suc n) (suc m) p within =
      let parts = before-more (next_front p) (draws cost m (draw cost p)) n within in
      ap (λ fs. next_front p ∷ fs) (draw-fronts n m (draw cost p) parts.1) ∙ parts.0

  draw-left : (n : ℕ) (p : Pipe T) → left queue_front without_front (draw_places n p) p.queues ≡ (after_draws cost n p).queues
  unfolding after_draws draw_places
  draw-left zero p = refl
  draw-left (suc n) p = draw-left n (draw cost p)

  picked-queues : (more : Bool) (p : Pipe T) → (cond more (after_pick p) p).queues ≡ p.queues
  picked-queues true p = refl
  picked-queues false p = refl

  -- what a class turn sends leaves the fronts of the pipe's queues
  abbrev sent_by : Visit T → List T
  sent_by v = parcels v.sends

  abbrev queues_by : Visit T → Queues T
  queues_by v = v.pipe.queues

  abbrev TurnLeaves : Visit T → Visit T → Type 0
  TurnLeaves = HasLeft queue_front without_front sent_by queues_by

  sent-more : (sends : List (Departure T)) (time : ℕ) (ts : List T) → parcels (sends ++ sends_from cost time ts) ≡ parcels sends ++ ts
  sent-more sends time ts =
      map-append (λ (d : Departure T). d.parcel) sends (sends_from cost time ts) ∙ ap (λ us. parcels sends ++ us) (parcels-sends_from cost time ts)

  strict-leaves : (v : Visit T) (class : ℕ) → TurnLeaves v (strict_turn cost v class)
  strict-leaves v class =
      let queue = list_of class v.pipe.queues in
      let n = longest_front cost (four_allow class v) (min v.room (length queue)) queue in
      let most = longest_front-most cost (four_allow class v) (min v.room (length queue)) queue in
      record {
        more = take n queue;
        sends = sent-more v.sends v.time (take n queue);
        leave = queue-leaves class n v.pipe.queues (omega (arith, most));
      }

  best_effort-leaves : (v : Visit T) → TurnLeaves v (best_effort_turn cost v)
  best_effort-leaves v =
      let front = draws cost v.room v.pipe in
      let n = longest_front cost (best_effort_allows v) (length front) front in
      let drawn = after_draws cost n v.pipe in
      let most = longest_front-most cost (best_effort_allows v) (length front) front in
      record {
        more = take n front;
        sends = sent-more v.sends v.time (take n front);
        leave = record {
          places = draw_places n v.pipe;
          fronts = draw-fronts n v.room v.pipe most;
          rest = draw-left n v.pipe ∙ sym (picked-queues (ltb n v.room && best_effort_waits drawn) drawn);
        };
      }

  turn-leaves : (v : Visit T) → TurnLeaves v (classes_turn cost v)
  turn-leaves = classes-along cost TurnLeaves (left-along queue_front without_front sent_by queues_by) strict-leaves best_effort-leaves

-- ---- the queues of a port

module _ {T : Type 0} where
  abbrev pipe_front : ℕ × ℕ → List (Queues T) → Option T
  pipe_front place queues = option_and_then (queue_front place.1) (slice_get queues place.0)

  abbrev pipe_without : ℕ × ℕ → List (Queues T) → List (Queues T)
  pipe_without place queues = at place.0 (without_front place.1) queues

  abbrev queues_of : Subport T → List (Queues T)
  queues_of s = map (λ p. p.queues) s.pipes

  pipes-ticked : (from to : ℕ) (pipes : List (Pipe T)) → map (λ p. p.queues) (map (pipe_tick from to) pipes) ≡ map (λ p. p.queues) pipes
  pipes-ticked from to [] = refl
  pipes-ticked from to (p ∷ pipes) = ap (λ qs. p.queues ∷ qs) (pipes-ticked from to pipes)

  subports-ticked :
      (from to : ℕ) (subports : List (Subport T)) → map queues_of (map (subport_tick from to) subports) ≡ map queues_of subports
  subports-ticked from to [] = refl
  subports-ticked from to (s ∷ subports) =
      ap (λ qs. qs ∷ map queues_of (map (subport_tick from to) subports)) (pipes-ticked from to s.pipes) ∙ ap (λ qss. queues_of s ∷ qss) (subports-ticked from to subports)

  share-queues : (s : Subport T) (p : Pipe T) → (share_renewed s p).queues ≡ p.queues
  share-queues s p =
      let renewed : Pipe T = record p { share = s.watermark.value * p.weight; seen = Some s.period } in
      cond_both s.oversub (cond (has_seen s.period p.seen) p renewed) p (λ r. r.queues ≡ p.queues)
      (λ _. cond_both (has_seen s.period p.seen) p renewed (λ r. r.queues ≡ p.queues) (λ _. refl) (λ _. refl))
      (λ _. refl)

module _ {T : Type 0} (packet : T → Pkt) where
  abbrev sent_in : Course T → List T
  sent_in c = parcels c.sends

  abbrev queues_in : Course T → List (List (Queues T))
  queues_in c = all_queues c.port

  abbrev CourseLeaves : Course T → Course T → Type 0
  CourseLeaves = HasLeft front_in front_left sent_in queues_in

  visit-leaves :
      (k q : ℕ) (c : Course T) (s : Subport T) (p : Pipe T) → slice_get c.port.subports k ≡ Some s →
      next_active s.cursor (active s) ≡ Some q → slice_get s.pipes q ≡ Some p → CourseLeaves c (visited packet k q c s p)
  visit-leaves k q c s p there next found =
      let g = service_start packet c s in
      let start = visit_start g p in
      let cost = cost_with packet c.port.overhead in
      let end = classes_turn cost start in
      let turn = turn-leaves cost start in
      let renewed = subport_renewed g.time g.subport in
      let begin : start.pipe.queues ≡ p.queues = share-queues renewed (record p { level = level_renewed g.time p.level }) in
      let queues = queues_of s in
      let at_pipe : slice_get queues q ≡ Some p.queues = slice_get-map (λ (r : Pipe T). r.queues) s.pipes q ∙ ap (option_map (λ (r : Pipe T). r.queues)) found in
      let at_subport : slice_get (all_queues c.port) k ≡ Some queues = slice_get-map queues_of c.port.subports k ∙ ap (option_map queues_of) there in
      let own = subst (λ qs. Leaves queue_front without_front qs turn.more end.pipe.queues) begin turn.leave in
      let one =
      lifted queue_front without_front q (λ n. (q, n)) pipe_front pipe_without (λ n qs. refl) (λ n qs. refl)
      p.queues end.pipe.queues turn.more queues at_pipe own in
      let all =
      lifted pipe_front pipe_without k (λ place. record { subport = k; pipe = place.0; queue = place.1 }) front_in front_left
      (λ place qs. refl) (λ place qs. refl) queues (set queues q end.pipe.queues) turn.more (all_queues c.port) at_subport one in
      record {
        more = turn.more;
        sends = turn.sends;
        leave = subst (Leaves front_in front_left (all_queues c.port) turn.more)
            (sym (map-set queues_of c.port.subports k (visit_end q g end).subport ∙ ap (set (all_queues c.port) k) (map-set (λ (r : Pipe T). r.queues) s.pipes q end.pipe))) all;
      }

  steps-leave : HoldsOfSteps packet CourseLeaves
  steps-leave = record {
    along = left-along front_in front_left sent_in queues_in;
    ticked = λ c. nothing-left front_in front_left sent_in queues_in c (stepped packet c) refl (subports-ticked c.port.ticked c.port.time c.port.subports);
    moved = λ c k.
        nothing-left front_in front_left sent_in queues_in c (record c { port = record c.port { cursor = (k + 1) % length c.port.subports } }) refl refl;
    served = visit-leaves;
  }

  pub fronts-sent : (now room : ℕ) (s : Port T) → FrontsAreSent packet now room s
  fronts-sent now room s =
      let all = dequeue-along packet CourseLeaves steps-leave now room s in
      subst (λ ts. Leaves front_in front_left (all_queues s) ts (all_queues (dequeue_port packet now room s).port)) (sym all.sends) all.leave
