-- The tokens of best effort queues stay within what the dearest packet costs.
use Rattle.std.proofs.Common.{◌≡◌, ◌<◌, ◌≤◌, ⊎_elim, ℕ, zero, suc, ◌+◌, ◌-◌, ◌*◌, min, Bool, true, false, cond, eqb, ltb, ◌&&◌, not, List, [], ◌∷◌, ◌++◌, Some, take, drop, length, refl, sym, ap, ◌∙◌, subst, set, get_or, length-set, length-drop, arith}
use Rattle.std.specs.List.{slice_get, flat_map, All, Contains}
use Rattle.std.proofs.lemmas.Bool.{cases_lt, cond_both}
use Rattle.std.proofs.lemmas.Bool.Decides.{nat_tests}
use Rattle.std.proofs.lemmas.List.{length-map, get_or-map, get_or-drop, get_or_past}
use Rattle.std.proofs.lemmas.List.Elements.{All-head, All-get_or, All-set, All-map, All-weaker}
use Rattle.std.proofs.lemmas.List.Sorted.{IsPermutation-sym, All-permutation}
use Rattle.std.proofs.lemmas.Option.{get_or_from_slice_get, slice_get_within}
use Rattle.qos_base.specs.declared.packet.Pkt.{Pkt}
use Rattle.wrr_pick.specs.RoundRobin.{lowered, picked_queue, tokens_after_pick}
use Rattle.queue_store.specs.Queues.{list_of}
use Rattle.port_sched.specs.Sends.{total_cost, longest_front}
use Rattle.port_sched.specs.Level.{level_renewed}
use Rattle.port_sched.specs.Pipe.{Pipe, filled}
use Rattle.queue_store.specs.Queues.{is_filled}
use Rattle.port_sched.specs.Subport.{Subport}
use Rattle.port_sched.specs.Port.{Port, left_in, left_in_subport, left_of, pipe_tick, subport_tick}
use Rattle.port_sched.specs.Renewal.{has_seen, subport_renewed, pipe_renewed}
use Rattle.port_sched.specs.Classes.{Visit, four_allow, best_effort_allows, best_effort_waits, picked, after_pick, draw, draws, after_draws, strict_turn, best_effort_turn, classes_turn}
use Rattle.port_sched.specs.Visit.{cursor_after, visit_start}
use Rattle.port_sched.specs.PortDequeue.{Course, cost_with, service_start, dequeue_port}
use Rattle.port_sched.specs.Settings.{AreTokensWithin, HasTokensWithin, IsPipeWithin, IsSubportWithin, IsPortWithin}
use Rattle.port_sched.proofs.Along.{HoldsOfSteps, classes-along, visited, stepped, dequeue-along}
use Rattle.port_sched.proofs.Permuted.{joined_of, front_given}
use Rattle.port_sched.proofs.Served.{IsCourse, course-holds}
use Rattle.port_sched.proofs.Counted.{All-parts}
use Rattle.port_sched.proofs.Within.{set-bound, kept-along, within-holds, start-within}

-- a law of the round robin: a pick leaves the picked queue no tokens
abbrev pub PickedHasNone : Type 0
PickedHasNone = (tokens : List ℕ) (filled : List Bool) → length tokens ≡ length filled → Contains filled true → get_or (tokens_after_pick tokens filled) (picked_queue tokens filled) 0 ≡ 0

lowered-less : (tokens : List ℕ) (filled : List Bool) (by k : ℕ) → get_or (lowered tokens filled by) k 0 ≤ get_or tokens k 0
lowered-less [] filled by k = omega arith
lowered-less (n ∷ tokens) [] by k = omega arith
lowered-less (n ∷ tokens) (b ∷ filled) by zero = cond_both b (n - by) n (λ m. m ≤ n) (λ _. omega arith) (λ _. omega arith)
lowered-less (n ∷ tokens) (b ∷ filled) by (suc k) = lowered-less tokens filled by k

lowered-length : (tokens : List ℕ) (filled : List Bool) (by : ℕ) → length tokens ≡ length filled
    → length (lowered tokens filled by) ≡ length tokens
lowered-length [] filled by same = refl
lowered-length (n ∷ tokens) [] by same = absurd (omega arith)
lowered-length (n ∷ tokens) (b ∷ filled) by same = ap suc (lowered-length tokens filled by (omega arith))

-- an element that is within its bound leaves all within theirs
set-within : (xs factors : List ℕ) (i y dearest : ℕ) → ((k : ℕ) → get_or xs k 0 ≤ dearest * get_or factors k 0)
    → y ≤ dearest * get_or factors i 0 → (k : ℕ) → get_or (set xs i y) k 0 ≤ dearest * get_or factors k 0
set-within xs factors i y dearest was now k =
    set-bound (λ n. n) xs i k y 0 (dearest * get_or factors k 0) (was k) (λ same. subst (λ j. y ≤ dearest * get_or factors j 0) (sym same) now)

filled-more : (n : ℕ) → not (eqb (suc n) 0) ≡ true
filled-more n = grind (arith, nat_tests)

product-most : (total dearest factor : ℕ) → total ≤ dearest → total * factor ≤ dearest * factor
product-most total dearest factor less = grind arith

module _ {T : Type 0} (cost : T → ℕ) (dearest : ℕ) where
  -- a pipe with sixteen queues, whose tokens and packets are within
  pub record IsCheap (p : Pipe T) : Type 0 where
    lists : length p.queues.lists ≡ 16
    cheap : All (λ t. cost t ≤ dearest) (left_in p)
    tokens : AreTokensWithin dearest p

  one-cheap : (ts : List T) → All (λ t. cost t ≤ dearest) (take 1 ts) → total_cost cost (take 1 ts) ≤ dearest
  one-cheap [] all = omega arith
  one-cheap (t ∷ ts) all = let first = All-head (λ (x : T). cost x ≤ dearest) t [] all in omega (arith, first)

  -- the first packets of a queue, and what is left without them
  front-cheap : (n queue : ℕ) (p : Pipe T) → IsCheap p
      → All (λ t. cost t ≤ dearest) (take n (list_of queue p.queues)) × All (λ t. cost t ≤ dearest) (joined_of (set p.queues.lists queue (drop n (list_of queue p.queues))))
  front-cheap n queue p is =
      let front = take n (list_of queue p.queues) in
      let rest = joined_of (set p.queues.lists queue (drop n (list_of queue p.queues))) in
      All-parts (λ (t : T). cost t ≤ dearest) front rest
      (All-permutation (λ (t : T). cost t ≤ dearest) (left_in p) (front ++ rest) (IsPermutation-sym (front ++ rest) (left_in p) (front_given n p.queues.lists queue)) is.cheap)

  filled-four : (p : Pipe T) → IsCheap p → length (filled p) ≡ 4
  filled-four p is =
      let lists = is.lists in
      let rest = length-drop 12 p.queues.lists in
      let count = length-map (drop 12 p.queues.lists) (λ (ts : List T). is_filled ts) in
      omega (arith, lists, rest, count)

  picks-cheap : (p : Pipe T) → IsCheap p → IsCheap (after_pick p)
  picks-cheap p is =
      let by = get_or p.round.tokens (picked p) 0 in
      let four = is.tokens.four in
      record {
        lists = is.lists;
        cheap = is.cheap;
        tokens = record {
          four = lowered-length p.round.tokens (filled p) by (four ∙ sym (filled-four p is)) ∙ four;
          each = λ k.
              let less = lowered-less p.round.tokens (filled p) by k in
              let was = is.tokens.each k in
              omega (arith, less, was);
        };
      }

  -- where the picked queue has a packet, some queue is filled
  some-filled : (p : Pipe T) (t : T) (ts : List T) → IsCheap p → list_of (12 + picked p) p.queues ≡ t ∷ ts → Contains (filled p) true
  some-filled p t ts is has =
      let lists = is.lists in
      let queue = picked p in
      let four = filled-four p is in
      let rest = length-drop 12 p.queues.lists in
      ⊎_elim
      (λ (within : 12 + queue < 16).
      let there : get_or (filled p) queue true ≡ is_filled (list_of (12 + queue) p.queues) =
      get_or-map (λ (us : List T). is_filled us) (drop 12 p.queues.lists) queue [] true (omega (arith, lists, rest, within))
      ∙ ap (λ (us : List T). is_filled us) (get_or-drop 12 p.queues.lists queue []) in
      (queue, omega (arith, four, within), there ∙ ap (λ (us : List T). is_filled us) has ∙ filled-more (length ts)))
      (λ (past : 16 ≤ 12 + queue).
      let none = get_or_past p.queues.lists (12 + queue) [] (omega (arith, lists, past)) in
      let both : [] ≡ t ∷ ts = sym none ∙ has in
      absurd (cc))
      (cases_lt (12 + queue) 16)

  -- the picked queue's tokens once it has paid for its first packet
  pays-cheap : PickedHasNone → (p : Pipe T) → IsCheap p → (waits : List T) → list_of (12 + picked p) p.queues ≡ waits
      → get_or (after_pick p).round.tokens (picked p) 0 + total_cost cost (take 1 waits) * get_or p.round.factors (picked p) 0 ≤ dearest * get_or p.round.factors (picked p) 0
  pays-cheap law p is [] has = let was = (picks-cheap p is).tokens.each (picked p) in omega (arith, was)
  pays-cheap law p is (t ∷ ts) has =
      let none = law p.round.tokens (filled p) (is.tokens.four ∙ sym (filled-four p is)) (some-filled p t ts is has) in
      let fits = one-cheap (list_of (12 + picked p) p.queues) ((front-cheap 1 (12 + picked p) p is).0) in
      let less = subst (λ us. total_cost cost (take 1 us) ≤ dearest) has fits in
      let product = product-most (total_cost cost (take 1 (t ∷ ts))) dearest (get_or p.round.factors (picked p) 0) less in
      omega (arith, none, product)

  draw-cheap : PickedHasNone → (p : Pipe T) → IsCheap p → IsCheap (draw cost p)
  draw-cheap law p is =
      let queue = picked p in
      let waits = list_of (12 + queue) p.queues in
      let pick = picks-cheap p is in
      let factors = p.round.factors in
      let tokens = (after_pick p).round.tokens in
      let total = total_cost cost (take 1 waits) in
      let paid = get_or tokens queue 0 + total * get_or factors queue 0 in
      let sent = set tokens queue paid in
      let each = set-within tokens factors queue paid dearest pick.tokens.each (pays-cheap law p is waits refl) in
      let four = length-set tokens queue paid ∙ pick.tokens.four in
      record {
        lists = length-set p.queues.lists (12 + queue) (drop 1 waits) ∙ is.lists;
        cheap = (front-cheap 1 (12 + queue) p is).1;
        tokens = record {
          four = cond_both (eqb (length waits) 1) (set sent queue 0) sent (λ ns. length ns ≡ 4) (λ _. length-set sent queue 0 ∙ four) (λ _. four);
          each = cond_both (eqb (length waits) 1) (set sent queue 0) sent (λ ns. (k : ℕ) → get_or ns k 0 ≤ dearest * get_or factors k 0)
              (λ _. set-within sent factors queue 0 dearest each (omega arith)) (λ _. each);
        };
      }

  draws-cheap : PickedHasNone → (n : ℕ) (p : Pipe T) → IsCheap p → IsCheap (after_draws cost n p)
  unfolding after_draws
  draws-cheap law zero p is = is
  draws-cheap law (suc n) p is = draws-cheap law n (draw cost p) (draw-cheap law p is)

  left-cheap : (more : Bool) (p : Pipe T) → IsCheap p → IsCheap (cond more (after_pick p) p)
  left-cheap true p is = picks-cheap p is
  left-cheap false p is = is

  strict-cheap : (v : Visit T) (class : ℕ) → IsCheap v.pipe → IsCheap (strict_turn cost v class).pipe
  strict-cheap v class is =
      let waits = list_of class v.pipe.queues in
      let n = longest_front cost (four_allow class v) (min v.room (length waits)) waits in
      record {
        lists = length-set v.pipe.queues.lists class (drop n waits) ∙ is.lists;
        cheap = (front-cheap n class v.pipe is).1;
        tokens = record { four = is.tokens.four; each = is.tokens.each };
      }

  best_effort-cheap : PickedHasNone → (v : Visit T) → IsCheap v.pipe → IsCheap (best_effort_turn cost v).pipe
  best_effort-cheap law v is =
      let front = draws cost v.room v.pipe in
      let n = longest_front cost (best_effort_allows v) (length front) front in
      let drawn = after_draws cost n v.pipe in
      let left = left-cheap (ltb n v.room && best_effort_waits drawn) drawn (draws-cheap law n v.pipe is) in
      record { lists = left.lists; cheap = left.cheap; tokens = record { four = left.tokens.four; each = left.tokens.each } }

  pub classes-cheap : PickedHasNone → (v : Visit T) → IsCheap v.pipe → IsCheap (classes_turn cost v).pipe
  classes-cheap law v = classes-along cost (λ a b. IsCheap a.pipe → IsCheap b.pipe) (kept-along (λ (a : Visit T). IsCheap a.pipe)) strict-cheap (best_effort-cheap law) v

  renewed-cheap : (moment : ℕ) (s : Subport T) (p : Pipe T) → IsCheap p → IsCheap (pipe_renewed moment s p)
  renewed-cheap moment s p is =
      let renewed : Pipe T = record p { level = level_renewed moment p.level } in
      let granted : Pipe T = record renewed { share = s.watermark.value * p.weight; seen = Some s.period } in
      let own : AreTokensWithin dearest renewed = record { four = is.tokens.four; each = is.tokens.each } in
      let shared : AreTokensWithin dearest granted = record { four = is.tokens.four; each = is.tokens.each } in
      cond_both s.oversub (cond (has_seen s.period p.seen) renewed granted) renewed IsCheap
      (λ _. cond_both (has_seen s.period p.seen) renewed granted IsCheap
      (λ _. record { lists = is.lists; cheap = is.cheap; tokens = own })
      (λ _. record { lists = is.lists; cheap = is.cheap; tokens = shared }))
      (λ _. record { lists = is.lists; cheap = is.cheap; tokens = own })

-- what holds of all parts holds of one
part-all : {A X : Type 0} (f : A → List X) (P : X → Type 0) (parts : List A) (k : ℕ) (part : A) → All P (flat_map f parts)
    → slice_get parts k ≡ Some part → All P (f part)
part-all f P [] k part all there = let within = slice_get_within [] k part there in absurd (omega arith)
part-all f P (x ∷ parts) zero part all there = let same : part ≡ x = cc in subst (λ y. All P (f y)) (sym same) ((All-parts P (f x) (flat_map f parts) all).0)
part-all f P (x ∷ parts) (suc k) part all there = part-all f P parts k part ((All-parts P (f x) (flat_map f parts) all).1) there

module _ {T : Type 0} (packet : T → Pkt) (law : PickedHasNone) (overhead dearest : ℕ) where
  -- a port in which no packet that waits is dearer, within its bounds
  record IsCheapPort (port : Port T) : Type 0 where
    overhead_is : port.overhead ≡ overhead
    cheap : All (λ t. cost_with packet overhead t ≤ dearest) (left_of port)
    within : IsPortWithin port
    tokens : HasTokensWithin dearest port

  course-cheap : (c d : Course T) → IsCourse packet c d → All (λ t. cost_with packet overhead t ≤ dearest) (left_of c.port)
      → All (λ t. cost_with packet overhead t ≤ dearest) (left_of d.port)
  course-cheap c d came all =
      let P : T → Type 0 = λ t. cost_with packet overhead t ≤ dearest in
      let more = came.served.more in
      let are = came.served.are in
      (All-parts P more (left_of d.port) (All-permutation P (left_of c.port) (more ++ left_of d.port) (IsPermutation-sym (more ++ left_of d.port) (left_of c.port) are.each_once) all)).1

  visited-tokens : (k q : ℕ) (c : Course T) (s : Subport T) (p : Pipe T) → slice_get c.port.subports k ≡ Some s
      → slice_get s.pipes q ≡ Some p → IsCheapPort c.port → HasTokensWithin dearest (visited packet k q c s p).port
  visited-tokens k q c s p subport pipe is =
      let cost = cost_with packet c.port.overhead in
      let P : T → Type 0 = λ t. cost t ≤ dearest in
      let renewed = subport_renewed c.port.time s in
      let start = visit_start (service_start packet c s) p in
      let end = classes_turn cost start in
      let all : All P (left_of c.port) = subst (λ n. All (λ t. cost_with packet n t ≤ dearest) (left_of c.port)) (sym is.overhead_is) is.cheap in
      let bounds : IsSubportWithin s = subst IsSubportWithin (get_or_from_slice_get c.port.subports k s s subport)
      (All-get_or IsSubportWithin c.port.subports k s (slice_get_within c.port.subports k s subport) is.within.subports) in
      let bound : IsPipeWithin p = subst IsPipeWithin (get_or_from_slice_get s.pipes q p p pipe) (All-get_or IsPipeWithin s.pipes q p (slice_get_within s.pipes q p pipe) bounds.pipes) in
      let pipes : All (AreTokensWithin dearest) s.pipes = subst (λ (x : Subport T). All (AreTokensWithin dearest) x.pipes) (get_or_from_slice_get c.port.subports k s s subport)
      (All-get_or (λ (x : Subport T). All (AreTokensWithin dearest) x.pipes) c.port.subports k s (slice_get_within c.port.subports k s subport) is.tokens) in
      let tokens : AreTokensWithin dearest p = subst (AreTokensWithin dearest) (get_or_from_slice_get s.pipes q p p pipe)
      (All-get_or (AreTokensWithin dearest) s.pipes q p (slice_get_within s.pipes q p pipe) pipes) in
      let under = part-all left_in P s.pipes q p (part-all left_in_subport P c.port.subports k s all subport) pipe in
      let began = renewed-cheap cost dearest c.port.time renewed p (record { lists = bound.lists; cheap = under; tokens = tokens }) in
      let ended = classes-cheap cost dearest law start began in
      let after : Subport T = record renewed { level = end.subport; cursor = cursor_after q (length s.pipes) end.room; pipes = set s.pipes q end.pipe } in
      All-set (λ (x : Subport T). All (AreTokensWithin dearest) x.pipes) c.port.subports k after (All-set (AreTokensWithin dearest) s.pipes q end.pipe ended.tokens pipes) is.tokens

  ticked-tokens : (c : Course T) → HasTokensWithin dearest c.port → HasTokensWithin dearest (stepped packet c).port
  ticked-tokens c all =
      All-map (λ (x : Subport T). All (AreTokensWithin dearest) x.pipes) (subport_tick c.port.ticked c.port.time) c.port.subports
      (All-weaker (λ (x : Subport T). All (AreTokensWithin dearest) x.pipes) (λ s. All (AreTokensWithin dearest) (subport_tick c.port.ticked c.port.time s).pipes)
      (λ s own. All-map (AreTokensWithin dearest) (pipe_tick c.port.ticked c.port.time) s.pipes
      (All-weaker (AreTokensWithin dearest) (λ p. AreTokensWithin dearest (pipe_tick c.port.ticked c.port.time p)) (λ p its. record { four = its.four; each = its.each }) s.pipes own)) c.port.subports all)

  cheap-holds : HoldsOfSteps packet (λ c d. IsCheapPort c.port → IsCheapPort d.port)
  cheap-holds = record {
    along = kept-along (λ (c : Course T). IsCheapPort c.port);
    ticked = λ c is. record {
      overhead_is = is.overhead_is;
      cheap = course-cheap c (stepped packet c) ((course-holds packet).ticked c) is.cheap;
      within = (within-holds packet).ticked c is.within;
      tokens = ticked-tokens c is.tokens;
    };
    moved = λ c k is. record { overhead_is = is.overhead_is; cheap = is.cheap; within = (within-holds packet).moved c k is.within; tokens = is.tokens };
    served = λ k q c s p subport next pipe is. record {
      overhead_is = is.overhead_is;
      cheap = course-cheap c (visited packet k q c s p) ((course-holds packet).served k q c s p subport next pipe) is.cheap;
      within = (within-holds packet).served k q c s p subport next pipe is.within;
      tokens = visited-tokens k q c s p subport pipe is;
    };
  }

module _ {T : Type 0} (packet : T → Pkt) where
  pub tokens-stay : PickedHasNone → (now room : ℕ) (s : Port T) (dearest : ℕ)
      → All (λ t. cost_with packet s.overhead t ≤ dearest) (left_of s) → IsPortWithin s → HasTokensWithin dearest s
      → HasTokensWithin dearest (dequeue_port packet now room s).port
  tokens-stay law now room s dearest all within tokens =
      let came = dequeue-along packet (λ c d. IsCheapPort packet law s.overhead dearest c.port → IsCheapPort packet law s.overhead dearest d.port) (cheap-holds packet law s.overhead dearest) now room s
      (record { overhead_is = refl; cheap = all; within = start-within packet now s within; tokens = tokens }) in
      came.tokens
