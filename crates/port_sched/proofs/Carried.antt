-- What carries a packet has no part in what a port does: the classes of a visit.
use Rattle.std.proofs.Common.{◌≡◌, ℕ, zero, suc, ◌+◌, ◌-◌, min, Bool, true, false, cond, eqb, ltb, leb, ◌&&◌, ◌||◌, not, List, [], ◌∷◌, ◌++◌, Option, Some, None, take, drop, length, map, refl, sym, ap, ◌∙◌, set}
use Rattle.std.specs.List.{fold, slice_get, list_any, range_with_len}
use Rattle.std.specs.Option.{option_map}
use Rattle.std.proofs.Math.ListN.{get_or-map}
use Rattle.std.proofs.lemmas.List.{map-append, map-set, length-map, take-map, drop-map}
use Rattle.std.proofs.lemmas.List.Folds.{fold-map}
use Rattle.std.proofs.lemmas.Option.{slice_get-map}
use Rattle.qos_base.specs.declared.packet.Pkt.{Pkt}
use Rattle.queue_store.specs.Queues.{Queues, list_of}
use Rattle.wrr_pick.specs.RoundRobin.{picked_queue, tokens_after_pick, tokens_after_send, tokens_once_empty}
use Rattle.port_sched.specs.Sends.{total_cost, sends_from, longest_front}
use Rattle.port_sched.specs.Level.{level_paid}
use Rattle.port_sched.specs.Pipe.{Pipe, has_packet, filled}
use Rattle.queue_store.specs.Queues.{is_filled}
use Rattle.port_sched.specs.Classes.{Visit, with_sent, front_sent, four_allow, best_effort_allows, share_paid, best_effort_waits, after_pick, next_front, before, picked, front_drawn, draw, draws, after_draws, strict_turn, best_effort_turn, classes_turn}
use Rattle.port_sched.specs.Parcels.{seen_send}
use Rattle.port_sched.specs.PortLaws.{seen_queues, seen_pipe}

-- a choice that is looked at is the choice of what is looked at
pub cond-through : {X Y : Type 0} (f : X → Y) (b : Bool) (x y : X) → cond b (f x) (f y) ≡ f (cond b x y)
cond-through f true x y = refl
cond-through f false x y = refl

pub fold-through : {X Y A : Type 0} (f : X → Y) (step : X → A → X) (other : Y → A → Y)
    → ((x : X) (a : A) → other (f x) a ≡ f (step x a)) → (x : X) (items : List A) → fold other (f x) items ≡ f (fold step x items)
fold-through f step other same x [] = refl
fold-through f step other same x (a ∷ items) = ap (λ y. fold other y items) (same x a) ∙ fold-through f step other same (step x a) items

module _ {T : Type 0} (packet : T → Pkt) where
  filled-one : (ts : List T) → is_filled (map packet ts) ≡ is_filled ts
  filled-one ts = ap (λ n. not (eqb n 0)) (length-map ts packet)

  filled-each : (lists : List (List T)) → map is_filled (map (map packet) lists) ≡ map is_filled lists
  filled-each [] = refl
  filled-each (ts ∷ lists) = λ i. filled-one ts i ∷ filled-each lists i

  filled-any : (lists : List (List T)) → list_any is_filled (map (map packet) lists) ≡ list_any is_filled lists
  filled-any [] = refl
  filled-any (ts ∷ lists) = λ i. filled-one ts i || filled-any lists i

  pub list-seen : (queue : ℕ) (queues : Queues T) → list_of queue (seen_queues packet queues) ≡ map packet (list_of queue queues)
  list-seen queue queues = get_or-map (map packet) queues.lists queue []

  pub lists-seen : (queue : ℕ) (queues : Queues T) (ts : List T) (us : List Pkt) → us ≡ map packet ts
      → set (map (map packet) queues.lists) queue us ≡ map (map packet) (set queues.lists queue ts)
  lists-seen queue queues ts us same = ap (set (map (map packet) queues.lists) queue) same ∙ sym (map-set (map packet) queues.lists queue ts)

  pub has_packet-seen : (p : Pipe T) → has_packet (seen_pipe packet p) ≡ has_packet p
  has_packet-seen p = filled-any p.queues.lists

  filled-seen : (p : Pipe T) → filled (seen_pipe packet p) ≡ filled p
  filled-seen p = ap (map is_filled) (drop-map (map packet) 12 p.queues.lists) ∙ filled-each (drop 12 p.queues.lists)

  waits-seen : (p : Pipe T) → best_effort_waits (seen_pipe packet p) ≡ best_effort_waits p
  waits-seen p = ap (list_any is_filled) (drop-map (map packet) 12 p.queues.lists) ∙ filled-any (drop 12 p.queues.lists)

  picked-seen : (p : Pipe T) → picked (seen_pipe packet p) ≡ picked p
  picked-seen p = ap (picked_queue p.round.tokens) (filled-seen p)

  after_pick-seen : (p : Pipe T) → after_pick (seen_pipe packet p) ≡ seen_pipe packet (after_pick p)
  after_pick-seen p = λ i. record (seen_pipe packet p) { round = record p.round { tokens = tokens_after_pick p.round.tokens (filled-seen p i) } }

  next_front-seen : (p : Pipe T) → next_front (seen_pipe packet p) ≡ option_map packet (next_front p)
  next_front-seen p =
      ap (λ q. slice_get (list_of (12 + q) (seen_queues packet p.queues)) 0) (picked-seen p)
      ∙ ap (λ ts. slice_get ts 0) (list-seen (12 + picked p) p.queues) ∙ slice_get-map packet (list_of (12 + picked p) p.queues) 0

  before-seen : (first : Option T) (ts : List T) → before (option_map packet first) (map packet ts) ≡ map packet (before first ts)
  before-seen (Some t) ts = refl
  before-seen None ts = refl

  abbrev pub seen_visit : Visit T → Visit Pkt
  seen_visit v = record { oversub = v.oversub; subport = v.subport; pipe = seen_pipe packet v.pipe; time = v.time; room = v.room; sends = map (seen_send packet) v.sends }

module _ {T : Type 0} (packet : T → Pkt) (cost : Pkt → ℕ) where
  abbrev its : T → ℕ
  its t = cost (packet t)

  total-seen : (ts : List T) → total_cost cost (map packet ts) ≡ total_cost its ts
  total-seen ts = fold-map (λ a x. a + cost x) packet 0 ts

  total-take : (n : ℕ) (ts : List T) → total_cost cost (take n (map packet ts)) ≡ total_cost its (take n ts)
  total-take n ts = ap (total_cost cost) (take-map packet n ts) ∙ total-seen (take n ts)

  longest-seen : (credits n : ℕ) (ts : List T) → longest_front cost credits n (map packet ts) ≡ longest_front its credits n ts
  unfolding longest_front
  longest-seen credits zero ts = refl
  longest-seen credits (suc n) ts = λ i. cond (leb (total-take (suc n) ts i) credits) (suc n) (longest-seen credits n ts i)

  sends-seen : (time : ℕ) (ts : List T) → sends_from cost time (map packet ts) ≡ map (seen_send packet) (sends_from its time ts)
  sends-seen time [] = refl
  sends-seen time (t ∷ ts) = ap (λ ds. record { parcel = packet t; time = time } ∷ ds) (sends-seen (time + its t) ts)

  with_sent-seen : (class : ℕ) (ts : List T) (v : Visit T)
      → with_sent cost class (map packet ts) (seen_visit packet v) ≡ seen_visit packet (with_sent its class ts v)
  with_sent-seen class ts v =
      let total = total-seen ts in
      let count = length-map ts packet in
      let sends = ap (λ ds. map (seen_send packet) v.sends ++ ds) (sends-seen v.time ts) ∙ sym (map-append (seen_send packet) v.sends (sends_from its v.time ts)) in
      λ i. record {
        oversub = v.oversub;
        subport = level_paid class (total i) v.subport;
        pipe = record (seen_pipe packet v.pipe) { level = level_paid class (total i) v.pipe.level };
        time = v.time + total i;
        room = v.room - count i;
        sends = sends i;
      }

  front_sent-seen : (class queue n : ℕ) (v : Visit T)
      → front_sent cost class queue n (seen_visit packet v) ≡ seen_visit packet (front_sent its class queue n v)
  front_sent-seen class queue n v =
      let waits = list_of queue v.pipe.queues in
      let same = list-seen packet queue v.pipe.queues in
      let sent = ap (λ ts. with_sent cost class (take n ts) (seen_visit packet v)) same
      ∙ ap (λ ts. with_sent cost class ts (seen_visit packet v)) (take-map packet n waits) ∙ with_sent-seen class (take n waits) v in
      let lists = lists-seen packet queue v.pipe.queues (drop n waits) (drop n (list_of queue (seen_queues packet v.pipe.queues))) (ap (drop n) same ∙ drop-map packet n waits) in
      λ i. record (sent i) { pipe = record ((sent i).pipe) { queues = record { sizes = v.pipe.queues.sizes; lists = lists i } } }

  strict-seen : (v : Visit T) (class : ℕ) → strict_turn cost (seen_visit packet v) class ≡ seen_visit packet (strict_turn its v class)
  strict-seen v class =
      let queue = list_of class v.pipe.queues in
      let allows = four_allow class v in
      let turn : ℕ → Visit Pkt = λ n. front_sent cost class class n (seen_visit packet v) in
      ap (λ ts. turn (longest_front cost allows (min v.room (length ts)) ts)) (list-seen packet class v.pipe.queues)
      ∙ ap (λ n. turn (longest_front cost allows (min v.room n) (map packet queue))) (length-map queue packet)
      ∙ ap turn (longest-seen allows (min v.room (length queue)) queue)
      ∙ front_sent-seen class class (longest_front its allows (min v.room (length queue)) queue) v

  front_drawn-seen : (queue : ℕ) (p : Pipe T) → front_drawn cost queue (seen_pipe packet p) ≡ seen_pipe packet (front_drawn its queue p)
  front_drawn-seen queue p =
      let waits = list_of (12 + queue) p.queues in
      let same = list-seen packet (12 + queue) p.queues in
      let total = ap (λ ts. total_cost cost (take 1 ts)) same ∙ total-take 1 waits in
      let count = ap length same ∙ length-map waits packet in
      let lists = lists-seen packet (12 + queue) p.queues (drop 1 waits) (drop 1 (list_of (12 + queue) (seen_queues packet p.queues))) (ap (drop 1) same ∙ drop-map packet 1 waits) in
      λ i.
      let tokens = tokens_after_send p.round.factors p.round.tokens queue (total i) in
      record (seen_pipe packet p) {
        round = record p.round { tokens = cond (eqb (count i) 1) (tokens_once_empty tokens queue) tokens };
        queues = record { sizes = p.queues.sizes; lists = lists i };
      }

  draw-seen : (p : Pipe T) → draw cost (seen_pipe packet p) ≡ seen_pipe packet (draw its p)
  draw-seen p = (λ i. front_drawn cost (picked-seen packet p i) (after_pick-seen packet p i)) ∙ front_drawn-seen (picked p) (after_pick p)

  draws-seen : (n : ℕ) (p : Pipe T) → draws cost n (seen_pipe packet p) ≡ map packet (draws its n p)
  unfolding draws
  draws-seen zero p = refl
  draws-seen (suc n) p =
      ap (λ q. before (next_front (seen_pipe packet p)) (draws cost n q)) (draw-seen p)
      ∙ (λ i. before (next_front-seen packet p i) (draws-seen n (draw its p) i)) ∙ before-seen packet (next_front p) (draws its n (draw its p))

  after_draws-seen : (n : ℕ) (p : Pipe T) → after_draws cost n (seen_pipe packet p) ≡ seen_pipe packet (after_draws its n p)
  unfolding after_draws
  after_draws-seen zero p = refl
  after_draws-seen (suc n) p = ap (after_draws cost n) (draw-seen p) ∙ after_draws-seen n (draw its p)

  -- where a packet is left the next pick takes its tokens
  left-seen : (n room : ℕ) (p : Pipe T)
      → cond (ltb n room && best_effort_waits (seen_pipe packet p)) (after_pick (seen_pipe packet p)) (seen_pipe packet p) ≡ seen_pipe packet (cond (ltb n room && best_effort_waits p) (after_pick p) p)
  left-seen n room p =
      (λ i. cond (ltb n room && waits-seen packet p i) (after_pick-seen packet p i) (seen_pipe packet p))
      ∙ cond-through (seen_pipe packet) (ltb n room && best_effort_waits p) (after_pick p) p

  best_effort-seen : (v : Visit T) → best_effort_turn cost (seen_visit packet v) ≡ seen_visit packet (best_effort_turn its v)
  best_effort-seen v =
      let front = draws its v.room v.pipe in
      let allows = best_effort_allows v in
      let n = longest_front its allows (length front) front in
      let drawn = after_draws its n v.pipe in
      let left = cond (ltb n v.room && best_effort_waits drawn) (after_pick drawn) drawn in
      let ts = take n front in
      let end : List Pkt → ℕ → Pipe Pkt → Visit Pkt = λ us total q. with_sent cost 12 us (record (seen_visit packet v) { pipe = share_paid v.oversub total q }) in
      let end_by : List Pkt → ℕ → Pipe Pkt → Visit Pkt = λ us m d. end (take m us) (total_cost cost (take m us)) (cond (ltb m v.room && best_effort_waits d) (after_pick d) d) in
      let turn : List Pkt → ℕ → Visit Pkt = λ us m. end_by us m (after_draws cost m (seen_pipe packet v.pipe)) in
      ap (λ us. turn us (longest_front cost allows (length us) us)) (draws-seen v.room v.pipe)
      ∙ ap (λ m. turn (map packet front) (longest_front cost allows m (map packet front))) (length-map front packet)
      ∙ ap (turn (map packet front)) (longest-seen allows (length front) front)
      ∙ ap (end_by (map packet front) n) (after_draws-seen n v.pipe)
      ∙ (λ i. end (take-map packet n front i) (total-take n front i) (left-seen n v.room drawn i))
      ∙ with_sent-seen 12 ts (record v { pipe = share_paid v.oversub (total_cost its ts) left })

  pub classes-seen : (v : Visit T) → classes_turn cost (seen_visit packet v) ≡ seen_visit packet (classes_turn its v)
  unfolding classes_turn
  classes-seen v =
      ap (best_effort_turn cost) (fold-through (seen_visit packet) (strict_turn its) (strict_turn cost) strict-seen v (range_with_len 0 12))
      ∙ best_effort-seen (fold (strict_turn its) v (range_with_len 0 12))
