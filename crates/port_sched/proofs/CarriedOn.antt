-- What carries a packet has no part in what a port does: a visit, a dequeue, and an arrival.
use Rattle.std.proofs.Common.{◌≡◌, ℕ, zero, suc, ◌+◌, ◌*◌, ◌%◌, ◌||◌, ◌&&◌, cond, eqb, leb, ltb, List, [], ◌∷◌, ◌++◌, Option, Some, None, length, map, refl, sym, ap, ◌∙◌}
use Rattle.std.specs.Prelude.{is_some, option_and_then}
use Rattle.std.specs.List.{fold, slice_get, count_by, flat_map, range_with_len}
use Rattle.std.specs.Option.{option_map}
use Rattle.std.proofs.lemmas.List.{map-append, map-set, length-map}
use Rattle.std.proofs.lemmas.List.Folds.{fold-map}
use Rattle.std.proofs.lemmas.Option.{slice_get-map}
use Rattle.qos_base.specs.declared.packet.Pkt.{Pkt}
use Rattle.active_bitmap.specs.NextActive.{next_active}
use Rattle.queue_store.specs.Queues.{list_of, size_of}
use Rattle.port_sched.specs.Level.{is_due, level_renewed}
use Rattle.port_sched.specs.Pipe.{Pipe, has_packet}
use Rattle.port_sched.specs.Subport.{Subport, active}
use Rattle.port_sched.specs.Port.{Port, at, tick, pipe_tick, subport_tick, left_in, left_in_subport, left_of, pipe_of, in_subport, with_arrival, is_full_at, after_arrival}
use Rattle.port_sched.specs.Renewal.{has_seen, watermark_renewed, subport_renewed, share_renewed, pipe_renewed}
use Rattle.port_sched.specs.Classes.{Visit, classes_turn}
use Rattle.port_sched.specs.Visit.{Service, cursor_after, visit_start, visit_end}
use Rattle.port_sched.specs.PortDequeue.{Course, cost_with, subport_at, service_start, service_end, visit_next, visit, active_count, pipe_count, visits, moved_on, turn_of, dequeue_port}
use Rattle.port_sched.specs.Parcels.{itself, seen_send}
use Rattle.port_sched.specs.PortLaws.{seen_queues, seen_pipe, seen_subport, seen_port, seen_course, PacketsDecide}
use Rattle.port_sched.proofs.Along.{visit_of, visit_that, visit_in, stepped, start_of}
use Rattle.port_sched.proofs.Carried.{cond-through, fold-through, list-seen, lists-seen, has_packet-seen, seen_visit, classes-seen}

map-through : {X Y : Type 0} (f : X → Y) (step : X → X) (other : Y → Y) → ((x : X) → other (f x) ≡ f (step x)) → (xs : List X)
    → map other (map f xs) ≡ map f (map step xs)
map-through f step other same [] = refl
map-through f step other same (x ∷ xs) = λ i. same x i ∷ map-through f step other same xs i

at-through : {X Y : Type 0} (f : X → Y) (step : X → X) (other : Y → Y) → ((x : X) → other (f x) ≡ f (step x))
    → (n : ℕ) (xs : List X) → at n other (map f xs) ≡ map f (at n step xs)
at-through f step other same n [] = refl
at-through f step other same zero (x ∷ xs) = ap (λ y. y ∷ map f xs) (same x)
at-through f step other same (suc n) (x ∷ xs) = ap (λ ys. f x ∷ ys) (at-through f step other same n xs)

flat-through : {A B X Y : Type 0} (f : A → B) (g : X → Y) (items : A → List X) (others : B → List Y)
    → ((a : A) → others (f a) ≡ map g (items a)) → (parts : List A) → flat_map others (map f parts) ≡ map g (flat_map items parts)
flat-through f g items others same [] = refl
flat-through f g items others same (a ∷ parts) = (λ i. same a i ++ flat-through f g items others same parts i) ∙ sym (map-append g (items a) (flat_map items parts))

module _ {T : Type 0} (packet : T → Pkt) where
  active-each : (pipes : List (Pipe T)) → map has_packet (map (seen_pipe packet) pipes) ≡ map has_packet pipes
  active-each [] = refl
  active-each (p ∷ pipes) = λ i. has_packet-seen packet p i ∷ active-each pipes i

  count-each : (pipes : List (Pipe T)) → count_by has_packet (map (seen_pipe packet) pipes) ≡ count_by has_packet pipes
  count-each pipes =
      fold-map (λ n p. n + cond (has_packet p) 1 0) (seen_pipe packet) 0 pipes ∙ (λ i. fold (λ n p. n + cond (has_packet-seen packet p i) 1 0) 0 pipes)

  renewed-seen : (moment : ℕ) (s : Subport T)
      → subport_renewed moment (seen_subport packet s) ≡ seen_subport packet (subport_renewed moment s)
  renewed-seen moment s =
      cond-through (seen_subport packet) (is_due moment s.level) (record s { level = level_renewed moment s.level; watermark = watermark_renewed s; period = s.period + 1 }) s

  share-seen : (s : Subport T) (p : Pipe T)
      → share_renewed (seen_subport packet s) (seen_pipe packet p) ≡ seen_pipe packet (share_renewed s p)
  share-seen s p =
      let granted : Pipe T = record p { share = s.watermark.value * p.weight; seen = Some s.period } in
      ap (λ q. cond s.oversub q (seen_pipe packet p)) (cond-through (seen_pipe packet) (has_seen s.period p.seen) p granted)
      ∙ cond-through (seen_pipe packet) s.oversub (cond (has_seen s.period p.seen) p granted) p

  abbrev seen_service : Service T → Service Pkt
  seen_service g = record { subport = seen_subport packet g.subport; time = g.time; room = g.room; sends = map (seen_send packet) g.sends }

  start-seen : (g : Service T) (p : Pipe T) → visit_start (seen_service g) (seen_pipe packet p) ≡ seen_visit packet (visit_start g p)
  start-seen g p =
      let made : Subport Pkt → Pipe Pkt → Visit Pkt = λ s q. record { oversub = g.subport.oversub; subport = s.level; pipe = q; time = g.time; room = g.room; sends = map (seen_send packet) g.sends } in
      ap (λ s. made s (pipe_renewed g.time s (seen_pipe packet p))) (renewed-seen g.time g.subport)
      ∙ ap (made (seen_subport packet (subport_renewed g.time g.subport))) (share-seen (subport_renewed g.time g.subport) (record p { level = level_renewed g.time p.level }))

  end-seen : (q : ℕ) (g : Service T) (v : Visit T) → visit_end q (seen_service g) (seen_visit packet v) ≡ seen_service (visit_end q g v)
  end-seen q g v =
      let renewed = renewed-seen g.time g.subport in
      let count = length-map g.subport.pipes (seen_pipe packet) in
      let pipes = sym (map-set (seen_pipe packet) g.subport.pipes q v.pipe) in
      λ i. record {
        subport = record (renewed i) { level = v.subport; cursor = cursor_after q (count i) v.room; pipes = pipes i };
        time = v.time;
        room = v.room;
        sends = map (seen_send packet) v.sends;
      }

  module _ (cost : Pkt → ℕ) where
    visit_of-seen : (q : ℕ) (g : Service T) (found : Option (Pipe T))
        → visit_of cost q (seen_service g) (option_map (seen_pipe packet) found) ≡ seen_service (visit_of (λ t. cost (packet t)) q g found)
    visit_of-seen q g (Some p) =
        ap (λ v. visit_end q (seen_service g) (classes_turn cost v)) (start-seen g p)
        ∙ ap (visit_end q (seen_service g)) (classes-seen packet cost (visit_start g p))
        ∙ end-seen q g (classes_turn (λ t. cost (packet t)) (visit_start g p))
    visit_of-seen q g None = refl

    visit_that-seen : (g : Service T) (next : Option ℕ)
        → visit_that cost (seen_service g) next ≡ seen_service (visit_that (λ t. cost (packet t)) g next)
    visit_that-seen g (Some q) = ap (visit_of cost q (seen_service g)) (slice_get-map (seen_pipe packet) g.subport.pipes q) ∙ visit_of-seen q g (slice_get g.subport.pipes q)
    visit_that-seen g None = refl

  next-seen : (overhead : ℕ) (g : Service T)
      → visit_next itself (cost_with itself overhead) (seen_service g) ≡ seen_service (visit_next packet (cost_with packet overhead) g)
  next-seen overhead g =
      ap (λ bits. visit_that (cost_with itself overhead) (seen_service g) (next_active g.subport.cursor bits)) (active-each g.subport.pipes)
      ∙ visit_that-seen (cost_with itself overhead) g (next_active g.subport.cursor (active g.subport))

  tick-seen : (moment : ℕ) (s : Port T) → tick moment (seen_port packet s) ≡ seen_port packet (tick moment s)
  tick-seen moment s =
      let subports = map-through (seen_subport packet) (subport_tick s.ticked moment) (subport_tick s.ticked moment)
      (λ sub. ap (λ ps. record (seen_subport packet (subport_tick s.ticked moment sub)) { pipes = ps })
      (map-through (seen_pipe packet) (pipe_tick s.ticked moment) (pipe_tick s.ticked moment) (λ p. refl) sub.pipes)) s.subports in
      λ i. record (seen_port packet s) { ticked = moment; subports = subports i }

  service_end-seen : (k : ℕ) (c : Course T) (g : Service T)
      → service_end itself k (seen_course packet c) (seen_service g) ≡ seen_course packet (service_end packet k c g)
  service_end-seen k c g =
      let subports = sym (map-set (seen_subport packet) c.port.subports k g.subport) in
      λ i. record { port = record (seen_port packet c.port) { time = g.time; subports = subports i }; room = g.room; sends = map (seen_send packet) g.sends }

  visit_in-seen : (k : ℕ) (c d : Course T) (found : Option (Subport T))
      → visit_in itself k (seen_course packet c) (seen_course packet d) (option_map (seen_subport packet) found) ≡ seen_course packet (visit_in packet k c d found)
  visit_in-seen k c d (Some s) =
      let g = service_start packet d s in
      ap (service_end itself k (seen_course packet d)) (next-seen c.port.overhead g) ∙ service_end-seen k d (visit_next packet (cost_with packet c.port.overhead) g)
  visit_in-seen k c d None = refl

  visit-seen : (k : ℕ) (c : Course T) → visit itself k (seen_course packet c) ≡ seen_course packet (visit packet k c)
  unfolding visit
  visit-seen k c =
      let d = stepped packet c in
      ap (λ port. visit_in itself k (seen_course packet c) (record (seen_course packet c) { port = port }) (slice_get port.subports k)) (tick-seen c.port.time c.port)
      ∙ ap (visit_in itself k (seen_course packet c) (seen_course packet d)) (slice_get-map (seen_subport packet) d.port.subports k)
      ∙ visit_in-seen k c d (slice_get d.port.subports k)

  active_count-seen : (found : Option (Subport T))
      → active_count itself (option_map (seen_subport packet) found) ≡ active_count packet found
  active_count-seen (Some s) = count-each s.pipes
  active_count-seen None = refl

  pipe_count-seen : (found : Option (Subport T)) → pipe_count itself (option_map (seen_subport packet) found) ≡ pipe_count packet found
  pipe_count-seen (Some s) = length-map s.pipes (seen_pipe packet)
  pipe_count-seen None = refl

  at-seen : (k : ℕ) (c : Course T) → subport_at itself k (seen_course packet c) ≡ option_map (seen_subport packet) (subport_at packet k c)
  at-seen k c = slice_get-map (seen_subport packet) c.port.subports k

  visits-seen : (most k misses : ℕ) (c : Course T)
      → visits itself most k misses (seen_course packet c) ≡ seen_course packet (visits packet most k misses c)
  unfolding visits
  visits-seen zero k misses c = refl
  visits-seen (suc most) k misses c =
      let next = visit packet k c in
      let missed : ℕ = cond (eqb next.room c.room) (misses + 1) 0 in
      let rest = visits packet most k missed next in
      let count = ap (active_count itself) (at-seen k c) ∙ active_count-seen (subport_at packet k c) in
      let over = eqb c.room 0 || leb (active_count packet (subport_at packet k c)) misses in
      let go : ℕ → Course Pkt → Course Pkt = λ n d. cond (eqb c.room 0 || leb n misses) (seen_course packet c) (visits itself most k (cond (eqb d.room c.room) (misses + 1) 0) d) in
      (λ i. go (count i) (visit-seen k c i))
      ∙ ap (cond over (seen_course packet c)) (visits-seen most k missed next)
      ∙ cond-through (seen_course packet) over c rest

  moved_on-seen : (k : ℕ) (c : Course T) → moved_on itself k (seen_course packet c) ≡ seen_course packet (moved_on packet k c)
  moved_on-seen k c =
      let count = length-map c.port.subports (seen_subport packet) in
      let moved : ℕ → Course Pkt = λ n. record (seen_course packet c) { port = record (seen_port packet c.port) { cursor = (k + 1) % n } } in
      ap (λ n. cond (eqb c.room 0) (moved n) (seen_course packet c)) count
      ∙ cond-through (seen_course packet) (eqb c.room 0) (record c { port = record c.port { cursor = (k + 1) % length c.port.subports } }) c

  turn-seen : (c : Course T) (k : ℕ) → turn_of itself (seen_course packet c) k ≡ seen_course packet (turn_of packet c k)
  turn-seen c k =
      let count = ap (pipe_count itself) (at-seen k c) ∙ pipe_count-seen (subport_at packet k c) in
      let most = (c.room + 1) * (pipe_count packet (subport_at packet k c) + 1) in
      let none : Course Pkt → Course Pkt = cond (eqb c.room 0) (seen_course packet c) in
      ap (λ n. none (moved_on itself k (visits itself ((c.room + 1) * (n + 1)) k 0 (seen_course packet c)))) count
      ∙ ap (λ d. none (moved_on itself k d)) (visits-seen most k 0 c)
      ∙ ap none (moved_on-seen k (visits packet most k 0 c))
      ∙ cond-through (seen_course packet) (eqb c.room 0) c (moved_on packet k (visits packet most k 0 c))

  pub dequeue-seen : (now room : ℕ) (s : Port T)
      → dequeue_port itself now room (seen_port packet s) ≡ seen_course packet (dequeue_port packet now room s)
  unfolding dequeue_port
  dequeue-seen now room s =
      let start = start_of packet now room s in
      let order : ℕ → List ℕ = λ n. map (λ ahead. (s.cursor + ahead) % n) (range_with_len 0 n) in
      ap (λ n. fold (turn_of itself) (seen_course packet start) (order n)) (length-map s.subports (seen_subport packet))
      ∙ fold-through (seen_course packet) (turn_of packet) (turn_of itself) turn-seen start (order (length s.subports))

  arrival-seen : (queue : ℕ) (t : T) (p : Pipe T)
      → with_arrival queue (packet t) (seen_pipe packet p) ≡ seen_pipe packet (with_arrival queue t p)
  arrival-seen queue t p =
      let waits = list_of queue p.queues in
      let longer = ap (λ ts. ts ++ packet t ∷ []) (list-seen packet queue p.queues) ∙ sym (map-append packet waits (t ∷ [])) in
      let lists = lists-seen packet queue p.queues (waits ++ t ∷ []) (list_of queue (seen_queues packet p.queues) ++ packet t ∷ []) longer in
      λ i. record (seen_pipe packet p) { queues = record { sizes = p.queues.sizes; lists = lists i } }

  after_arrival-seen : (t : T) (s : Port T)
      → after_arrival itself (packet t) (seen_port packet s) ≡ seen_port packet (after_arrival packet t s)
  after_arrival-seen t s =
      let p = packet t in
      let subports = at-through (seen_subport packet) (in_subport p.pipe (with_arrival p.queue t)) (in_subport p.pipe (with_arrival p.queue p))
      (λ sub. ap (λ ps. record (seen_subport packet sub) { pipes = ps }) (at-through (seen_pipe packet) (with_arrival p.queue t) (with_arrival p.queue p) (arrival-seen p.queue t) p.pipe sub.pipes))
      p.subport s.subports in
      λ i. record (seen_port packet s) { subports = subports i }

  under-seen : (pipe : ℕ) (found : Option (Subport T))
      → option_and_then (λ (s : Subport Pkt). slice_get s.pipes pipe) (option_map (seen_subport packet) found) ≡ option_map (seen_pipe packet) (option_and_then (λ s. slice_get s.pipes pipe) found)
  under-seen pipe (Some s) = slice_get-map (seen_pipe packet) s.pipes pipe
  under-seen pipe None = refl

  pipe_of-seen : (s : Port T) (subport pipe : ℕ)
      → pipe_of (seen_port packet s) subport pipe ≡ option_map (seen_pipe packet) (pipe_of s subport pipe)
  pipe_of-seen s subport pipe =
      ap (option_and_then (λ (sub : Subport Pkt). slice_get sub.pipes pipe)) (slice_get-map (seen_subport packet) s.subports subport) ∙ under-seen pipe (slice_get s.subports subport)

  full-seen : (queue : ℕ) (found : Option (Pipe T)) → is_full_at queue (option_map (seen_pipe packet) found) ≡ is_full_at queue found
  full-seen queue (Some p) = ap (λ n. eqb n (size_of queue p.queues)) (ap length (list-seen packet queue p.queues) ∙ length-map (list_of queue p.queues) packet)
  full-seen queue None = refl

  place-seen : (found : Option (Pipe T)) → is_some (option_map (seen_pipe packet) found) ≡ is_some found
  place-seen (Some p) = refl
  place-seen None = refl

  lists-left : (lists : List (List T)) → flat_map (λ (ts : List Pkt). ts) (map (map packet) lists) ≡ map packet (flat_map (λ ts. ts) lists)
  lists-left lists = flat-through (map packet) packet (λ ts. ts) (λ (ts : List Pkt). ts) (λ ts. refl) lists

  left-seen : (s : Port T) → left_of (seen_port packet s) ≡ map packet (left_of s)
  left-seen s =
      flat-through (seen_subport packet) packet left_in_subport left_in_subport
      (λ sub. flat-through (seen_pipe packet) packet left_in left_in (λ p. lists-left p.queues.lists) sub.pipes) s.subports

  pub packets-decide : (s : Port T) → PacketsDecide packet s
  packets-decide s = record {
    dequeue = λ now room. sym (dequeue-seen now room s);
    arrival = λ t. sym (after_arrival-seen t s);
    full = λ p. sym (ap (is_full_at p.queue) (pipe_of-seen s p.subport p.pipe) ∙ full-seen p.queue (pipe_of s p.subport p.pipe));
    place = λ p. sym (ap (λ found. leb p.wire s.mtu && ltb p.queue 16 && is_some found) (pipe_of-seen s p.subport p.pipe)
        ∙ ap (λ there. leb p.wire s.mtu && ltb p.queue 16 && there) (place-seen (pipe_of s p.subport p.pipe)));
    left = sym (left-seen s);
  }
