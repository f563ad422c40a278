-- Only pipes with a packet are visited, and none where nothing is to be sent.
use Rattle.std.proofs.Common.{◌≡◌, ◌<◌, ◌⊎◌, inl, inr, ⊎_elim, ℕ, zero, suc, ◌+◌, ◌*◌, ◌%◌, ◌||◌, Bool, true, false, cond, eqb, leb, not, List, [], ◌∷◌, Option, Some, None, length, refl, sym, ap, ◌∙◌, subst, set, length-append, arith}
use Rattle.std.specs.Prelude.{option_and_then, option_map}
use Rattle.std.specs.List.{fold, slice_get, flat_map, list_any}
use Rattle.std.proofs.lemmas.List.{length-map, get_or-map}
use Rattle.std.proofs.lemmas.Option.{get_or_from_slice_get, slice_get_within, slice_get-map}
use Rattle.std.proofs.lemmas.List.Elements.{All-get_or}
use Rattle.qos_base.specs.declared.packet.Pkt.{Pkt}
use Rattle.active_bitmap.specs.NextActive.{next_active}
use Rattle.active_bitmap.specs.Laws.{NextIsNearest}
use Rattle.port_sched.specs.Pipe.{Pipe, has_packet}
use Rattle.queue_store.specs.Queues.{is_filled}
use Rattle.port_sched.specs.Subport.{Subport, active}
use Rattle.port_sched.specs.Port.{Port, left_in, left_in_subport, queued, pipe_of, pipe_tick, subport_tick}
use Rattle.port_sched.specs.Renewal.{subport_renewed}
use Rattle.port_sched.specs.Classes.{classes_turn}
use Rattle.port_sched.specs.Visit.{cursor_after, visit_start}
use Rattle.port_sched.specs.PortDequeue.{Course, cost_with, service_start, subport_at, active_count, pipe_count, visit, visits, moved_on, turn_of, in_order, dequeue_port}
use Rattle.port_sched.specs.Settings.{IsSubportWithin, IsPortWithin}
use Rattle.port_sched.specs.Idle.{but_credits, IsLeftAlone, LeavesIdle, LeavesAlone}
use Rattle.port_sched.proofs.Along.{Joins, HoldsOfSteps, visited, start_of, dequeue-along}
use Rattle.port_sched.proofs.Within.{within-holds, start-within}

-- an element that is set leaves the others
set-other : {X : Type 0} (xs : List X) (i j : ℕ) (y : X) → (j ≡ i) ⊎ (slice_get (set xs i y) j ≡ slice_get xs j)
set-other [] i j y = inr refl
set-other (x ∷ xs) zero zero y = inl refl
set-other (x ∷ xs) zero (suc j) y = inr refl
set-other (x ∷ xs) (suc i) zero y = inr refl
set-other (x ∷ xs) (suc i) (suc j) y = ⊎_elim (λ (same : j ≡ i). inl (ap suc same)) (λ (kept : slice_get (set xs i y) j ≡ slice_get xs j). inr kept) (set-other xs i j y)

set-found : {X : Type 0} (xs : List X) (i : ℕ) (old y : X) → slice_get xs i ≡ Some old → slice_get (set xs i y) i ≡ Some y
set-found [] i old y there = let within = slice_get_within [] i old there in absurd (omega arith)
set-found (x ∷ xs) zero old y there = refl
set-found (x ∷ xs) (suc i) old y there = set-found xs i old y there

module _ {T : Type 0} where
  same-alone : (p : Pipe T) (found : Option (Pipe T)) → found ≡ Some p → IsLeftAlone p found
  same-alone p found is = subst (IsLeftAlone p) (sym is) refl

  -- the pipe of a number under the subport that is found
  abbrev under : ℕ → Option (Subport T) → Option (Pipe T)
  under pipe found = option_and_then (λ s. slice_get s.pipes pipe) found

  alone-on : (p q : Pipe T) (after : Option (Pipe T)) → but_credits q ≡ but_credits p → IsLeftAlone q after → IsLeftAlone p after
  alone-on p q (Some r) same alone = alone ∙ same
  alone-on p q None same alone = absurd (alone)

  both-alone : (p : Pipe T) (to : Option (Pipe T)) (after : Option (Pipe T)) → IsLeftAlone p to → has_packet p ≡ false
      → ((q : Pipe T) → to ≡ Some q → has_packet q ≡ false → IsLeftAlone q after) → IsLeftAlone p after
  both-alone p (Some q) after one idle two = alone-on p q after one (two q refl (ap (λ (x : Pipe T). has_packet x) one ∙ idle))
  both-alone p None after one idle two = absurd (one)

  tick-under : (from to pipe : ℕ) (found : Option (Subport T))
      → under pipe (option_map (subport_tick from to) found) ≡ option_map (pipe_tick from to) (under pipe found)
  tick-under from to pipe (Some s) = slice_get-map (pipe_tick from to) s.pipes pipe
  tick-under from to pipe None = refl

  ticked-alone : (from to : ℕ) (p : Pipe T) (found : Option (Pipe T)) → found ≡ Some p
      → IsLeftAlone p (option_map (pipe_tick from to) found)
  ticked-alone from to p found is = subst (λ o. IsLeftAlone p (option_map (pipe_tick from to) o)) (sym is) refl

  -- the pipe that is found next has a packet
  next-has : NextIsNearest → (s : Subport T) (q : ℕ) (p : Pipe T) → s.cursor < length s.pipes
      → next_active s.cursor (active s) ≡ Some q → slice_get s.pipes q ≡ Some p → has_packet p ≡ true
  next-has nearest s q p cursor next found =
      let count = length-map s.pipes (λ (x : Pipe T). has_packet x) in
      let is = nearest (active s) s.cursor q (omega (arith, count, cursor)) next in
      ap (λ (x : Pipe T). has_packet x) (sym (get_or_from_slice_get s.pipes q p p found))
      ∙ sym (get_or-map (λ (x : Pipe T). has_packet x) s.pipes q p false (slice_get_within s.pipes q p found)) ∙ is.set_itself

  same-pipe : (pipes : List (Pipe T)) (q r : ℕ) (p own : Pipe T) → r ≡ q → slice_get pipes q ≡ Some own → slice_get pipes r ≡ Some p
      → own ≡ p
  same-pipe pipes q r p own same own-is p-is =
      let one : Some own ≡ Some p = sym own-is ∙ ap (slice_get pipes) (sym same) ∙ p-is in
      cc

  -- where a pipe with a packet is set, an idle one is as it was
  set-alone : (subports : List (Subport T)) (k q j r : ℕ) (s after : Subport T) (own end p : Pipe T) → slice_get subports k ≡ Some s
      → slice_get s.pipes q ≡ Some own → has_packet own ≡ true → after.pipes ≡ set s.pipes q end
      → under r (slice_get subports j) ≡ Some p → has_packet p ≡ false
      → IsLeftAlone p (under r (slice_get (set subports k after) j))
  set-alone subports k q j r s after own end p subport pipe busy pipes is idle =
      ⊎_elim
      (λ (here : j ≡ k).
      let found : slice_get s.pipes r ≡ Some p = sym (ap (under r) (ap (slice_get subports) here ∙ subport)) ∙ is in
      let then : under r (slice_get (set subports k after) j) ≡ slice_get (set s.pipes q end) r =
      ap (under r) (ap (slice_get (set subports k after)) here ∙ set-found subports k s after subport) ∙ ap (λ ps. slice_get ps r) pipes in
      ⊎_elim
      (λ (same : r ≡ q).
      let both : true ≡ false = sym busy ∙ ap (λ (x : Pipe T). has_packet x) (same-pipe s.pipes q r p own same pipe found) ∙ idle in
      absurd (cc))
      (λ (kept : slice_get (set s.pipes q end) r ≡ slice_get s.pipes r). same-alone p (under r (slice_get (set subports k after) j)) (then ∙ kept ∙ found))
      (set-other s.pipes q r end))
      (λ (kept : slice_get (set subports k after) j ≡ slice_get subports j). same-alone p (under r (slice_get (set subports k after) j)) (ap (under r) kept ∙ is))
      (set-other subports k j after)

module _ {T : Type 0} (packet : T → Pkt) (nearest : NextIsNearest) where
  -- a port within its bounds stays so, and its idle pipes are left alone
  record IsAlone (c d : Course T) : Type 0 where
    within : IsPortWithin d.port
    idle : LeavesIdle c.port d.port

  alone-along : Joins (λ (c d : Course T). IsPortWithin c.port → IsAlone c d)
  alone-along = record {
    none = λ c within. record { within = within; idle = λ k q p is idle. same-alone p (pipe_of c.port k q) is };
    joined = λ a b c one two within.
        let first = one within in
        let then = two first.within in
        record {
          within = then.within;
          idle = λ k q p is idle. both-alone p (pipe_of b.port k q) (pipe_of c.port k q) (first.idle k q p is idle) idle (λ r found still. then.idle k q r found still);
        };
  }

  visited-alone : (k q : ℕ) (c : Course T) (s : Subport T) (own : Pipe T) → slice_get c.port.subports k ≡ Some s
      → next_active s.cursor (active s) ≡ Some q → slice_get s.pipes q ≡ Some own → IsPortWithin c.port
      → LeavesIdle c.port (visited packet k q c s own).port
  visited-alone k q c s own subport next pipe within j r p is idle =
      let end = classes_turn (cost_with packet c.port.overhead) (visit_start (service_start packet c s) own) in
      let after : Subport T = record (subport_renewed c.port.time s) { level = end.subport; cursor = cursor_after q (length s.pipes) end.room; pipes = set s.pipes q end.pipe } in
      let bounds : IsSubportWithin s = subst IsSubportWithin (get_or_from_slice_get c.port.subports k s s subport)
      (All-get_or IsSubportWithin c.port.subports k s (slice_get_within c.port.subports k s subport) within.subports) in
      set-alone c.port.subports k q j r s after own end.pipe p subport pipe (next-has nearest s q own bounds.cursor next pipe) refl is idle

  alone-holds : HoldsOfSteps packet (λ c d. IsPortWithin c.port → IsAlone c d)
  alone-holds = record {
    along = alone-along;
    ticked = λ c within. record {
      within = (within-holds packet).ticked c within;
      idle = λ k q p is idle.
          subst (IsLeftAlone p) (sym (ap (under q) (slice_get-map (subport_tick c.port.ticked c.port.time) c.port.subports k) ∙ tick-under c.port.ticked c.port.time q (slice_get c.port.subports k)))
          (ticked-alone c.port.ticked c.port.time p (pipe_of c.port k q) is);
    };
    moved = λ c k within. record { within = (within-holds packet).moved c k within; idle = λ j q p is idle. same-alone p (pipe_of c.port j q) is };
    served = λ k q c s p subport next pipe within. record {
      within = (within-holds packet).served k q c s p subport next pipe within;
      idle = visited-alone k q c s p subport next pipe within;
    };
  }

  pipes-alone : (now room : ℕ) (s : Port T) → IsPortWithin s → LeavesIdle s (dequeue_port packet now room s).port
  pipes-alone now room s within =
      let alone = dequeue-along packet (λ c d. IsPortWithin c.port → IsAlone c d) alone-holds now room s (start-within packet now s within) in
      alone.idle

or-true : (b : Bool) → (b || true) ≡ true
or-true true = refl
or-true false = refl

cond-twice : {X : Type 0} (b : Bool) (x y : X) → cond b x (cond b y x) ≡ x
cond-twice true x y = refl
cond-twice false x y = refl

fold-fixed : {X A : Type 0} (step : X → A → X) (x : X) → ((a : A) → step x a ≡ x) → (items : List A) → fold step x items ≡ x
fold-fixed step x same [] = refl
fold-fixed step x same (a ∷ items) = ap (λ y. fold step y items) (same a) ∙ fold-fixed step x same items

part-none : {A X : Type 0} (f : A → List X) (parts : List A) (k : ℕ) (part : A) → length (flat_map f parts) ≡ 0
    → slice_get parts k ≡ Some part → length (f part) ≡ 0
part-none f [] k part none there = let within = slice_get_within [] k part there in absurd (omega arith)
part-none f (x ∷ parts) zero part none there =
    let same : part ≡ x = cc in
    let count = length-append (f x) (flat_map f parts) in
    ap (λ y. length (f y)) same ∙ omega (arith, count, none)
part-none f (x ∷ parts) (suc k) part none there =
    let count = length-append (f x) (flat_map f parts) in
    part-none f parts k part (omega (arith, count, none)) there

module _ {T : Type 0} where
  none-filled : (lists : List (List T)) → length (flat_map (λ ts. ts) lists) ≡ 0 → list_any is_filled lists ≡ false
  none-filled [] none = refl
  none-filled (ts ∷ lists) none =
      let count = length-append ts (flat_map (λ us. us) lists) in
      let first : length ts ≡ 0 = omega (arith, count, none) in
      let rest = none-filled lists (omega (arith, count, none)) in
      λ i. not (eqb (first i) 0) || rest i

  none-active : (pipes : List (Pipe T)) (n : ℕ) → length (flat_map left_in pipes) ≡ 0
      → fold (λ a p. a + cond (has_packet p) 1 0) n pipes ≡ n
  none-active [] n none = refl
  none-active (p ∷ pipes) n none =
      let count = length-append (left_in p) (flat_map left_in pipes) in
      let idle = none-filled p.queues.lists (omega (arith, count, none)) in
      let same : n + 0 ≡ n = omega arith in
      ap (λ m. fold (λ a q. a + cond (has_packet q) 1 0) m pipes) (ap (λ b. n + cond b 1 0) idle ∙ same) ∙ none-active pipes n (omega (arith, count, none))

module _ {T : Type 0} (packet : T → Pkt) where
  none-counted : (c : Course T) (k : ℕ) → queued c.port ≡ 0 → (found : Option (Subport T)) → subport_at packet k c ≡ found
      → active_count packet found ≡ 0
  none-counted c k none (Some s) is = none-active s.pipes 0 (part-none left_in_subport c.port.subports k s none is)
  none-counted c k none None is = refl

  no-visits : (most k : ℕ) (c : Course T) → queued c.port ≡ 0 → visits packet most k 0 c ≡ c
  unfolding visits
  no-visits zero k c none = refl
  no-visits (suc most) k c none =
      let next = visit packet k c in
      let rest = visits packet most k (cond (eqb next.room c.room) 1 0) next in
      ap (λ n. cond (eqb c.room 0 || leb n 0) c rest) (none-counted c k none (subport_at packet k c) refl) ∙ ap (λ b. cond b c rest) (or-true (eqb c.room 0))

  no-turn : (c : Course T) (k : ℕ) → (c.room ≡ 0) ⊎ (queued c.port ≡ 0) → turn_of packet c k ≡ c
  no-turn c k idle =
      let most = (c.room + 1) * (pipe_count packet (subport_at packet k c) + 1) in
      let moved : Course T = record c { port = record c.port { cursor = (k + 1) % length c.port.subports } } in
      ⊎_elim
      (λ (full : c.room ≡ 0). ap (λ n. cond (eqb n 0) c (moved_on packet k (visits packet most k 0 c))) full)
      (λ (none : queued c.port ≡ 0).
      ap (λ d. cond (eqb c.room 0) c (moved_on packet k d)) (no-visits most k c none) ∙ cond-twice (eqb c.room 0) c moved)
      idle

  nothing-sent : (now room : ℕ) (s : Port T) → (room ≡ 0) ⊎ (queued s ≡ 0) → dequeue_port packet now room s ≡ start_of packet now room s
  unfolding dequeue_port
  nothing-sent now room s idle =
      let start = start_of packet now room s in
      fold-fixed (turn_of packet) start (λ k. no-turn start k idle) (in_order packet start.port)

  pub leaves-alone : NextIsNearest → (now room : ℕ) (s : Port T) → LeavesAlone packet now room s
  leaves-alone nearest now room s = record { pipes = pipes-alone packet nearest now room s; port = nothing-sent now room s }
