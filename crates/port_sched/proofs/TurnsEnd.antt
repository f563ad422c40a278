-- The number that bounds the visits of a turn cuts none off.
use Rattle.std.proofs.Common.{◌≡◌, ◌<◌, ◌≤◌, ℕ, zero, suc, ◌+◌, List, [], ◌∷◌, length, get_or, set, map, eqb, cond, refl, sym, ap, ◌∙◌, subst, inl, inr, arith}
use Rattle.std.specs.Prelude.{Option, Some, None, option_map, slice_get}
use Rattle.std.proofs.Math.Seq.{map-set_same}
use Rattle.std.proofs.lemmas.Bool.{cases_lt}
use Rattle.std.proofs.lemmas.List.{length-map, length-set}
use Rattle.std.proofs.lemmas.Option.{slice_get-map, get_or_from_slice_get}
use Rattle.qos_base.specs.declared.packet.Pkt.{Pkt}
use Rattle.port_sched.specs.Pipe.{Pipe}
use Rattle.port_sched.specs.Subport.{Subport}
use Rattle.port_sched.specs.Port.{pipe_tick, subport_tick}
use Rattle.port_sched.specs.Classes.{Visit, classes_turn}
use Rattle.port_sched.specs.Visit.{visit_start}
use Rattle.port_sched.specs.PortDequeue.{Course, cost_with, subport_at, service_start, visit, visits, active_count, pipe_count}
use Rattle.port_sched.specs.TurnLaws.{most_visits, TurnsEnd}
use Rattle.port_sched.proofs.Along.{Joins, HoldsOfSteps, classes-along, visited, visit-along}
use Rattle.port_sched.proofs.PortTurns.{left_over, left_over-falls, active-within, visits-more, visits-over}

-- how many pipes each subport has
abbrev pipes_of : {T : Type 0} → List (Subport T) → List ℕ
pipes_of subports = map (λ s. length s.pipes) subports

pipes_of-tick : {T : Type 0} (from to : ℕ) (subports : List (Subport T))
    → pipes_of (map (subport_tick from to) subports) ≡ pipes_of subports
pipes_of-tick from to [] = refl
pipes_of-tick from to (s ∷ rest) =
    ap (λ n. n ∷ pipes_of (map (subport_tick from to) rest)) (length-map s.pipes (pipe_tick from to))
    ∙ ap (λ ns. length s.pipes ∷ ns) (pipes_of-tick from to rest)

abbrev or_none : Option ℕ → ℕ
or_none (Some n) = n
or_none None = 0

-- a visit's classes make no room
module _ {T : Type 0} (cost : T → ℕ) where
  abbrev NoRoom : Visit T → Visit T → Type 0
  NoRoom v w = w.room ≤ v.room

  no_room : Joins NoRoom
  no_room = record { none = λ v. omega arith; joined = λ u v w one two. omega (arith, one, two) }

  classes-room : (v : Visit T) → (classes_turn cost v).room ≤ v.room
  classes-room v = classes-along cost NoRoom no_room (λ u class. omega arith) (λ u. omega arith) v

module _ {T : Type 0} (packet : T → Pkt) where
  -- no step makes room, and none changes how many pipes there are
  record NoMore (c d : Course T) : Type 0 where
    pub room : d.room ≤ c.room
    pub pipes : pipes_of d.port.subports ≡ pipes_of c.port.subports

  joins : Joins NoMore
  joins = record {
    none = λ c. record { room = omega arith; pipes = refl };
    joined = λ a b c one two.
        let low = one.room in
        let lower = two.room in
        record { room = omega arith; pipes = two.pipes ∙ one.pipes };
  }

  after_visit : (k q : ℕ) (c : Course T) (s : Subport T) (p : Pipe T) → slice_get c.port.subports k ≡ Some s
      → NoMore c (visited packet k q c s p)
  after_visit k q c s p there =
      let end = classes_turn (cost_with packet c.port.overhead) (visit_start (service_start packet c s) p) in
      let same : length (set s.pipes q end.pipe) ≡ length (get_or c.port.subports k s).pipes =
      length-set s.pipes q end.pipe
      ∙ ap (λ (x : Subport T). length x.pipes) (sym (get_or_from_slice_get c.port.subports k s s there)) in
      record {
        room = classes-room (cost_with packet c.port.overhead) (visit_start (service_start packet c s) p);
        pipes = map-set_same (λ (x : Subport T). length x.pipes) c.port.subports k _ s same;
      }

  no_more : HoldsOfSteps packet NoMore
  no_more = record {
    along = joins;
    ticked = λ c. record { room = omega arith; pipes = pipes_of-tick c.port.ticked c.port.time c.port.subports };
    moved = λ c k. record { room = omega arith; pipes = refl };
    served = λ k q c s p there next found. after_visit k q c s p there;
  }

  counted : (o : Option (Subport T)) → pipe_count packet o ≡ or_none (option_map (λ s. length s.pipes) o)
  counted None = refl
  counted (Some s) = refl

  pipe_count-same : (k : ℕ) (c d : Course T) → NoMore c d
      → pipe_count packet (subport_at packet k d) ≡ pipe_count packet (subport_at packet k c)
  pipe_count-same k c d kept =
      counted (slice_get d.port.subports k) ∙ ap or_none (sym (slice_get-map (λ s. length s.pipes) d.port.subports k))
      ∙ ap (λ ns. or_none (slice_get ns k)) kept.pipes
      ∙ ap or_none (slice_get-map (λ s. length s.pipes) c.port.subports k) ∙ sym (counted (slice_get c.port.subports k))

  module _ (k : ℕ) where
    abbrev needed : ℕ → Course T → ℕ
    needed misses c = left_over (pipe_count packet (subport_at packet k c)) c.room misses

    -- two numbers of visits that are both enough
    settles : (most more misses : ℕ) (c : Course T) → needed misses c ≤ most → needed misses c ≤ more
        → visits packet most k misses c ≡ visits packet more k misses c
    settles zero more misses c enough too =
        let none : c.room ≡ 0 = omega arith in
        visits-over packet k zero misses c (inl none) ∙ sym (visits-over packet k more misses c (inl none))
    settles (suc most) zero misses c enough too =
        let none : c.room ≡ 0 = omega arith in
        visits-over packet k (suc most) misses c (inl none) ∙ sym (visits-over packet k zero misses c (inl none))
    settles (suc most) (suc more) misses c enough too =
        elim (cases_lt 0 c.room) [
          | inr none ↦
              let over : c.room ≡ 0 = omega arith in
              visits-over packet k (suc most) misses c (inl over) ∙ sym (visits-over packet k (suc more) misses c (inl over))
          | inl some ↦
              elim (cases_lt misses (active_count packet (subport_at packet k c))) [
                | inr over ↦ visits-over packet k (suc most) misses c (inr over)
                    ∙ sym (visits-over packet k (suc more) misses c (inr over))
                | inl few ↦
                    let next = visit packet k c in
                    let later : ℕ = cond (eqb next.room c.room) (misses + 1) 0 in
                    let kept = visit-along packet NoMore no_more k c in
                    let falls =
                    left_over-falls (pipe_count packet (subport_at packet k c)) (active_count packet (subport_at packet k c)) c.room
                    next.room misses later some few (active-within packet (subport_at packet k c)) kept.room refl in
                    let less : needed later next < needed misses c =
                    subst (λ n. left_over n next.room later < needed misses c) (sym (pipe_count-same k c next kept)) falls in
                    visits-more packet k most misses c some few ∙ settles most more later next (omega arith) (omega arith)
                    ∙ sym (visits-more packet k more misses c some few)
              ]
        ]

  pub turns_end : TurnsEnd packet
  turns_end k more c = settles k (most_visits packet k c + more) (most_visits packet k c) 0 c (omega arith) (omega arith)
