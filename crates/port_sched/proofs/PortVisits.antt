-- A visit in a subport, once every bucket is stepped.
use Rattle.std.proofs.Common.{◌≡◌, ◌<◌, ℕ, List, length, get_or, set, map, refl, sym, ap, ◌∙◌, subst, arith}
use Rattle.std.specs.Prelude.{Option, Some, None, option_map, slice_get}
use Rattle.std.proofs.lemmas.List.{length-map, length-set, get_or-set_same, map-set}
use Rattle.std.proofs.lemmas.Option.{slice_get-map, slice_get_read}
use Rattle.qos_base.specs.declared.packet.Pkt.{Pkt}
use Rattle.active_bitmap.specs.NextActive.{next_active}
use Rattle.port_sched.specs.Subport.{Subport, active}
use Rattle.port_sched.specs.Port.{Port, pipe_tick, subport_tick, tick}
use Rattle.port_sched.specs.declared.subport.SubportBooks.{SubportBooks}
use Rattle.port_sched.specs.Books.{pipe_up_to, subport_up_to}
use Rattle.port_sched.specs.Visit.{Service, visit_pipe}
use Rattle.port_sched.specs.PortDequeue.{Course, cost_with, service_start, service_end, visit, pipe_count}

module _ {T : Type 0} (packet : T → Pkt) (k : ℕ) (c : Course T) where
  -- the course at a port whose buckets are stepped
  abbrev pub at_port : Port T → Course T
  at_port port = record c { port = port }

  visit-none-here : (s : Subport T) → slice_get (tick c.port.time c.port).subports k ≡ Some s → next_active s.cursor (active s) ≡ None
      → visit packet k c ≡ service_end packet k (at_port (tick c.port.time c.port))
      (service_start packet (at_port (tick c.port.time c.port)) s)
  unfolding visit
  visit-none-here s there none = rw (there, none)

  visit-some-here : (s : Subport T) (q : ℕ) → slice_get (tick c.port.time c.port).subports k ≡ Some s
      → next_active s.cursor (active s) ≡ Some q
      → visit packet k c ≡ service_end packet k (at_port (tick c.port.time c.port))
      (visit_pipe (cost_with packet c.port.overhead) q (service_start packet (at_port (tick c.port.time c.port)) s))
  unfolding visit
  visit-some-here s q there found = rw (there, found)

  module _ (port : Port T) (is : port ≡ tick c.port.time c.port) (s : Subport T) (there : slice_get port.subports k ≡ Some s) where
    -- no pipe has a packet: only the buckets are stepped
    pub visit-none : next_active s.cursor (active s) ≡ None
        → visit packet k c ≡ service_end packet k (at_port port) (service_start packet (at_port port) s)
    visit-none none =
        let P : Port T → Type 0 =
        λ v. slice_get v.subports k ≡ Some s → visit packet k c ≡ service_end packet k (at_port v)
        (service_start packet (at_port v) s) in
        subst P (sym is) (λ at. visit-none-here s at none) there

    -- else the next pipe is visited
    pub visit-some : (q : ℕ) → next_active s.cursor (active s) ≡ Some q
        → visit packet k c ≡ service_end packet k (at_port port) (visit_pipe (cost_with packet port.overhead) q
        (service_start packet (at_port port) s))
    visit-some q found =
        let P : Port T → Type 0 =
        λ v. slice_get v.subports k ≡ Some s → visit packet k c ≡ service_end packet k (at_port v)
        (visit_pipe (cost_with packet v.overhead) q (service_start packet (at_port v) s)) in
        subst P (sym is) (λ at. visit-some-here s q at found) there

module _ {T : Type 0} (moment : ℕ) (items : List (SubportBooks T)) (k : ℕ) (s : SubportBooks T) (within : k < length items) (is : s ≡ get_or items k s)
  where
    pub subport-there : slice_get (map (subport_up_to moment) items) k ≡ Some (subport_up_to moment s)
    subport-there = slice_get-map (subport_up_to moment) items k ∙ ap (option_map (subport_up_to moment)) (slice_get_read items (length items) k s refl within is)

    module _ (packet : T → Pkt) where
      -- no pipe has a packet: the course is that of the visit
      pub visited-none : (c : Course T) (view : Port T) → view ≡ tick c.port.time c.port → view.subports ≡ map (subport_up_to moment) items
          → next_active s.cursor (active (subport_up_to moment s)) ≡ None
          → record c { port = record view { subports = map (subport_up_to moment) (set items k s) } } ≡ visit packet k c
      visited-none c view ticked seen none =
          ap (λ ss. let now : Course T = record c { port = record view { subports = ss } } in now)
          (map-set (subport_up_to moment) items k s ∙ ap (λ ss. set ss k (subport_up_to moment s)) (sym seen))
          ∙ sym (visit-none packet k c view ticked (subport_up_to moment s) (ap (λ ss. slice_get ss k) seen ∙ subport-there) none)

      -- a pipe was visited, and `g` is what the subport came to
      pub visited-some : (c : Course T) (view : Port T) → view ≡ tick c.port.time c.port → view.subports ≡ map (subport_up_to moment) items → (q : ℕ)
          → next_active s.cursor (active (subport_up_to moment s)) ≡ Some q → (new : SubportBooks T) (g : Service T) → g.subport ≡ subport_up_to moment new
          → g ≡ visit_pipe (cost_with packet view.overhead) q (service_start packet (at_port packet k c view) (subport_up_to moment s))
          → record { port = record view { time = g.time; subports = map (subport_up_to moment) (set items k new) }; room = g.room; sends = g.sends } ≡
          visit packet k c
      visited-some c view ticked seen q found new g came exact =
          ap (λ ss. let now : Course T = record { port = record view { time = g.time; subports = ss }; room = g.room; sends = g.sends } in
          now)
          (map-set (subport_up_to moment) items k new ∙ ap (λ ss. set ss k (subport_up_to moment new)) (sym seen) ∙ ap (set view.subports k) (sym came))
          ∙ ap (service_end packet k (at_port packet k c view)) exact
          ∙ sym (visit-some packet k c view ticked (subport_up_to moment s) (ap (λ ss. slice_get ss k) seen ∙ subport-there) q found)

      pipe_count-tick : (from to : ℕ) (o : Option (Subport T))
          → pipe_count packet (option_map (subport_tick from to) o) ≡ pipe_count packet o
      pipe_count-tick from to None = refl
      pipe_count-tick from to (Some x) = length-map x.pipes (pipe_tick from to)

      -- a subport has as many pipes as before where the one at its place has
      pub pipe_count-kept : (port view : Port T) (new : SubportBooks T) → view ≡ tick port.time port → view.subports ≡ map (subport_up_to moment) items
          → length new.pipes.items ≡ length s.pipes.items
          → pipe_count packet (slice_get (map (subport_up_to moment) (set items k new)) k) ≡ pipe_count packet (slice_get port.subports k)
      pipe_count-kept port view new ticked seen same =
          let here : slice_get (set items k new) k ≡ Some new =
          slice_get_read (set items k new) (length items) k new (sym (length-set items k new)) within
          (sym (get_or-set_same items k new new within)) in
          ap (pipe_count packet) (slice_get-map (subport_up_to moment) (set items k new) k ∙ ap (option_map (subport_up_to moment)) here)
          ∙ length-map new.pipes.items (pipe_up_to moment) ∙ same ∙ sym (length-map s.pipes.items (pipe_up_to moment))
          ∙ ap (pipe_count packet) (sym subport-there)
          ∙ ap (λ xs. pipe_count packet (slice_get xs k)) (sym seen)
          ∙ ap (λ (p : Port T). pipe_count packet (slice_get p.subports k)) ticked
          ∙ ap (pipe_count packet) (slice_get-map (subport_tick port.ticked port.time) port.subports k)
          ∙ pipe_count-tick port.ticked port.time (slice_get port.subports k)

-- a place among a port's subports is one among those of the code
pub place-within : {T : Type 0} (moment : ℕ) (items : List (SubportBooks T)) (k : ℕ) (port view : Port T) → view ≡ tick port.time port
    → view.subports ≡ map (subport_up_to moment) items → k < length port.subports → k < length items
place-within moment items k port view ticked seen within =
    let all : length view.subports ≡ length port.subports =
    ap (λ p. length p.subports) ticked ∙ length-map port.subports (subport_tick port.ticked port.time) in
    omega (arith, ap length seen, length-map items (subport_up_to moment))
