-- What one dequeue of a port sends: visits of pipes, in turns of subports.
use Rattle.std.specs.Prelude.{ℕ, zero, suc, ◌+◌, ◌*◌, ◌%◌, ◌==◌, ◌||◌, nat_le, max, if◌then◌else◌}
use Rattle.std.specs.Prelude.{List, [], length, map, fold, count_by, slice_get, slice_set, Option, None, Some}
use Rattle.std.specs.List.{range_with_len}
use Rattle.qos_base.specs.declared.packet.Pkt.{Pkt}
use Rattle.qos_base.specs.declared.packet.Departure.{Departure}
use Rattle.active_bitmap.specs.NextActive.{next_active}
use Rattle.port_sched.specs.Pipe.{has_packet}
use Rattle.port_sched.specs.Subport.{Subport, active}
use Rattle.port_sched.specs.Port.{Port, tick}
use Rattle.port_sched.specs.Visit.{Service, visit_pipe}

-- how far a dequeue has come: where the port stands, how many packets may still be sent, and those that were
pub record Course (T : Type 0) : Type 0 where
  pub port : Port T
  pub room : ℕ
  pub sends : List (Departure T)

-- `packet` is the packet that a T carries.
module _ {T : Type 0} (packet : T → Pkt) where
  -- what a packet costs on a line that takes so many bytes beside its own, in byte times
  abbrev pub cost_with : ℕ → T → ℕ
  cost_with overhead t = (packet t).wire + overhead

  abbrev pub subport_at : ℕ → Course T → Option (Subport T)
  subport_at k c = slice_get c.port.subports k

  -- subport k takes part in the dequeue, and goes back to its place
  abbrev pub service_start : Course T → Subport T → Service T
  service_start c s = record { subport = s; time = c.port.time; room = c.room; sends = c.sends }

  abbrev pub service_end : ℕ → Course T → Service T → Course T
  service_end k c g = record {
    port = record c.port { time = g.time; subports = slice_set c.port.subports k g.subport };
    room = g.room;
    sends = g.sends;
  }

  -- the next pipe with a packet, from the cursor on, is visited
  abbrev pub visit_next : (T → ℕ) → Service T → Service T
  visit_next cost g = visit_that (next_active g.subport.cursor (active g.subport))
    where
      visit_that : Option ℕ → Service T
      visit_that (Some q) = visit_pipe cost q g
      visit_that None = g

  -- A visit in subport k: every bucket of the port is stepped up to port time, and the next pipe is served.
  unfoldable pub visit : ℕ → Course T → Course T
  visit k c = visit_in (slice_get stepped.port.subports k)
    where
      stepped : Course T
      stepped = record c { port = tick c.port.time c.port }

      visit_in : Option (Subport T) → Course T
      visit_in (Some s) = service_end k stepped (visit_next (cost_with c.port.overhead) (service_start stepped s))
      visit_in None = c

  -- how many pipes of a subport have a packet
  abbrev pub active_count : Option (Subport T) → ℕ
  active_count (Some s) = count_by has_packet s.pipes
  active_count None = 0

  abbrev pub pipe_count : Option (Subport T) → ℕ
  pipe_count (Some s) = length s.pipes
  pipe_count None = 0

  -- Visits of subport k, until the room is used up or as many in a row have sent nothing as pipes have a packet. Each visit
  -- sends something or is one more of those, so a number of them bounds all.
  unfoldable pub visits : ℕ → ℕ → ℕ → Course T → Course T
  visits zero k misses c = c
  visits (suc most) k misses c =
      if (c.room == 0) || nat_le (active_count (subport_at k c)) misses then c
      else
      let next = visit k c in
      visits most k (if next.room == c.room then misses + 1 else 0) next

  -- where a turn used up the room, the next dequeue begins with the subport after it
  abbrev pub moved_on : ℕ → Course T → Course T
  moved_on k c =
      if c.room == 0 then record c { port = record c.port { cursor = (k + 1) % length c.port.subports } } else c

  -- the turn of subport k, if room is left for it
  abbrev pub turn_of : Course T → ℕ → Course T
  turn_of c k =
      if c.room == 0 then c else moved_on k (visits ((c.room + 1) * (pipe_count (subport_at k c) + 1)) k 0 c)

  -- the subports in cyclic order from the cursor
  abbrev pub in_order : Port T → List ℕ
  in_order port = map (λ ahead. (port.cursor + ahead) % length port.subports) (range_with_len 0 (length port.subports))

  -- A dequeue at `now`: port time becomes the later of itself and `now`, and each subport has a turn while room is left.
  unfoldable pub dequeue_port : ℕ → ℕ → Port T → Course T
  dequeue_port now room port =
      fold turn_of (record { port = record port { time = max port.time now }; room = room; sends = [] }) (in_order port)
