-- How many visits a dequeue makes, which bounds its steps: no number of pipes enters, but of those that it visits.
use Rattle.std.specs.Prelude.{ℕ, zero, suc, ◌+◌, ◌*◌, ◌==◌, ◌||◌, nat_le, max, if◌then◌else◌, List, [], ◌∷◌}
use Rattle.qos_base.specs.declared.packet.Pkt.{Pkt}
use Rattle.active_bitmap.specs.declared.bitmap.TheConstants.{MAX_PROBES}
use Rattle.port_sched.specs.Port.{Port}
use Rattle.port_sched.specs.PortDequeue.{Course, subport_at, active_count, pipe_count, in_order, visit, turn_of}

-- the most steps of a visit: it brings two buckets up to date, may renew two levels' classes, and looks for the pipe
abbrev pub visit_steps : ℕ
visit_steps = 4 + MAX_PROBES

module _ {T : Type 0} (packet : T → Pkt) where
  -- the visits of subport k in a turn, where so many may follow and so many in a row have sent nothing
  unfoldable pub visit_count : ℕ → ℕ → ℕ → Course T → ℕ
  visit_count zero k misses c = 0
  visit_count (suc most) k misses c =
      if (c.room == 0) || nat_le (active_count packet (subport_at packet k c)) misses then 0
      else
      let next = visit packet k c in
      1 + visit_count most k (if next.room == c.room then misses + 1 else 0) next

  -- those of its turn
  abbrev pub turn_visits : ℕ → Course T → ℕ
  turn_visits k c =
      if c.room == 0 then 0 else visit_count ((c.room + 1) * (pipe_count packet (subport_at packet k c) + 1)) k 0 c

  -- those of the turns of these subports, one after another
  abbrev pub turns_visits : List ℕ → Course T → ℕ
  turns_visits [] c = 0
  turns_visits (k ∷ ks) c = turn_visits k c + turns_visits ks (turn_of packet c k)

  -- those of a dequeue at `now` with so much room
  unfoldable pub dequeue_visits : ℕ → ℕ → Port T → ℕ
  dequeue_visits now room port =
      turns_visits (in_order packet port) (record { port = record port { time = max port.time now }; room = room; sends = [] })
