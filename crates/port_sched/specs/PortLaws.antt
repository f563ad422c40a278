-- What holds of every dequeue of a port and of every arrival, by their definitions alone.
use Rattle.std.specs.Prelude.{◌≡◌, ◌⊎◌, ℕ, ◌+◌, ◌*◌, ◌<◌, ◌≤◌, max, ◌∷◌, ◌++◌, length, map, All, IsTrue}
use Rattle.std.specs.List.{Contains}
use Rattle.std.specs.List.Sorted.{IsPermutation}
use Rattle.qos_base.specs.declared.packet.Pkt.{Pkt}
use Rattle.queue_store.specs.Queues.{Queues}
use Rattle.port_sched.specs.Sends.{total_cost, sends_from}
use Rattle.port_sched.specs.Pipe.{Pipe}
use Rattle.port_sched.specs.Subport.{Subport}
use Rattle.port_sched.specs.Port.{Port, left_of, queued, has_place, is_full, after_arrival}
use Rattle.port_sched.specs.PortDequeue.{Course, cost_with, dequeue_port}
use Rattle.port_sched.specs.Settings.{IsPortWithin}
use Rattle.port_sched.specs.Parcels.{itself, parcels, seen_send}

module _ {T : Type 0} where
  -- every parcel that waits is such
  abbrev pub AllWaiting : (T → Type 0) → Port T → Type 0
  AllWaiting P port = All P (left_of port)

  module _ (packet : T → Pkt) where
    -- queues, a pipe, a subport and a port, of whose parcels only the packets are looked at
    abbrev pub seen_queues : Queues T → Queues Pkt
    seen_queues queues = record { sizes = queues.sizes; lists = map (map packet) queues.lists }

    abbrev pub seen_pipe : Pipe T → Pipe Pkt
    seen_pipe p = record {
      level = p.level;
      round = p.round;
      weight = p.weight;
      share = p.share;
      seen = p.seen;
      queues = seen_queues p.queues;
    }

    abbrev pub seen_subport : Subport T → Subport Pkt
    seen_subport s = record {
      level = s.level;
      oversub = s.oversub;
      oversubscribed = s.oversubscribed;
      watermark = s.watermark;
      period = s.period;
      cursor = s.cursor;
      pipes = map seen_pipe s.pipes;
    }

    abbrev pub seen_port : Port T → Port Pkt
    seen_port port = record {
      overhead = port.overhead;
      mtu = port.mtu;
      time = port.time;
      ticked = port.ticked;
      cursor = port.cursor;
      subports = map seen_subport port.subports;
    }

    -- what a dequeue came to, of which only packets are looked at
    abbrev pub seen_course : Course T → Course Pkt
    seen_course c = record { port = seen_port c.port; room = c.room; sends = map (seen_send packet) c.sends }

    -- What carries a packet has no part in what a dequeue does, nor in what an arrival does.
    pub record PacketsDecide (s : Port T) : Type 0 where
      pub dequeue : (now room : ℕ) → seen_course (dequeue_port packet now room s) ≡ dequeue_port itself now room (seen_port s)
      pub arrival : (t : T) → seen_port (after_arrival packet t s) ≡ after_arrival itself (packet t) (seen_port s)
      pub full : (p : Pkt) → is_full p s ≡ is_full p (seen_port s)
      pub place : (p : Pkt) → has_place p s ≡ has_place p (seen_port s)
      pub left : map packet (left_of s) ≡ left_of (seen_port s)

    -- Where a dequeue at `now` with so much room came to `c`: what it sent, what waits, and how far port time went.
    pub record Serves (now most : ℕ) (s : Port T) (c : Course T) : Type 0 where
      -- what waited before was sent or waits still, each parcel once
      pub each_once : IsPermutation (parcels c.sends ++ left_of c.port) (left_of s)
      -- each send takes one of the room
      pub room : length c.sends + c.room ≡ most
      -- each goes out once the one before it is out, the first at the later of port time and `now`
      pub sends : c.sends ≡ sends_from (cost_with packet s.overhead) (max s.time now) (parcels c.sends)
      -- port time is then the end of the last
      pub time : c.port.time ≡ max s.time now + total_cost (cost_with packet s.overhead) (parcels c.sends)

    -- So parcels are counted, those that it sent and those that wait after it are among those that waited before it, and each
    -- send puts port time off by at least the overhead and at most the dearest packet's cost.
    pub record Counts (now : ℕ) (s : Port T) (c : Course T) : Type 0 where
      pub counted : length c.sends + queued c.port ≡ queued s
      pub sent : All (Contains (left_of s)) (parcels c.sends)
      pub waiting : All (Contains (left_of s)) (left_of c.port)
      pub no_sooner : max s.time now + s.overhead * length c.sends ≤ c.port.time
      pub no_later : (dearest : ℕ) → AllWaiting (λ t. cost_with packet s.overhead t ≤ dearest) s
          → c.port.time ≤ max s.time now + dearest * length c.sends
      -- port time moves on, or no packet that was sent costs anything; where the overhead is 0 there may be such
      pub moves : (max s.time now < c.port.time) ⊎ All (λ t. cost_with packet s.overhead t ≡ 0) (parcels c.sends)

    -- what a dequeue keeps of the parcels
    pub record DequeueServes (now room : ℕ) (s : Port T) : Type 0 where
      pub serves : Serves now room s (dequeue_port packet now room s)
      pub counts : Counts now s (dequeue_port packet now room s)

    -- A parcel that arrives, which has a place, waits beside those that did; and none waits but it and those.
    pub record ArrivalJoins (t : T) (s : Port T) : Type 0 where
      pub each_once : IsPortWithin s → IsTrue (has_place (packet t) s) → IsPermutation (left_of (after_arrival packet t s)) (t ∷ left_of s)
      pub waiting : All (Contains (t ∷ left_of s)) (left_of (after_arrival packet t s))
