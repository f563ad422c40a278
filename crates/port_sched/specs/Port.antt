-- A port: its time, its subports, how its buckets are stepped, and what an arrival does (DPDK Programmer's Guide, Quality of
-- Service Framework: scheduling hierarchy).
use Rattle.std.specs.Prelude.{ℕ, zero, suc, ◌==◌, nat_le, nat_lt, Bool, ◌&&◌, false, List, [], ◌∷◌, length, map}
use Rattle.std.specs.Prelude.{slice_get, Option, None, Some, is_some, option_and_then}
use Rattle.std.specs.List.{flat_map}
use Rattle.qos_base.specs.declared.packet.Pkt.{Pkt}
use Rattle.queue_store.specs.Queues.{joined, list_of, size_of}
use Rattle.port_sched.specs.Level.{level_tick}
use Rattle.port_sched.specs.Pipe.{Pipe}
use Rattle.port_sched.specs.Subport.{Subport}

pub record Port (T : Type 0) : Type 0 where
  -- the bytes of the line that a frame takes beside its own, and the longest frame
  pub overhead : ℕ
  pub mtu : ℕ
  -- port time, in byte times of the line
  pub time : ℕ
  -- the moment up to which all buckets are stepped
  pub ticked : ℕ
  -- the subport whose turn is first
  pub cursor : ℕ
  pub subports : List (Subport T)

-- a step on the item at an index
abbrev pub at : {X : Type 0} → ℕ → (X → X) → List X → List X
at n step [] = []
at zero step (x ∷ xs) = step x ∷ xs
at (suc n) step (x ∷ xs) = x ∷ at n step xs

module _ {T : Type 0} where
  abbrev pub pipe_tick : ℕ → ℕ → Pipe T → Pipe T
  pipe_tick from to p = record p { level = level_tick from to p.level }

  abbrev pub subport_tick : ℕ → ℕ → Subport T → Subport T
  subport_tick from to s = record s { level = level_tick from to s.level; pipes = map (pipe_tick from to) s.pipes }

  -- every bucket of the port is stepped up to a moment
  abbrev pub tick : ℕ → Port T → Port T
  tick moment port = record port { ticked = moment; subports = map (subport_tick port.ticked moment) port.subports }

  -- the packets that wait in a pipe, queue by queue
  abbrev pub left_in : Pipe T → List T
  left_in p = flat_map (λ ts. ts) p.queues.lists

  abbrev pub left_in_subport : Subport T → List T
  left_in_subport s = flat_map left_in s.pipes

  -- the packets that wait in a port, subport by subport and pipe by pipe
  abbrev pub left_of : Port T → List T
  left_of port = flat_map left_in_subport port.subports

  -- the port, of whose packets none waits; all else is as it was
  abbrev pub pipe_emptied : Pipe T → Pipe T
  pipe_emptied p = record p { queues = record p.queues { lists = map (λ _. []) p.queues.lists } }

  abbrev pub subport_emptied : Subport T → Subport T
  subport_emptied s = record s { pipes = map pipe_emptied s.pipes }

  abbrev pub emptied : Port T → Port T
  emptied port = record port { subports = map subport_emptied port.subports }

  -- how many packets wait
  abbrev pub queued : Port T → ℕ
  queued port = length (left_of port)

  -- a step on one pipe of a subport, and of the port
  abbrev pub in_subport : ℕ → (Pipe T → Pipe T) → Subport T → Subport T
  in_subport pipe step s = record s { pipes = at pipe step s.pipes }

  abbrev pub at_pipe : ℕ → ℕ → (Pipe T → Pipe T) → Port T → Port T
  at_pipe subport pipe step port = record port { subports = at subport (in_subport pipe step) port.subports }

  -- the pipe of these numbers
  abbrev pub pipe_of : Port T → ℕ → ℕ → Option (Pipe T)
  pipe_of port subport pipe = option_and_then (λ s. slice_get s.pipes pipe) (slice_get port.subports subport)

  -- the packet is one for this port: it is no longer than the longest frame, and its subport, pipe and queue are there
  abbrev pub has_place : Pkt → Port T → Bool
  has_place packet port =
      nat_le packet.wire port.mtu && nat_lt packet.queue 16 && is_some (pipe_of port packet.subport packet.pipe)

  abbrev pub is_full_at : ℕ → Option (Pipe T) → Bool
  is_full_at queue (Some p) = length (list_of queue p.queues) == size_of queue p.queues
  is_full_at queue None = false

  -- the packet's queue holds as many packets as its size
  abbrev pub is_full : Pkt → Port T → Bool
  is_full packet port = is_full_at packet.queue (pipe_of port packet.subport packet.pipe)

  -- a parcel joins the back of a queue of the pipe
  abbrev pub with_arrival : ℕ → T → Pipe T → Pipe T
  with_arrival queue t p = record p { queues = joined queue t p.queues }

  -- a parcel that arrives joins the back of its packet's queue
  abbrev pub after_arrival : (T → Pkt) → T → Port T → Port T
  after_arrival packet t port = at_pipe (packet t).subport (packet t).pipe (with_arrival (packet t).queue t) port
