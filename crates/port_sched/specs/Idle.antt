-- What a dequeue leaves alone, by its definition: a pipe where nothing waits, and a port that has nothing to send.
use Rattle.std.specs.Prelude.{◌≡◌, ◌⊎◌, ℕ, max, false, [], Option, Some, IsSomeAnd}
use Rattle.qos_base.specs.declared.packet.Pkt.{Pkt}
use Rattle.port_sched.specs.Pipe.{Pipe, has_packet}
use Rattle.port_sched.specs.Port.{Port, queued, pipe_of}
use Rattle.port_sched.specs.PortDequeue.{dequeue_port}
use Rattle.port_sched.specs.Settings.{IsPortWithin}

module _ {T : Type 0} where
  -- a pipe, but for the credits in its bucket
  abbrev pub but_credits : Pipe T → Pipe T
  but_credits p = record p { level = record p.level { credits = 0 } }

  -- the pipe that is found is as this one was, but for what its bucket has earned
  abbrev pub IsLeftAlone : Pipe T → Option (Pipe T) → Type 0
  IsLeftAlone p found = IsSomeAnd found (λ after. but_credits after ≡ but_credits p)

  -- each pipe of a port where nothing waits is left alone
  abbrev pub LeavesIdle : Port T → Port T → Type 0
  LeavesIdle from to =
      (subport pipe : ℕ) (p : Pipe T) → pipe_of from subport pipe ≡ Some p → has_packet p ≡ false
      → IsLeftAlone p (pipe_of to subport pipe)

  module _ (packet : T → Pkt) where
    pub record LeavesAlone (now room : ℕ) (s : Port T) : Type 0 where
      -- only pipes with a packet are visited: no other has its classes renewed, its tokens charged or its share granted
      pub pipes : IsPortWithin s → LeavesIdle s (dequeue_port packet now room s).port
      -- where nothing may be sent, or nothing waits, there is no visit: no renewal, and no cursor moves
      pub port : (room ≡ 0) ⊎ (queued s ≡ 0)
          → dequeue_port packet now room s ≡ record { port = record s { time = max s.time now }; room = room; sends = [] }
