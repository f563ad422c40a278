-- What holds of the visits of a turn, by their definition alone.
use Rattle.std.specs.Prelude.{◌≡◌, ℕ, ◌+◌, ◌*◌}
use Rattle.qos_base.specs.declared.packet.Pkt.{Pkt}
use Rattle.port_sched.specs.PortDequeue.{Course, subport_at, pipe_count, visits}

module _ {T : Type 0} (packet : T → Pkt) where
  -- how many visits a turn of subport k may make
  abbrev pub most_visits : ℕ → Course T → ℕ
  most_visits k c = (c.room + 1) * (pipe_count packet (subport_at packet k c) + 1)

  -- A turn ends by its own two tests: if more visits were allowed, it would make the same.
  abbrev pub TurnsEnd : Type 0
  TurnsEnd = (k more : ℕ) (c : Course T) → visits packet (most_visits k c + more) k 0 c ≡ visits packet (most_visits k c) k 0 c
