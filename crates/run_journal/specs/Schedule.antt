-- The schedule of a port's journal.
use Rattle.std.specs.Prelude.{ℕ, ◌+◌, Bool, false, nat_lt, if◌then◌else◌, List, [], ◌∷◌, ◌++◌, length, fold}
use Rattle.qos_base.specs.declared.packet.Pkt.{Pkt}
use Rattle.qos_base.specs.declared.packet.Departure.{Departure}
use Rattle.profile_plan.specs.declared.port.PortPlan.{PortPlan}
use Rattle.profile_plan.specs.Profile.{Plan}
use Rattle.port_sched.specs.Parcels.{itself}
use Rattle.port_sched.specs.Port.{Port, is_full, after_arrival}
use Rattle.port_sched.specs.PortDequeue.{dequeue_port}
use Rattle.port_sched.specs.Start.{start_at}
use Rattle.run_journal.specs.declared.entry.Entry.{Entry}
use Rattle.run_journal.specs.declared.entry.Entry.TheVariants.{Arrive, Dequeue}

-- what a journal makes of a port: where it stands, what it sent, what it turned away, and whether the last dequeue sent something
pub record Schedule : Type 0 where
  pub port : Port Pkt
  pub sends : List (Departure Pkt)
  pub drops : List Pkt
  pub went : Bool

abbrev pub at_start : Port Pkt → Schedule
at_start port = record { port = port; sends = []; drops = []; went = false }

-- an arrival joins its queue, or is a tail drop where that is full; a dequeue sends what it sends
abbrev pub after_entry : Schedule → Entry → Schedule
after_entry s (Arrive p) =
    if is_full p s.port then record s { drops = s.drops ++ p ∷ [] }
    else record s { port = after_arrival itself p s.port }
after_entry s (Dequeue now room) =
    let made = dequeue_port itself now room s.port in
    record s { port = made.port; sends = s.sends ++ made.sends; went = nat_lt 0 (length made.sends) }

-- the entries one after another, from a port at its start
unfoldable pub schedule_from : Port Pkt → List Entry → Schedule
schedule_from start journal = fold after_entry (at_start start) journal

-- the schedule of a journal at a port of a profile
abbrev pub schedule_of : Plan → PortPlan → List Entry → Schedule
schedule_of profile port journal = schedule_from (start_at profile port) journal

-- the packets that arrive in a journal, in order
abbrev pub arrivals_of : List Entry → List Pkt
arrivals_of [] = []
arrivals_of (Arrive p ∷ entries) = p ∷ arrivals_of entries
arrivals_of (Dequeue now room ∷ entries) = arrivals_of entries

-- how many dequeues a journal has
abbrev pub dequeues_in : List Entry → ℕ
dequeues_in [] = 0
dequeues_in (Arrive p ∷ entries) = dequeues_in entries
dequeues_in (Dequeue now room ∷ entries) = dequeues_in entries + 1
