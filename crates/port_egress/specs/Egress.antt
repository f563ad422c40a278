-- What a port and its output keep together.
use Rattle.std.specs.Prelude.{◌≡◌, ◌≤◌, ◌^◌, ℕ, List, None}
use Rattle.qos_base.specs.declared.packet.Pkt.{Pkt}
use Rattle.qos_io.specs.declared.sink.Sink.{Ghosts}
use Rattle.pkt_slots.specs.Mbuf.{IsBodyIn}
use Rattle.port_sched.specs.PortLaws.{AllWaiting}
use Rattle.run_journal.specs.Laws.{Begins}
use Rattle.run_journal.specs.Pace.{pace_of}
use Rattle.run_journal.specs.PortRun.{course_of, new_run, schedule, started}
use Rattle.run_journal.specs.Schedule.{arrivals_of}
use Rattle.port_egress.specs.declared.egress.Egress.{Egress}
use Rattle.port_egress.specs.Run.{Setup, open_run, paced_journal}
use Rattle.port_egress.specs.Sender.{HasWritten, unbegun}

module _ {K : Type 0} {G : Ghosts K} where
  -- it is the port of this setup
  pub record Serves (s : Setup) (e : Egress K G) : Type 0 where
    pub pace : e.port.pace ≡ pace_of s.plan
    pub start : e.port.start ≡ started s.profile s.plan
    pub origin : e.sender.stamps.origin ≡ s.origin
    pub line : e.sender.stamps.line ≡ s.plan.line

  -- it is at its start, and its output is not begun
  pub record IsUnbegun (s : Setup) (e : Egress K G) : Type 0 where
    pub serves : Serves s e
    pub run : e.port ≡ new_run s.profile s.plan
    pub sender : e.sender ≡ unbegun None e.sender.stamps

  -- the next packet may arrive
  pub record IsReady (e : Egress K G) : Type 0 where
    pub aimed : e.port.pacer.aim ≤ e.port.pacer.clock
    pub clock : e.port.pacer.clock ≤ 2 ^ 54

  -- each packet of its journal has arrived at its moment, with the dequeues of the pacing rule
  pub record IsOpen (s : Setup) (e : Egress K G) : Type 0 where
    pub serves : Serves s e
    pub course : course_of e.port ≡ open_run s (arrivals_of e.port.journal)

  -- and it was drained
  pub record IsDrained (s : Setup) (e : Egress K G) : Type 0 where
    pub serves : Serves s e
    pub journal : e.port.journal ≡ paced_journal s (arrivals_of e.port.journal)

  -- memory was refused: its journal begins the paced journal of these arrivals
  pub record HasHalted (s : Setup) (arrivals : List Pkt) (e : Egress K G) : Type 0 where
    pub serves : Serves s e
    pub begins : Begins e.port.journal (paced_journal s arrivals)

-- Where these are the bodies of packets: each packet that waits lies in a slot with its body, and the output stands where
-- the sends of the journal have brought it.
pub record Carries {K : Type 0} (G : Ghosts K) (body : Pkt → List ℕ) (e : Egress K G) : Type 0 where
  pub waiting : AllWaiting (IsBodyIn body) e.port.port
  pub output : HasWritten G body (schedule e.port).sends e.sender
