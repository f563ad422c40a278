-- What the port sends is what its output has, and each packet that waits lies in its slot.
use Rattle.std.proofs.Common.{◌≡◌, ◌∷◌, ◌++◌, ℕ, List, [], map, Option, None, Some, IfNone, IfSome, refl}
use Rattle.std.specs.List.{All, Contains}
use Rattle.std.proofs.lemmas.List.Elements.{All-nil, All-cons, All-head, All-tail, All-contains}
use Rattle.qos_base.specs.declared.packet.Departure.{Departure}
use Rattle.qos_base.specs.declared.packet.Pkt.{Pkt}
use Rattle.qos_io.specs.declared.sink.Sink.{Ghosts as Sinks}
use Rattle.port_sched.specs.Parcels.{parcels}
use Rattle.port_sched.specs.Port.{Port, left_of, after_arrival}
use Rattle.port_sched.specs.PortDequeue.{dequeue_port}
use Rattle.port_sched.specs.Start.{start_at}
use Rattle.port_sched.specs.PortLaws.{AllWaiting, DequeueServes, ArrivalJoins}
use Rattle.pkt_slots.specs.declared.mbuf.Mbuf.{Mbuf}
use Rattle.pkt_slots.specs.Mbuf.{packet_in}
use Rattle.run_journal.specs.Pacer.{PacerState}
use Rattle.run_journal.specs.PortRun.{RunState, schedule, new_run, HasDequeued}
use Rattle.run_journal.specs.Schedule.{schedule_from}
use Rattle.port_egress.specs.declared.egress.Egress.{Egress}
use Rattle.port_egress.specs.declared.send.Sender.{Sender}
use Rattle.port_egress.specs.Egress.{Carries}
use Rattle.port_egress.specs.Run.{Setup}
use Rattle.port_egress.specs.Sender.{HasWritten, seen}

module _ {X : Type 0} (P : X → Type 0) where
  All-among : (xs ys : List X) → All P xs → All (Contains xs) ys → All P ys
  All-among xs [] all among = All-nil P
  All-among xs (y ∷ ys) all among =
      All-cons P y ys (All-contains P xs y all (All-head (Contains xs) y ys among))
      (All-among xs ys all (All-tail (Contains xs) y ys among))

module _ {T U : Type 0} (f : T → U) (P : U → Type 0) where
  All-unmap : (ts : List T) → All P (map f ts) → All (λ t. P (f t)) ts
  All-unmap [] all = All-nil (λ t. P (f t))
  All-unmap (t ∷ ts) all = All-cons (λ u. P (f u)) t ts (All-head P (f t) (map f ts) all) (All-unmap ts (All-tail P (f t) (map f ts) all))

module _ (P : Mbuf → Type 0) (now : ℕ) (before after : RunState Mbuf) (out : List (Departure Mbuf))
    (made : HasDequeued packet_in now before after out)
    (serves : DequeueServes packet_in now before.pace.burst before.port) (waits : AllWaiting P before.port) where
  pub waiting-dequeued : AllWaiting P after.port
  waiting-dequeued = rw made.port (All-among P (left_of before.port)
      (left_of (dequeue_port packet_in now before.pace.burst before.port).port) waits serves.counts.waiting)

  pub sent-dequeued : (handed : List (Departure Mbuf)) → handed ≡ out → All (λ (d : Departure Mbuf). P d.parcel) handed
  sent-dequeued handed same =
      let sends = (dequeue_port packet_in now before.pace.burst before.port).sends in
      rw (same, made.made) (All-unmap (λ (d : Departure Mbuf). d.parcel) P sends
      (All-among P (left_of before.port) (parcels sends) waits serves.counts.sent))

pub output-dequeued : {K : Type 0} (G : Sinks K) (body : Pkt → List ℕ) (now : ℕ) (before after : RunState Mbuf)
    (out handed : List (Departure Mbuf)) (s : Sender K) → handed ≡ out → HasDequeued packet_in now before after out
    → HasWritten G body ((schedule before).sends ++ map seen handed) s → HasWritten G body (schedule after).sends s
output-dequeued G body now before after out handed s same made written = rw made.sends (rw same at written)

-- a packet that arrives waits, or was turned away
pub waiting-arrived : (P : Mbuf → Type 0) (old new : Port Mbuf) (m : Mbuf) (away : Option Mbuf)
    → IfNone away (new ≡ after_arrival packet_in m old) → IfSome away (λ t. (t ≡ m) × (new ≡ old))
    → ArrivalJoins packet_in m old → P m → AllWaiting P old → AllWaiting P new
waiting-arrived P old new m None joined turned_away joins is waits =
    rw joined (All-among P (m ∷ left_of old) (left_of (after_arrival packet_in m old)) (All-cons P m (left_of old) is waits) joins.waiting)
waiting-arrived P old new m (Some t) joined turned_away joins is waits = rw turned_away.1 waits

-- at its start nothing waits, and nothing was sent
pub Carries-begun : (P : Mbuf → Type 0) (s : Setup) (run : RunState Mbuf) → run ≡ new_run s.profile s.plan
    → left_of (start_at {T = Mbuf} s.profile s.plan) ≡ [] → AllWaiting P run.port × ((schedule run).sends ≡ [])
unfolding schedule_from
Carries-begun P s run is none = (rw (is, none) (All-nil P), rw is refl)

-- where only the pacer of its port is another
pub Carries-moved : {K : Type 0} (G : Sinks K) (body : Pkt → List ℕ) (e moved : Egress K G) (pacer : PacerState)
    → moved.sender ≡ e.sender → moved.port ≡ record e.port { pacer = pacer } → Carries G body e → Carries G body moved
Carries-moved G body e moved pacer sender is carries =
    record { waiting = rw is carries.waiting; output = rw (is, sender) carries.output }
