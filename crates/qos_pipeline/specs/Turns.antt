-- What the parts of a run promise one another: an arrival and a drain at one egress, and a turn of all ports.
use Rattle.std.specs.Prelude.{◌≡◌, ◌<◌, ℕ, List, [], ◌∷◌, ◌++◌, length, map, Result, OnOk, OnErr, IsTrue, Some, slice_get}
use Rattle.qos_base.specs.declared.memory.NoMemory.{NoMemory}
use Rattle.qos_base.specs.declared.packet.Pkt.{Pkt}
use Rattle.qos_io.specs.declared.sink.Sink.{Ghosts as Sinks}
use Rattle.qos_io.specs.declared.source.Source.{Ghosts as Sources}
use Rattle.qos_pcap.specs.declared.fault.Stop.{Stop}
use Rattle.qos_pcap.specs.Format.{Record}
use Rattle.profile_plan.specs.Profile.{Plan}
use Rattle.port_sched.specs.Port.{has_place}
use Rattle.meter_table.specs.declared.mark.Mark.{Mark}
use Rattle.meter_table.specs.Asked.{request_in}
use Rattle.pkt_slots.specs.declared.mbuf.Mbuf.{Mbuf}
use Rattle.pkt_receive.specs.declared.marker.Marker.{Marker}
use Rattle.pkt_receive.specs.declared.receive.Receiver.{Receiver}
use Rattle.pkt_receive.specs.Colours.{Agrees, Colours}
use Rattle.pkt_receive.specs.Marks.{IsMarking, StaysMarker, asked_of}
use Rattle.pkt_slots.specs.Mbuf.{IsBodyIn}
use Rattle.pkt_receive.specs.Receiver.{IsReading, StaysReceiver, ToCome}
use Rattle.run_journal.specs.declared.limits.TheConstants.{MAX_ARRIVALS}
use Rattle.run_journal.specs.Schedule.{arrivals_of}
use Rattle.port_egress.specs.declared.egress.Egress.{Egress}
use Rattle.port_egress.specs.Run.{Setup}
use Rattle.port_egress.specs.Sender.{StaysSender}
use Rattle.port_egress.specs.Egress.{Carries, HasHalted, IsDrained, IsOpen, IsReady}
use Rattle.qos_pipeline.specs.Ports.{AllCarry, AtPorts, SendersStay, bodies_of, journals_of}
use Rattle.qos_pipeline.specs.Took.{HasStopped, IsSummed, IsTaken}

module _ {K : Type 0} {G : Sinks K} where
  -- a packet may arrive at an egress
  pub record MayTake (packet : Pkt) (e : Egress K G) : Type 0 where
    pub ready : IsReady e
    pub place : IsTrue (has_place packet e.port.start)
    pub few : length (arrivals_of e.port.journal) < MAX_ARRIVALS

  -- what an arrival with this result made of an egress
  pub record HasTaken (result : Result (Unit {0}) NoMemory) (m : Mbuf) (old new : Egress K G) : Type 0 where
    pub ready : OnOk result (IsReady new)
    pub opened : OnOk result ((s : Setup) → IsOpen s old → IsOpen s new)
    pub arrivals : OnOk result (arrivals_of new.port.journal ≡ arrivals_of old.port.journal ++ m.pkt ∷ [])
    pub halted : OnErr result ((s : Setup) → IsOpen s old → HasHalted s (arrivals_of old.port.journal ++ m.pkt ∷ []) new)
    pub carries : (body : Pkt → List ℕ) → IsBodyIn body m → Carries G body old → Carries G body new
    pub stays : StaysSender G old.sender new.sender

  -- what a drain of all ports with this result made of one egress
  pub record HasDrained (result : Result (Unit {0}) NoMemory) (old new : Egress K G) : Type 0 where
    pub drained : OnOk result ((s : Setup) → IsOpen s old → IsDrained s new)
    pub halted : OnErr result ((s : Setup) → IsOpen s old → HasHalted s (arrivals_of old.port.journal) new)
    pub arrivals : arrivals_of new.port.journal ≡ arrivals_of old.port.journal
    pub carries : (body : Pkt → List ℕ) → Carries G body old → Carries G body new
    pub stays : StaysSender G old.sender new.sender

  -- and of each
  pub record HaveDrained (result : Result (Unit {0}) NoMemory) (before after : List (Egress K G)) : Type 0 where
    pub count : length after ≡ length before
    pub each : (n : ℕ) (e f : Egress K G) → slice_get before n ≡ Some e → slice_get after n ≡ Some f → HasDrained result e f

module _ {S K : Type 0} {F : Sources S} {G : Sinks K} (p : Plan) where
  -- what holds between two turns, whatever the input's bytes
  pub record Goes (rx : Receiver S F) (marker : Marker) (egresses : List (Egress K G)) : Type 0 where
    pub reading : IsReading F rx
    pub marking : IsMarking p rx.read marker
    pub origin : marker.origin ≡ rx.origin
    pub opened : AtPorts p rx.origin (λ n s e. IsOpen s e × IsReady e) egresses
    pub summed : IsSummed rx (journals_of egresses)

  -- Of an input that gave these records and then this stop, the first were taken, and it still gives the rest. These marks were made.
  pub record HasComeTo (records : List Record) (stop : Stop) (rx : Receiver S F) (marks : List Mark) (egresses : List (Egress K G)) : Type 0 where
    pub given : List Record
    pub rest : List Record
    pub parts : records ≡ given ++ rest
    pub to_come : ToCome F rx rest stop
    pub read : rx.read ≡ length given
    pub asked : map request_in marks ≡ asked_of p rx.origin rx.input given
    pub taken : (colours : Colours) → Agrees colours marks → IsTaken p colours given rx (journals_of egresses)

  module _ (first rx : Receiver S F) (fresh marker : Marker) (start egresses : List (Egress K G)) where
    -- what turns make of an input, of its marker and of egresses, from a first and a start on
    pub record GoesOn : Type 0 where
      pub goes : Goes rx marker egresses
      pub come : (records : List Record) (stop : Stop) → HasComeTo records stop first fresh.marks.items start → HasComeTo records stop rx marker.marks.items egresses
      pub carries : (records : List Record) (stop : Stop) → HasComeTo records stop first fresh.marks.items start
          → AllCarry G (bodies_of records) start → AllCarry G (bodies_of records) egresses
      pub senders : SendersStay G start egresses
      pub input : StaysReceiver F first rx
      pub stays : StaysMarker fresh marker

  -- and where the last was refused memory
  pub record Halts (first : Receiver S F) (marks : List Mark) (start egresses : List (Egress K G)) : Type 0 where
    pub halted : (records : List Record) (stop : Stop) → HasComeTo records stop first marks start
        → AtPorts p first.origin (HasStopped first.input records) egresses
    pub carries : (records : List Record) (stop : Stop) → HasComeTo records stop first marks start
        → AllCarry G (bodies_of records) start → AllCarry G (bodies_of records) egresses
    pub senders : SendersStay G start egresses
