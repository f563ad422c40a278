-- What was taken of an input: the records that it gave, and what became of them.
use Rattle.std.specs.Prelude.{◌≡◌, ◌⊎◌, ℕ, ◌+◌, List, [], ◌++◌, length, map, Some, slice_get}
use Rattle.std.specs.List.{sum_by}
use Rattle.qos_io.specs.declared.sink.Sink.{Ghosts as Sinks}
use Rattle.qos_io.specs.declared.source.Source.{Ghosts as Sources}
use Rattle.qos_pcap.specs.declared.fault.Stop.{Stop}
use Rattle.qos_pcap.specs.Format.{Record}
use Rattle.profile_plan.specs.Profile.{Plan}
use Rattle.meter_table.specs.declared.mark.Mark.{Mark}
use Rattle.meter_table.specs.declared.mark.MeterLog.{MeterLog}
use Rattle.meter_table.specs.Asked.{request_in}
use Rattle.pkt_receive.specs.declared.receive.Receiver.{Receiver}
use Rattle.pkt_receive.specs.Colours.{Agrees, Colours, colours_in}
use Rattle.pkt_receive.specs.Fate.{admitted, to_port}
use Rattle.pkt_receive.specs.Losses.{lost_total, losses_of}
use Rattle.pkt_receive.specs.Marks.{AreLogsFor, asked_of}
use Rattle.pkt_receive.specs.Receiver.{IsReadFault}
use Rattle.run_journal.specs.declared.entry.Entry.{Entry}
use Rattle.run_journal.specs.Schedule.{arrivals_of}
use Rattle.port_egress.specs.declared.egress.Egress.{Egress}
use Rattle.port_egress.specs.Egress.{HasHalted, IsOpen, IsReady}
use Rattle.port_egress.specs.Run.{Setup}

-- each record that was read is lost, or its packet arrived at a port
abbrev pub IsSummed : {S : Type 0} {F : Sources S} → Receiver S F → List (List Entry) → Type 0
IsSummed rx journals = rx.read ≡ lost_total rx.losses + sum_by (λ journal. length (arrivals_of journal)) journals

-- what became of records that an input gave, where the meters' marks have these colours: each is counted as lost for its reason, or
-- its packet has arrived at its port
pub record IsTaken {S : Type 0} {F : Sources S} (p : Plan) (colours : Colours) (given : List Record) (rx : Receiver S F)
    (journals : List (List Entry)) : Type 0 where
  pub losses : rx.losses ≡ losses_of p colours rx.input given
  pub merge : (n : ℕ) (journal : List Entry) → slice_get journals n ≡ Some journal
      → arrivals_of journal ≡ to_port n (admitted p colours rx.input given)

-- The records that an input gave of those that it has, how it stopped, what became of them, and the logs of the meters.
pub record Took {S : Type 0} {F : Sources S} (p : Plan) (records : List Record) (stop : Stop) (rx : Receiver S F)
    (journals : List (List Entry)) (logs : List MeterLog) : Type 0 where
  pub given : List Record
  pub rest : List Record
  pub parts : records ≡ given ++ rest
  pub stopped : IsReadFault rx.stopped ⊎ ((rest ≡ []) × (rx.stopped ≡ stop))
  pub read : rx.read ≡ length given
  pub logs_are : AreLogsFor p rx.origin rx.input given logs
  pub taken : IsTaken p (colours_in logs) given rx journals

-- the same before the logs are gathered: these are the marks that were made
pub record TookBy {S : Type 0} {F : Sources S} (p : Plan) (records : List Record) (stop : Stop) (rx : Receiver S F)
    (marks : List Mark) (journals : List (List Entry)) : Type 0 where
  pub given : List Record
  pub rest : List Record
  pub parts : records ≡ given ++ rest
  pub stopped : IsReadFault rx.stopped ⊎ ((rest ≡ []) × (rx.stopped ≡ stop))
  pub read : rx.read ≡ length given
  pub asked : map request_in marks ≡ asked_of p rx.origin rx.input given
  pub taken : (colours : Colours) → Agrees colours marks → IsTaken p colours given rx journals

module _ {K : Type 0} {G : Sinks K} where
  -- a port's egress before the first packet arrives
  pub record HasBegun (n : ℕ) (s : Setup) (e : Egress K G) : Type 0 where
    pub opened : IsOpen s e
    pub ready : IsReady e
    pub none : e.port.journal ≡ []

  -- memory was refused: the journal begins the paced journal of the port's packets of some first records of an input
  pub record HasStopped (input : ℕ) (records : List Record) (n : ℕ) (s : Setup) (e : Egress K G) : Type 0 where
    pub given : List Record
    pub rest : List Record
    pub parts : records ≡ given ++ rest
    pub colours : Colours
    pub halted : HasHalted s (to_port n (admitted s.profile colours input given)) e
