-- What the parts of a run with outputs promise one another: how outputs are begun, and how they are ended.
use Rattle.std.specs.Prelude.{◌≡◌, ◌⊎◌, ℕ, Bool, true, List, [], map, length, Option, None, Some, IfSome, slice_get}
use Rattle.qos_base.specs.declared.packet.Pkt.{Pkt}
use Rattle.qos_io.specs.declared.shelf.Shelf.{Ghosts as Shelves}
use Rattle.qos_io.specs.declared.sink.PutFault.{PutFault}
use Rattle.qos_io.specs.declared.sink.PutFault.TheVariants.{Failed, NoMemory}
use Rattle.qos_io.specs.declared.sink.Sink.{Ghosts as Sinks}
use Rattle.run_journal.specs.declared.ended.PortEnd.{PortEnd}
use Rattle.run_journal.specs.Laws.{AreAccounted}
use Rattle.run_journal.specs.PortRun.{HasCounts, schedule}
use Rattle.run_journal.specs.Schedule.{arrivals_of}
use Rattle.port_egress.specs.declared.egress.Egress.{Egress}
use Rattle.port_egress.specs.declared.send.Sender.{Sender}
use Rattle.port_egress.specs.Egress.{Carries, IsOpen, IsReady, IsUnbegun}
use Rattle.port_egress.specs.Run.{Setup}
use Rattle.port_egress.specs.Sender.{StaysSender, unbegun}
use Rattle.port_files.specs.Among.{AreApart}
use Rattle.port_files.specs.Change.{FileChange, IsClosed, change_of}
use Rattle.port_files.specs.Outs.{AreNamed, IsShut, IsTold}
use Rattle.qos_pipeline.specs.Written.{IsUntouched}

-- whether an output has a fault, by that of its puts and whether its closing failed
abbrev pub IsSettled : Option PutFault → Bool → Bool → Type 0
IsSettled None failed fault = fault ≡ failed
IsSettled (Some Failed) failed fault = fault ≡ true
IsSettled (Some NoMemory) failed fault = ⊥

-- what is left of an output where memory was refused while outputs were created: one that was created was closed, and is empty
abbrev pub IsDropped : FileChange → Type 0
IsDropped c = IsUntouched c ⊎ IsClosed c []

-- what a port ended with, and how much of its output was written
pub record IsEndOf {K : Type 0} {G : Sinks K} (e : Egress K G) (end : PortEnd) : Type 0 where
  pub journal : end.journal ≡ e.port.journal
  pub counts : HasCounts e.port.journal (schedule e.port) end.counts
  pub account : AreAccounted (arrivals_of e.port.journal) (schedule e.port)
  pub sent : end.counts.sent ≡ e.sender.sent

module _ {K : Type 0} {G : Sinks K} where
  abbrev pub sinks_of : List (Egress K G) → List (Option K)
  sinks_of egresses = map (λ e. e.sender.sink) egresses

  abbrev pub faults_of : List (Egress K G) → List (Option PutFault)
  faults_of egresses = map (λ e. e.sender.fault) egresses

  -- an output was begun with this sink, if there is one
  pub record HasBegunWith (out : Option K) (before after : Egress K G) : Type 0 where
    pub port : after.port ≡ before.port
    pub ready : (s : Setup) → IsUnbegun s before → IsReady after
    pub opened : (s : Setup) → IsUnbegun s before → IsOpen s after
    pub carries : IfSome out (λ k. G.contents k ≡ Some []) → (s : Setup) → IsUnbegun s before → (body : Pkt → List ℕ) → Carries G body after
    pub stays : StaysSender G (unbegun out before.sender.stamps) after.sender

  -- each was begun with the sink at its place
  pub record HaveBegunWith (outs : List (Option K)) (before after : List (Egress K G)) : Type 0 where
    pub count : length after ≡ length before
    pub each : (n : ℕ) (out : Option K) (e f : Egress K G) → slice_get outs n ≡ Some out → slice_get before n ≡ Some e → slice_get after n ≡ Some f → HasBegunWith out e f

  -- each port ended
  pub record HaveEnded (egresses : List (Egress K G)) (ends : List PortEnd) : Type 0 where
    pub count : length ends ≡ length egresses
    pub each : (n : ℕ) (e : Egress K G) (end : PortEnd) → slice_get egresses n ≡ Some e → slice_get ends n ≡ Some end → IsEndOf e end

module _ {K : Type 0} (G : Sinks K) where
  -- a sender's sink was closed, if there is one, and its output has a fault, or none
  pub record IsEnding (c : FileChange) (s : Sender K) (fault : Bool) : Type 0 where
    pub failed : Bool
    pub told : IsTold G c s.sink failed
    pub settled : IsSettled s.fault failed fault

  module _ {H In : Type 0} (F : Shelves H In K) (old new : H) (egresses : List (Egress K G)) where
    -- the sinks were closed, where they have these names
    abbrev pub AreShut : Type 0
    AreShut =
        (names : List (List ℕ)) → AreNamed G names (sinks_of egresses) → AreApart names → (n : ℕ) (name : List ℕ) (e : Egress K G)
        → slice_get names n ≡ Some name → slice_get egresses n ≡ Some e → IsShut G (change_of F name old new) e.sender.sink

    -- and each output has a fault, or none
    abbrev pub AreEndings : List Bool → Type 0
    AreEndings faults =
        (names : List (List ℕ)) → AreNamed G names (sinks_of egresses) → AreApart names → (n : ℕ) (name : List ℕ) (e : Egress K G) (fault : Bool)
        → slice_get names n ≡ Some name → slice_get egresses n ≡ Some e → slice_get faults n ≡ Some fault → IsEnding (change_of F name old new) e.sender fault
