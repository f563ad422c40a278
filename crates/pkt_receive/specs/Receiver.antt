-- What a receiver still gives, and what it has given.
use Rattle.std.specs.Prelude.{◌≡◌, ◌⊎◌, ℕ, ◌+◌, ◌≤◌, List, [], ◌∷◌, ◌++◌, map, None, Some, IfSome, MatchOption}
use Rattle.qos_io.specs.declared.source.Source.{Ghosts}
use Rattle.qos_base.specs.Time.{origin_of}
use Rattle.qos_pcap.specs.declared.capture.Capture.{Capture}
use Rattle.qos_pcap.specs.declared.fault.PcapFault.TheVariants.{Read}
use Rattle.qos_pcap.specs.declared.fault.Stop.{Stop}
use Rattle.qos_pcap.specs.declared.fault.Stop.TheVariants.{NotOpened, Fault}
use Rattle.qos_pcap.specs.declared.head.Head.{Head}
use Rattle.qos_pcap.specs.First.{first_stamp}
use Rattle.qos_pcap.specs.Format.{Record}
use Rattle.qos_pcap.specs.Given.{StillGives, given, limit_of, source_of, untaken}
use Rattle.profile_plan.specs.Profile.{Plan}
use Rattle.pkt_receive.specs.declared.limits.TheConstants.{MAX_RECORDS}
use Rattle.pkt_receive.specs.declared.fate.Fate.TheVariants.{Lost}
use Rattle.pkt_receive.specs.declared.losses.Losses.{Losses}
use Rattle.pkt_receive.specs.declared.receive.Received.{Received}
use Rattle.pkt_receive.specs.declared.receive.Received.TheVariants.{Admitted as Packet, Lost as Gone, Stopped as Nothing}
use Rattle.pkt_receive.specs.declared.receive.Receiver.{Receiver}
use Rattle.pkt_receive.specs.declared.marker.Marker.{Marker}
use Rattle.pkt_receive.specs.Classes.{IsLoss}
use Rattle.pkt_receive.specs.Colours.{Agrees, Colours}
use Rattle.pkt_receive.specs.Fate.{fate_of, packet_if}
use Rattle.pkt_receive.specs.Losses.{counted, lost_total, no_losses}
use Rattle.pkt_receive.specs.Marks.{asked_by}
use Rattle.meter_table.specs.declared.mark.Mark.{Mark}
use Rattle.meter_table.specs.Asked.{request_in}
use Rattle.pkt_slots.specs.Mbuf.{captured_in}
use Rattle.pkt_slots.specs.Placed.{IsPlaced}

-- a failed call stopped the reading
abbrev pub IsReadFault : Stop → Type 0
IsReadFault NotOpened = Unit {0}
IsReadFault (Fault Read) = Unit {0}
IsReadFault _ = ⊥

-- What was received is this record, which has that index in an input, where the meters' marks have these colours: its packet in a
-- slot with its body, or the reason for which it is lost.
abbrev pub IsRecord : Plan → Colours → ℕ → ℕ → Record → Received → Type 0
IsRecord p colours input index r (Packet m) = (packet_if input index r (fate_of p colours input index r) ≡ m.pkt ∷ []) × (captured_in m ≡ r.body)
IsRecord p colours input index r (Gone reason) = fate_of p colours input index r ≡ Lost reason
IsRecord p colours input index r Nothing = ⊥

-- what was received is this record, and these marks were made for it: one where it reaches a meter
pub record IsReceived (p : Plan) (origin input index : ℕ) (r : Record) (made : List Mark) (received : Received) : Type 0 where
  pub asked : map request_in made ≡ asked_by p origin input index r
  pub record_is : (colours : Colours) → Agrees colours made → IsRecord p colours input index r received

-- the same, where a marker was `before` and is `after`
pub record IsSorted (p : Plan) (before after : Marker) (input index : ℕ) (r : Record) (received : Received) : Type 0 where
  pub made : List Mark
  pub marks : after.marks.items ≡ before.marks.items ++ made
  pub is : IsReceived p before.origin input index r made received

-- a packet that was received has a place in the profile, and a record that was lost has one of the reasons of receive
abbrev pub HasPlace : Plan → Received → Type 0
HasPlace p (Packet m) = IsPlaced p m.pkt
HasPlace p (Gone reason) = IsLoss reason
HasPlace p Nothing = Unit {0}

module _ {S : Type 0} (G : Ghosts S) where
  -- the capture from which the next record comes: its head is read and its body is not
  pub record IsNext (read : ℕ) (head : Head) (c : Capture S G) : Type 0 where
    pub untaken_is : untaken c ≡ Some head
    pub given_is : given c ≡ read + 1
    pub limit_is : limit_of c ≡ MAX_RECORDS
    pub place : head.index ≡ read
    pub captured : head.cap ≤ head.wire

  -- each record that a receiver has counted as lost was read
  abbrev pub IsCounted : Receiver S G → Type 0
  IsCounted rx = lost_total rx.losses ≤ rx.read

  -- a receiver either has the head of its next record or has stopped
  pub record IsReading (rx : Receiver S G) : Type 0 where
    pub next : IfSome rx.head (λ head. MatchOption rx.capture ⊥ (IsNext rx.read head))
    pub few : rx.read ≤ MAX_RECORDS
    pub lost : IsCounted rx

  -- where its source tells its bytes: it still gives these records, and then stops so; after a failed call nothing is said
  abbrev pub ToCome : Receiver S G → List Record → Stop → Type 0
  ToCome rx records stop =
      MatchOption rx.head (IsReadFault rx.stopped ⊎ ((records ≡ []) × (rx.stopped ≡ stop)))
      (λ head. MatchOption rx.capture ⊥ (λ c. StillGives G.remaining c records stop))

  -- no read has failed, and none will
  pub record IsFine (rx : Receiver S G) : Type 0 where
    pub sure : IfSome rx.capture (λ c. G.IsSure (source_of c))
    pub none_failed : IsReadFault rx.stopped → ⊥

  -- what no turn changes of an input, and what stays of it
  pub record StaysReceiver (before after : Receiver S G) : Type 0 where
    pub input : after.input ≡ before.input
    pub origin : after.origin ≡ before.origin
    pub fine : IsFine before → IsFine after
    -- one that was not opened gives no record, and one that has stopped stays as it is
    pub opened : after.stopped ≡ NotOpened → (before.stopped ≡ NotOpened) × (after.read ≡ before.read)
    pub still : before.head ≡ None → after ≡ before

  -- what a turn that answered this has made of a receiver that still gives these records and stops so, and of its marker
  abbrev pub Gives : Plan → Marker → Marker → Receiver S G → Received → ℕ → List Record → Stop → Type 0
  Gives p before after rx Nothing index records stop = (after.marks.items ≡ before.marks.items) × ToCome rx records stop
  Gives p before after rx received index records stop =
      (r : Record) × (rest : List Record) × (records ≡ r ∷ rest) × IsSorted p before after rx.input index r received × ToCome rx rest stop

-- a turn that answered this has counted the record, if it received one
abbrev pub Counted : {S : Type 0} {G : Ghosts S} → Receiver S G → Receiver S G → Received → Type 0
Counted before after (Packet m) = (after.read ≡ before.read + 1) × (after.losses ≡ before.losses)
Counted before after (Gone reason) = (after.read ≡ before.read + 1) × (after.losses ≡ counted before.losses (Lost reason))
Counted before after Nothing = (after.read ≡ before.read) × (after.losses ≡ before.losses) × (after.head ≡ None)

-- the losses after a record was received so
abbrev pub with_received : Losses → Received → Losses
with_received losses (Gone reason) = counted losses (Lost reason)
with_received losses _ = losses

-- an input of that number, of which nothing was received yet
pub record IsFresh (input : ℕ) {S : Type 0} {G : Ghosts S} (rx : Receiver S G) : Type 0 where
  pub input_is : rx.input ≡ input
  pub read_is : rx.read ≡ 0
  pub losses_is : rx.losses ≡ no_losses

-- the origin is that of a capture with these bytes, by its first head; or no head was read, and none will be
abbrev pub HasOrigin : {S : Type 0} {G : Ghosts S} → List ℕ → Receiver S G → Type 0
HasOrigin bytes rx = (rx.origin ≡ origin_of (first_stamp bytes MAX_RECORDS ∷ [])) ⊎ ((rx.head ≡ None) × (rx.origin ≡ 0))
