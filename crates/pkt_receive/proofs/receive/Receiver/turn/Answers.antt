use Rattle.std.proofs.Common.{◌≡◌, ◌≢◌, ◌∷◌, ◌⊎◌, [], ℕ, List, Option, Some, None, IfSome, IfNone, refl, sym}
use Rattle.qos_io.specs.declared.source.Source.{Ghosts}
use Rattle.qos_pcap.specs.declared.capture.Capture.{Capture}
use Rattle.qos_pcap.specs.declared.fault.Stop.{Stop}
use Rattle.qos_pcap.specs.declared.head.Head.{Head}
use Rattle.qos_pcap.specs.Format.{Record}
use Rattle.qos_pcap.specs.Given.{StillGives}
use Rattle.profile_plan.specs.Profile.{Plan}
use Rattle.pkt_receive.specs.Receiver.{Gives, IsReadFault, IsSorted, ToCome}
use Rattle.pkt_receive.specs.declared.marker.Marker.{Marker}
use Rattle.pkt_receive.specs.declared.receive.Received.{Received}
use Rattle.pkt_receive.specs.declared.receive.Received.TheVariants.{Admitted, Lost, Stopped}
use Rattle.pkt_receive.specs.declared.receive.Receiver.{Receiver}
use Rattle.pkt_receive.proofs.receive.Receiver.turn.Goals as goal

module _ {S : Type 0} (G : Ghosts S) where
  -- what was received is the first of the records, and the others are still to come
  gives-first : (p : Plan) (old new : Marker) (after : Receiver S G) (received : Received) (index : ℕ)
      → (records : List Record) (stop : Stop) → received ≢ Stopped
      → (r : Record) × (rest : List Record) × (records ≡ r ∷ rest) × IsSorted p old new after.input index r received
      × ToCome G after rest stop
      → Gives G p old new after received index records stop
  gives-first p old new after (Admitted m) index records stop some gives = gives
  gives-first p old new after (Lost reason) index records stop some gives = gives
  gives-first p old new after Stopped index records stop some gives = absurd (some refl)

  -- a capture that still gave no record stops so, unless a failed call stopped it
  abbrev StopsAs : Capture S G → Stop → Type 0
  StopsAs old stopped =
      (rs : List Record) (st : Stop) → StillGives G.remaining old rs st → IsReadFault stopped ⊎ ((rs ≡ []) × (stopped ≡ st))

  -- what is still to come once the next head was read, or there is none
  to-come : (old new : Capture S G) (head : Option Head) (after : Receiver S G) (records : List Record) (stop : Stop)
      → after.head ≡ head → after.capture ≡ Some new
      → IfSome head (λ _. (rs : List Record) (st : Stop) → StillGives G.remaining old rs st → StillGives G.remaining new rs st)
      → IfNone head (StopsAs old after.stopped)
      → StillGives G.remaining old records stop → ToCome G after records stop
  to-come old new None after records stop head_is capture_is keeps stops gives = rw head_is (stops records stop gives)
  to-come old new (Some head) after records stop head_is capture_is keeps stops gives =
      rw (head_is, capture_is) (keeps records stop gives)

pub returns-in-Ok-clause-received : goal.returns-in-Ok-clause-received
returns-in-Ok-clause-received g c = λ records stop come.
    let old = c.args.self.now in
    let after = c.count.new.self in
    let is = c.count.ensures in
    let gives : StillGives g.S.Source.remaining c.in-Some-capture.capture records stop = rw (c.in-Some.is, c.in-Some-capture.is) at come in
    let next = rw (c.in-Some.is, c.in-Some-capture.is) at c.requires.reading.next in
    let given = c.in-Ok.ensures.received records stop gives in
    let p = c.args.p.now in
    let marker = c.args.marker.now in
    let marked = c.receive.new.marker in
    let received = c.in-Ok.received in
    let sorted : IsSorted p marker marked after.input old.read given.0 received = rw (is, sym next.place) given.3 in
    gives-first g.S.Source p marker marked after received old.read records stop c.in-Ok.ensures.something (
      given.0,
      given.1,
      given.2,
      sorted,
      to-come g.S.Source c.receive.new.capture c.next_of.new.capture c.next_of.result.0 after given.1 stop (rw is) (rw is)
          c.next_of.ensures.keeps (rw is c.next_of.ensures.stops) given.4,
    )
