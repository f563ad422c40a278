-- What is looked at of a parcel.
use Rattle.std.specs.Prelude.{List, map}
use Rattle.qos_base.specs.declared.packet.Pkt.{Pkt}
use Rattle.qos_base.specs.declared.packet.Departure.{Departure}

-- a packet, as its own parcel
abbrev pub itself : Pkt → Pkt
itself p = p

module _ {T : Type 0} where
  -- the parcels that were sent
  abbrev pub parcels : List (Departure T) → List T
  parcels sends = map (λ d. d.parcel) sends

  -- a send, of which only the packet is looked at
  abbrev pub seen_send : (T → Pkt) → Departure T → Departure Pkt
  seen_send packet d = record { parcel = packet d.parcel; time = d.time }
