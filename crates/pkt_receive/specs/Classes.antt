-- Where each record of an input goes, before a meter has coloured it.
use Rattle.std.specs.Prelude.{ℕ, ◌-◌, ◌<◌, ◌≤◌, nat_lt, if◌then◌else◌, length, Result, Ok, Err, IsSome, IfSome}
use Rattle.std.specs.Option.{option_map_or}
use Rattle.qos_base.specs.declared.reason.Reason.{Reason}
use Rattle.qos_base.specs.declared.reason.Reason.TheVariants.{Unparsed, Unmatched, Oversize, TooLong, NoSlot, TailFull}
use Rattle.profile_plan.specs.Profile.{Plan, subport_of}
use Rattle.port_classify.specs.declared.destination.Place.{Place}
use Rattle.port_classify.specs.declared.frame.Frame.{Frame}
use Rattle.port_classify.specs.Frame.{frame_of}
use Rattle.port_classify.specs.Place.{place_of}
use Rattle.qos_pcap.specs.Format.{Record}
use Rattle.pkt_slots.specs.Placed.{mtu_at}
use Rattle.pkt_receive.specs.declared.classify.Classified.{Classified}

-- at the place of its frame a record is oversize where it is longer on the line than the port's longest frame; the length
-- that counts for a meter is without the link header and tags
abbrev pub class_at : Plan → Record → Frame → Place → Result Classified Reason
class_at p r frame place = if nat_lt (mtu_at p place.port) r.wire then Err Oversize else Ok (record { place = place; len = r.wire - frame.header })

-- a record whose bytes are this frame is unmatched where no rule of the profile matches it
abbrev pub class_with : Plan → ℕ → Record → Frame → Result Classified Reason
class_with p input r frame = option_map_or (class_at p r frame) (place_of p input frame) (Err Unmatched)

-- Where a record of an input goes, or why it does not, by the first that applies: too long where more was captured than a slot
-- holds; unparsed where its bytes are no frame; unmatched; oversize.
abbrev pub class_of : Plan → ℕ → Record → Result Classified Reason
class_of p input r =
    if nat_lt p.pool.slot_bytes r.cap then Err TooLong
    else option_map_or (class_with p input r) (frame_of r.body) (Err Unparsed)

-- the reasons for which receive loses a record
abbrev pub IsLoss : Reason → Type 0
IsLoss NoSlot = ⊥
IsLoss TailFull = ⊥
IsLoss _ = Unit {0}

-- a place that a profile has for a packet of this length on the line
pub record IsWithin (p : Plan) (wire : ℕ) (place : Place) : Type 0 where
  pub port : place.port < length p.ports
  pub subport : IsSome (subport_of p.ports place.port place.subport)
  pub pipe : IfSome (subport_of p.ports place.port place.subport) (λ s. place.pipe < length s.pipes)
  pub queue : place.queue < 16
  pub meter : IfSome place.meter (λ m. m < length p.meters)
  pub short : wire ≤ mtu_at p place.port
