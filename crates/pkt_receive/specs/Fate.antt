-- What becomes of each record of an input, and the packets of those that are admitted.
use Rattle.std.specs.Prelude.{ℕ, ◌+◌, ◌==◌, Bool, false, if◌then◌else◌, Result, Ok, Err}
use Rattle.std.specs.Prelude.{List, [], ◌∷◌, ◌++◌, map, filter, count_by, slice_get, slice_index_or}
use Rattle.std.specs.Option.{option_map_or}
use Rattle.qos_base.specs.declared.packet.Colour.{Colour}
use Rattle.qos_base.specs.declared.packet.Colour.TheVariants.{Green, Yellow, Red}
use Rattle.qos_base.specs.declared.packet.Pkt.{Pkt}
use Rattle.qos_base.specs.declared.reason.Reason.{Reason}
use Rattle.qos_base.specs.declared.reason.Reason.TheVariants.{Policed}
use Rattle.qos_base.specs.Reason.{reason_number}
use Rattle.profile_plan.specs.Profile.{Plan}
use Rattle.port_classify.specs.declared.destination.Place.{Place}
use Rattle.qos_pcap.specs.Format.{Record}
use Rattle.pkt_receive.specs.declared.classify.Classified.{Classified}
use Rattle.pkt_receive.specs.declared.fate.Fate.{Fate}
use Rattle.pkt_receive.specs.declared.fate.Fate.TheVariants.{Admitted, Lost}
use Rattle.pkt_receive.specs.Classes.{class_of}
use Rattle.pkt_receive.specs.Colours.{Colours}

-- the place of a colour in a meter's list of what is dropped
abbrev pub colour_place : Colour → ℕ
colour_place Green = 0
colour_place Yellow = 1
colour_place Red = 2

-- the profile drops what comes out of a meter with this colour
abbrev pub drops : Plan → ℕ → Colour → Bool
drops p meter colour = option_map_or (λ m. slice_index_or m.drops (colour_place colour) false) (slice_get p.meters meter) false

-- at its place a packet that its meter gave this colour is policed where the profile drops it, else it is admitted with that colour
abbrev pub policed : Plan → ℕ → Colour → Place → Fate
policed p meter colour place = if drops p meter colour then Lost Policed else Admitted place colour

-- at its place a record without a meter is admitted with the colour that it came with
abbrev pub fate_at : Plan → (ℕ → Colour) → Place → Fate
fate_at p colour place = option_map_or (λ meter. policed p meter (colour meter) place) place.meter (Admitted place place.pre)

abbrev pub fate_by : Plan → (ℕ → Colour) → Result Classified Reason → Fate
fate_by p colour (Err reason) = Lost reason
fate_by p colour (Ok class) = fate_at p colour class.place

-- What becomes of the record at an index of an input, by the first that applies: it is lost where it comes to no place; policed;
-- else admitted at its place. `colours` are those of the meters' marks.
abbrev pub fate_of : Plan → Colours → ℕ → ℕ → Record → Fate
fate_of p colours input index r = fate_by p (λ meter. colours meter input index) (class_of p input r)

-- what becomes of the records of an input, where the first has this index
abbrev pub fates_from : Plan → Colours → ℕ → ℕ → List Record → List Fate
fates_from p colours input index [] = []
fates_from p colours input index (r ∷ rs) = fate_of p colours input index r ∷ fates_from p colours input (index + 1) rs

-- whether that fate is to be lost for the reason of this number
abbrev pub is_lost : ℕ → Fate → Bool
is_lost number (Admitted place colour) = false
is_lost number (Lost reason) = reason_number reason == number

-- how many of these records of an input are lost when they are received, for the reason of this number
abbrev pub lost_for : Plan → Colours → ℕ → ℕ → List Record → ℕ
lost_for p colours input number records = count_by (is_lost number) (fates_from p colours input 0 records)

-- the packet of the record at an index of an input, at its place and with its colour
abbrev pub packet_of : ℕ → ℕ → Record → Place → Colour → Pkt
packet_of input index r place colour = record {
  input = input;
  index = index;
  wire = r.wire;
  cap = r.cap;
  stamp = r.stamp;
  port = place.port;
  subport = place.subport;
  pipe = place.pipe;
  queue = place.queue;
  colour = colour;
}

-- the packet of a record of that fate, if it is admitted
abbrev pub packet_if : ℕ → ℕ → Record → Fate → List Pkt
packet_if input index r (Admitted place colour) = packet_of input index r place colour ∷ []
packet_if input index r (Lost reason) = []

-- the packets of the admitted records of an input, in order, where the first record has this index
abbrev pub admitted_from : Plan → Colours → ℕ → ℕ → List Record → List Pkt
admitted_from p colours input index [] = []
admitted_from p colours input index (r ∷ rs) =
    packet_if input index r (fate_of p colours input index r) ++ admitted_from p colours input (index + 1) rs

abbrev pub admitted : Plan → Colours → ℕ → List Record → List Pkt
admitted p colours input records = admitted_from p colours input 0 records

-- those of a port
abbrev pub to_port : ℕ → List Pkt → List Pkt
to_port port packets = filter (λ packet. packet.port == port) packets

-- the captured bytes of the record at an index
abbrev pub body_at : List Record → ℕ → List ℕ
body_at records index = slice_index_or (map (λ r. r.body) records) index []
