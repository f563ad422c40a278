-- The output of a port: its header, and the records of the packets that it sends.
use Rattle.std.specs.Prelude.{◌≡◌, ℕ, List, ◌++◌, length, take, Some, slice_get}
use Rattle.std.specs.List.{flat_map}
use Rattle.qos_base.specs.declared.packet.Pkt.{Pkt}
use Rattle.qos_base.specs.declared.packet.Departure.{Departure}
use Rattle.qos_base.specs.Time.{send_stamp_of}
use Rattle.qos_pcap.specs.Written.{header_text, record_text}

-- how sends are written: the origin of their stamps in nanoseconds, the line's rate in bytes per second, and what was
-- captured of each packet
pub record Target : Type 0 where
  pub origin : ℕ
  pub line : ℕ
  pub body : Pkt → List ℕ

-- the record of a send, stamped with the moment at which it goes out
unfoldable pub send_text : Target → Departure Pkt → List ℕ
send_text t d = record_text (send_stamp_of t.origin d.time t.line) d.parcel.wire (t.body d.parcel)

-- the whole output: the header, and the records of its sends, one after another
unfoldable pub output_text : Target → List (Departure Pkt) → List ℕ
output_text t sends = header_text ++ flat_map (send_text t) sends

module _ (t : Target) (sends : List (Departure Pkt)) where
  -- a sink that refused no put: it holds the records of all sends
  pub record IsWhole (count : ℕ) (text : List ℕ) : Type 0 where
    pub all : count ≡ length sends
    pub is : text ≡ output_text t sends

  -- a sink that refused a put: it holds the records of the first `count` sends, and what it took of that put
  pub data IsCut (count : ℕ) (text : List ℕ) : Type 0 where
    in_header : count ≡ 0 → (n : ℕ) → text ≡ take n header_text → IsCut count text
    in_record : (next : Departure Pkt) → slice_get sends count ≡ Some next → (n : ℕ)
        → text ≡ output_text t (take count sends) ++ take n (send_text t next) → IsCut count text
