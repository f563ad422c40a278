-- What is written: little-endian captures with nanoseconds, version 2.4, link type Ethernet.
use Rattle.std.specs.Prelude.{◌≡◌, ◌<◌, ◌≤◌, ℕ, ◌^◌, ◌/◌, ◌%◌, List, ◌++◌, length, All}
use Rattle.std.specs.List.{flat_map}
use Rattle.byteorder.specs.Endian.{little_bytes}
use Rattle.qos_pcap.specs.declared.limits.TheConstants.{MAX_CAP}
use Rattle.qos_pcap.specs.Format.{Record}
use Rattle.qos_pcap.specs.Reads.{IsWholeCapture}

-- the header of 24 bytes: magic, version, zone, accuracy, greatest captured length, link type
abbrev pub header_text : List ℕ
header_text =
    little_bytes 4 0xa1b23c4d ++ little_bytes 2 2 ++ little_bytes 2 4 ++ little_bytes 4 0 ++ little_bytes 4 0 ++ little_bytes 4 262144 ++ little_bytes 4 1

-- a record: seconds, nanoseconds, captured length, length on the line, and the captured bytes
abbrev pub record_text : ℕ → ℕ → List ℕ → List ℕ
record_text stamp wire body =
    little_bytes 4 (stamp / 1000000000) ++ little_bytes 4 (stamp % 1000000000) ++ little_bytes 4 (length body) ++ little_bytes 4 wire ++ body

-- the header, and the records one after another
abbrev pub capture_text : List Record → List ℕ
capture_text records =
    header_text ++ flat_map (λ (r : Record). record_text r.stamp r.wire r.body) records

-- a record that can be written: it has all its captured bytes, no more than there were on the line, and numbers that fit their fields
pub record IsWritable (r : Record) : Type 0 where
  pub cap : r.cap ≡ length r.body
  pub cap_limit : r.cap ≤ MAX_CAP
  pub cap_within_wire : r.cap ≤ r.wire
  pub wire : r.wire < 2 ^ 32
  pub stamp : r.stamp ≤ 4294967295999999999

-- what is written is read again: a whole capture with the same records
pub record ReadsBack : Type 0 where
  pub each : (records : List Record) (limit : ℕ) → All IsWritable records → length records ≤ limit → IsWholeCapture limit (capture_text records) records
