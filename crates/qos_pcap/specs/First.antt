-- The stamp of a head that can be read, whether its body is whole or cut.
use Rattle.std.specs.Prelude.{◌≡◌, ◌≢◌, ℕ, zero, suc, nat_lt, if◌then◌else◌, List, [], ◌∷◌, length, drop, Option, None, Some, Result, Ok, Err}
use Rattle.qos_pcap.specs.declared.fault.PcapFault.{PcapFault}
use Rattle.qos_pcap.specs.declared.fault.PcapFault.TheVariants.{Read}
use Rattle.qos_pcap.specs.declared.fault.Stop.{Stop}
use Rattle.qos_pcap.specs.declared.form.Form.{Form}
use Rattle.qos_pcap.specs.declared.head.Head.{Head}
use Rattle.qos_pcap.specs.declared.limits.TheConstants.{MAX_CAP}
use Rattle.qos_pcap.specs.Format.{Record, cap_in, header_of, stamp_in}
use Rattle.qos_pcap.specs.Reads.{Reads, IsWholeCapture}

-- The stamp that the head at the front of these bytes has, where `left` more records may be read. A head is there where
-- its 16 bytes are and its captured length is at most MAX_CAP.
abbrev pub stamp_at : Form → ℕ → List ℕ → Option ℕ
stamp_at form zero bytes = None
stamp_at form (suc left) bytes =
    if nat_lt (length bytes) 16 then None
    else if nat_lt MAX_CAP (cap_in form bytes) then None
    else Some (stamp_in form bytes)

abbrev pub stamp_after : Result Form PcapFault → ℕ → List ℕ → Option ℕ
stamp_after (Ok form) limit bytes = stamp_at form limit bytes
stamp_after (Err fault) limit bytes = None

-- the stamp of the first head in a capture's bytes, or none where no first head can be read
abbrev pub first_stamp : List ℕ → ℕ → Option ℕ
first_stamp bytes limit = stamp_after (header_of bytes) limit (drop 24 bytes)

-- this answer to the question for the next head is right where the next head has this stamp, or where there is none
abbrev pub AnswersStamp : Option ℕ → Result (Option Head) PcapFault → Type 0
AnswersStamp stamp (Ok None) = stamp ≡ None
AnswersStamp stamp (Ok (Some head)) = stamp ≡ Some head.stamp
AnswersStamp stamp (Err fault) = fault ≢ Read → stamp ≡ None

-- the first head is that of the first record, where there is one, and a whole capture without a record has none
pub record FirstStamps : Type 0 where
  pub of_record : (bytes : List ℕ) (limit : ℕ) (first : Record) (rest : List Record) (stop : Stop) → Reads bytes limit (first ∷ rest) stop → first_stamp bytes limit ≡ Some first.stamp
  pub none : (bytes : List ℕ) (limit : ℕ) → IsWholeCapture limit bytes [] → first_stamp bytes limit ≡ None
