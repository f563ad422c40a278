-- The records and the stop of a capture's bytes.
use Rattle.std.specs.Prelude.{◌≡◌, ℕ, zero, suc, ◌+◌, ◌-◌, nat_lt, if◌then◌else◌, List, [], ◌∷◌, length, drop, Option, None, Some}
use Rattle.std.specs.Result.{MatchResult}
use Rattle.qos_pcap.specs.declared.fault.PcapFault.TheVariants.{TooMany, CutRecord, HugeRecord}
use Rattle.qos_pcap.specs.declared.fault.Stop.{Stop}
use Rattle.qos_pcap.specs.declared.fault.Stop.TheVariants.{End, Fault}
use Rattle.qos_pcap.specs.declared.form.Form.{Form}
use Rattle.qos_pcap.specs.declared.limits.TheConstants.{MAX_CAP}
use Rattle.qos_pcap.specs.Format.{Record, cap_in, record_in, header_of}

-- Where `left` more records may be read and these bytes remain, from offset `at` on: what stops the reading here, or none where a whole record begins.
abbrev pub stop_at : Form → ℕ → ℕ → List ℕ → Option Stop
stop_at form at left [] = Some End
stop_at form at zero (b ∷ bs) = Some (Fault (TooMany at))
stop_at form at (suc left) (b ∷ bs) =
    if nat_lt (length (b ∷ bs)) 16 then Some (Fault (CutRecord at))
    else if nat_lt MAX_CAP (cap_in form (b ∷ bs)) then Some (Fault (HugeRecord at (cap_in form (b ∷ bs))))
    else if nat_lt (length (b ∷ bs)) (16 + cap_in form (b ∷ bs)) then Some (Fault (CutRecord at))
    else None

-- the bytes from offset `at` on are these records, one after another, and then this stop; at most `limit` of them
abbrev pub ReadsFrom : Form → ℕ → ℕ → List ℕ → List Record → Stop → Type 0
ReadsFrom form at limit bytes [] stop = stop_at form at limit bytes ≡ Some stop
ReadsFrom form at limit bytes (r ∷ rs) stop =
    (stop_at form at limit bytes ≡ None) × (r ≡ record_in form bytes)
    × ReadsFrom form (at + 16 + r.cap) (limit - 1) (drop (16 + r.cap) bytes) rs stop

-- a capture's bytes have these records and this stop, where at most `limit` records may be read
abbrev pub Reads : List ℕ → ℕ → List Record → Stop → Type 0
Reads bytes limit records stop =
    MatchResult (header_of bytes) (λ form. ReadsFrom form 24 limit (drop 24 bytes) records stop)
    (λ fault. (records ≡ []) × (stop ≡ Fault fault))

-- a whole capture, with these records: it stops at its end
abbrev pub IsWholeCapture : ℕ → List ℕ → List Record → Type 0
IsWholeCapture limit bytes records = Reads bytes limit records End

-- each text and limit have exactly one list of records and one stop
pub record ReadsOneWay : Type 0 where
  pub some : (bytes : List ℕ) (limit : ℕ) → (records : List Record) × (stop : Stop) × Reads bytes limit records stop
  pub one : (bytes : List ℕ) (limit : ℕ) (records others : List Record) (stop other : Stop) → Reads bytes limit records stop → Reads bytes limit others other → (others ≡ records) × (other ≡ stop)
