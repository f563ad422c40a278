-- What is written is read again.
use Rattle.std.proofs.Common.{◌≡◌, ◌<◌, ◌≤◌, ℕ, ◌+◌, ◌-◌, ◌*◌, ◌/◌, ◌%◌, ◌^◌, max, nat_lt, false, List, [], ◌∷◌, ◌++◌, length, take, drop, All, Ok, refl, sym, ap, ◌∙◌, arith, length-append}
use Rattle.std.specs.List.{flat_map}
use Rattle.std.proofs.lemmas.Bool.Decides.{nat_tests}
use Rattle.std.proofs.lemmas.List.{drop-drop, drop_at, take_at}
use Rattle.std.proofs.lemmas.List.Elements.{All-head, All-tail}
use Rattle.std.proofs.lemmas.Nat.{div_below, mod_below}
use Rattle.byteorder.specs.Endian.{little_bytes, little_number}
use Rattle.byteorder.specs.Numbers.{little_number-reads_back}
use Rattle.qos_pcap.specs.declared.fault.Stop.TheVariants.{End}
use Rattle.qos_pcap.specs.declared.form.Form.{Form}
use Rattle.qos_pcap.specs.declared.form.Order.TheVariants.{Little}
use Rattle.qos_pcap.specs.Format.{Record, cap_in, header_of, record_in}
use Rattle.qos_pcap.specs.Reads.{ReadsFrom}
use Rattle.qos_pcap.specs.Written.{IsWritable, ReadsBack, header_text, record_text}
use Rattle.qos_pcap.proofs.Giving.{ReadsFrom-same, stop_at-whole}

-- the form that is written
abbrev little_nanoseconds : Form
little_nanoseconds = record { order = Little; unit = 1 }

-- the records' texts, one after another
abbrev texts : List Record → List ℕ
texts records = flat_map (λ (r : Record). record_text r.stamp r.wire r.body) records

header_of-header_text : (rest : List ℕ) → header_of (header_text ++ rest) ≡ Ok little_nanoseconds
header_of-header_text rest =
    let long : nat_lt (length (header_text ++ rest)) 24 ≡ false = grind (arith, nat_tests) in rw long refl

whole_stamp : (stamp : ℕ) → stamp / 1000000000 * 1000000000 + stamp % 1000000000 * 1 ≡ stamp
whole_stamp stamp = omega arith

max-within : (m n : ℕ) → m ≤ n → max m n ≡ n
max-within m n h = omega arith

-- a number of four bytes that stands in front of other bytes
number-four : (x : ℕ) (rest : List ℕ) → x < 2 ^ 32 → little_number 4 (little_bytes 4 x ++ rest) ≡ x
number-four x rest fits = little_number-reads_back 4 x rest fits

same_record : (stamp cap wire : ℕ) (body : List ℕ) (r : Record) → stamp ≡ r.stamp → cap ≡ r.cap → wire ≡ r.wire → body ≡ r.body
    → ◌≡◌ {A = Record} (record { stamp = stamp; cap = cap; wire = wire; body = body }) r
same_record stamp cap wire body r stamp_is cap_is wire_is body_is =
    rw (stamp_is, cap_is, wire_is, body_is) refl

-- the record in its text
record_in-record_text : (r : Record) (rest : List ℕ) → IsWritable r → record_in little_nanoseconds (record_text r.stamp r.wire r.body ++ rest) ≡ r
record_in-record_text r rest is =
    let text = record_text r.stamp r.wire r.body ++ rest in
    let seconds : little_number 4 text ≡ r.stamp / 1000000000 = number-four (r.stamp / 1000000000) (drop 4 text) (div_below r.stamp 1000000000 (2 ^ 32) (omega arith) (omega (arith, is.stamp))) in
    let fraction : little_number 4 (drop 4 text) ≡ r.stamp % 1000000000 = number-four (r.stamp % 1000000000) (drop 8 text) (omega (arith, mod_below r.stamp 1000000000 (omega arith))) in
    let cap : little_number 4 (drop 8 text) ≡ length r.body = number-four (length r.body) (drop 12 text) (omega (arith, is.cap, is.cap_limit)) in
    let wire : little_number 4 (drop 12 text) ≡ r.wire = number-four r.wire (drop 16 text) is.wire in
    let stamp : little_number 4 text * 1000000000 + little_number 4 (drop 4 text) * 1 ≡ r.stamp =
    ap (λ (x : ℕ). x * 1000000000 + little_number 4 (drop 4 text) * 1) seconds ∙ ap (λ (x : ℕ). r.stamp / 1000000000 * 1000000000 + x * 1) fraction ∙ whole_stamp r.stamp in
    let longer : max (little_number 4 (drop 8 text)) (little_number 4 (drop 12 text)) ≡ r.wire =
    ap (λ (x : ℕ). max x (little_number 4 (drop 12 text))) cap ∙ ap (λ (x : ℕ). max (length r.body) x) wire ∙ max-within (length r.body) r.wire (omega (arith, is.cap, is.cap_within_wire)) in
    let body : take (little_number 4 (drop 8 text)) (drop 16 text) ≡ r.body =
    ap (λ (x : ℕ). take x (r.body ++ rest)) cap ∙ take_at r.body rest (length r.body) refl in
    same_record _ _ _ _ r stamp (cap ∙ sym is.cap) longer body

text-length : (r : Record) (rest : List ℕ) → length (record_text r.stamp r.wire r.body ++ rest) ≡ 16 + length (r.body ++ rest)
text-length r rest = omega arith

-- the records are read from their texts, where as many may be read
ReadsFrom-texts : (at limit : ℕ) (records : List Record) → All IsWritable records → length records ≤ limit → ReadsFrom little_nanoseconds at limit (texts records) records End
ReadsFrom-texts at limit [] all room = refl
ReadsFrom-texts at limit (r ∷ rs) all room =
    let first = All-head IsWritable r rs all in
    let bytes = record_text r.stamp r.wire r.body ++ texts rs in
    let here = record_in-record_text r (texts rs) first in
    let cap : cap_in little_nanoseconds bytes ≡ r.cap = ap (λ (x : Record). x.cap) here in
    let size = text-length r (texts rs) in
    let body = length-append r.body (texts rs) in
    let none = stop_at-whole little_nanoseconds at limit bytes (omega arith) (omega (arith, size)) (rw cap first.cap_limit) (rw cap (omega (arith, size, body, first.cap))) in
    let behind : texts rs ≡ drop (16 + r.cap) bytes = sym (drop_at r.body (texts rs) r.cap (sym first.cap)) ∙ drop-drop r.cap 16 bytes in
    (none, sym here, ReadsFrom-same little_nanoseconds _ _ _ _ _ _ rs End refl refl behind (ReadsFrom-texts (at + 16 + r.cap) (limit - 1) rs (All-tail IsWritable r rs all) (omega arith)))

pub reads_back : ReadsBack
reads_back = record {
  each = λ records limit all room.
      rw (header_of-header_text (texts records)) (ReadsFrom-texts 24 limit records all room);
}
