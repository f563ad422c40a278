-- What a header tells, from the first 24 bytes of a capture.
use Rattle.std.proofs.Common.{◌≡◌, ◌≤◌, ℕ, false, nat_lt, List, [], length, take, drop, Option, Some, None, Result, Err, refl, ap, ◌∙◌, subst, inl, inr, arith}
use Rattle.std.specs.Result.{MatchResult}
use Rattle.std.proofs.lemmas.Bool.{cases_lt}
use Rattle.std.proofs.lemmas.Bool.Decides.{nat_tests}
use Rattle.std.proofs.lemmas.List.{length-take-le, take_all, take_at}
use Rattle.byteorder.specs.Endian.{little_number, big_number}
use Rattle.byteorder.specs.Numbers.{big_from-take, little_from-take}
use Rattle.qos_pcap.specs.declared.fault.PcapFault.{PcapFault}
use Rattle.qos_pcap.specs.declared.fault.Stop.{Stop}
use Rattle.qos_pcap.specs.declared.fault.Stop.TheVariants.{Fault}
use Rattle.qos_pcap.specs.declared.form.Form.{Form}
use Rattle.qos_pcap.specs.Fill.{Fills}
use Rattle.qos_pcap.specs.First.{first_stamp, stamp_after}
use Rattle.qos_pcap.specs.Format.{Record, header_after, header_of, magic_form}
use Rattle.qos_pcap.specs.Reads.{Reads, ReadsFrom}
use Rattle.qos_pcap.proofs.Giving.{number_in-front}

-- the magic number stands in the first 24 bytes
magic_form-front : (bytes : List ℕ) → magic_form (take 24 bytes) ≡ magic_form bytes
magic_form-front bytes =
    let little : little_number 4 (take 24 bytes) ≡ little_number 4 bytes = little_from-take 0 4 24 bytes (omega arith) in
    let big : big_number 4 (take 24 bytes) ≡ big_number 4 bytes = big_from-take 0 4 24 bytes (omega arith) in
    rw (little, big) refl

-- and so do the version and the link type
header_after-front : (bytes : List ℕ) (o : Option Form) → header_after (take 24 bytes) o ≡ header_after bytes o
header_after-front bytes None = refl
header_after-front bytes (Some form) =
    let major = number_in-front form.order 4 2 20 24 bytes refl (omega arith) in
    let link = number_in-front form.order 20 4 4 24 bytes refl (omega arith) in
    rw (major, link) refl

-- the first 24 bytes tell the header
header_of-front : (bytes : List ℕ) → header_of (take 24 bytes) ≡ header_of bytes
header_of-front bytes = elim (cases_lt (length bytes) 24) [
  | inl short ↦ ap header_of (take_all 24 bytes (omega arith))
  | inr long ↦
      let size : length (take 24 bytes) ≡ 24 = length-take-le 24 bytes long in
      let front : nat_lt (length (take 24 bytes)) 24 ≡ false = grind (arith, nat_tests) in
      let all : nat_lt (length bytes) 24 ≡ false = grind (arith, nat_tests) in
      rw (front, all) (ap (header_after (take 24 bytes)) (magic_form-front bytes) ∙ header_after-front bytes (magic_form bytes))
]

-- a buffer of 24 bytes was filled as far as there were any: what it has tells the header
pub header_of-filled : (n : ℕ) (start buf bytes : List ℕ) → length start ≡ 24 → Fills n start buf bytes → header_of (take n buf) ≡ header_of bytes
header_of-filled n start buf bytes size filled =
    let there : n ≤ length bytes = omega (arith, filled.count) in
    let front : take n buf ≡ take n bytes = ap (take n) filled.front ∙ take_at (take n bytes) (drop n start) n (length-take-le n bytes there) in
    elim (cases_lt (length bytes) 24) [
      | inl short ↦ let all : n ≡ length bytes = omega (arith, filled.count) in ap header_of (front ∙ take_all n bytes (omega arith))
      | inr long ↦
          let all : n ≡ 24 = omega (arith, filled.count) in
          ap header_of (front ∙ ap (λ (k : ℕ). take k bytes) all) ∙ header_of-front bytes
    ]

-- a header at fault: no record, and that stop
pub header_fault : (bytes : List ℕ) (limit : ℕ) (fault : PcapFault) (records : List Record) (stop : Stop) → header_of bytes ≡ Err fault → Reads bytes limit records stop
    → (records ≡ []) × (stop ≡ Fault fault)
header_fault bytes limit fault records stop e reads =
    subst (λ (h : Result Form PcapFault). MatchResult h (λ form. ReadsFrom form 24 limit (drop 24 bytes) records stop) (λ fault. (records ≡ []) × (stop ≡ Fault fault))) e reads

-- and no first head
pub header_fault-first : (bytes : List ℕ) (limit : ℕ) (fault : PcapFault) → header_of bytes ≡ Err fault → first_stamp bytes limit ≡ None
header_fault-first bytes limit fault e = ap (λ (h : Result Form PcapFault). stamp_after h limit (drop 24 bytes)) e
