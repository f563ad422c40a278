-- The first head of a capture, against its records.
use Rattle.std.proofs.Common.{◌≡◌, ℕ, zero, suc, ◌+◌, true, false, nat_lt, List, [], ◌∷◌, length, drop, Some, None, Result, Ok, Err, refl, sym, ap, ◌∙◌, inl, inr, arith}
use Rattle.std.proofs.lemmas.Bool.{cases_lt}
use Rattle.std.proofs.lemmas.Bool.Decides.{nat_tests}
use Rattle.qos_pcap.specs.declared.fault.PcapFault.{PcapFault}
use Rattle.qos_pcap.specs.declared.fault.Stop.{Stop}
use Rattle.qos_pcap.specs.declared.fault.Stop.TheVariants.{End}
use Rattle.qos_pcap.specs.declared.form.Form.{Form}
use Rattle.qos_pcap.specs.declared.limits.TheConstants.{MAX_CAP}
use Rattle.qos_pcap.specs.First.{FirstStamps, first_stamp, stamp_at}
use Rattle.qos_pcap.specs.Format.{Record, cap_in, header_of, stamp_in}
use Rattle.qos_pcap.specs.Reads.{Reads, stop_at}
use Rattle.qos_pcap.proofs.Giving.{stamp_at-huge, stamp_at-short, stamp_at-there}

-- where a whole record begins, its head is there
stamp_at-record : (form : Form) (at left : ℕ) (bytes : List ℕ) → stop_at form at left bytes ≡ None → stamp_at form left bytes ≡ Some (stamp_in form bytes)
stamp_at-record form at left [] none = cc
stamp_at-record form at zero (b ∷ bs) none = cc
stamp_at-record form at (suc left) (b ∷ bs) none = elim (cases_lt (length (b ∷ bs)) 16) [
  | inl short ↦
      let test : nat_lt (length (b ∷ bs)) 16 ≡ true = grind (arith, nat_tests) in
      let e = rw test at none in cc
  | inr long ↦
      let there : nat_lt (length (b ∷ bs)) 16 ≡ false = grind (arith, nat_tests) in
      elim (cases_lt MAX_CAP (cap_in form (b ∷ bs))) [
        | inl huge ↦
            let test : nat_lt MAX_CAP (cap_in form (b ∷ bs)) ≡ true = grind (arith, nat_tests) in
            let e = rw (there, test) at none in cc
        | inr fits ↦ stamp_at-there form (suc left) (b ∷ bs) (omega arith) long fits
      ]
]

-- where the reading ends, no head is there
stamp_at-end : (form : Form) (at left : ℕ) (bytes : List ℕ) → stop_at form at left bytes ≡ Some End → stamp_at form left bytes ≡ None
stamp_at-end form at left [] end = stamp_at-short form left [] (omega arith)
stamp_at-end form at zero (b ∷ bs) end = refl
stamp_at-end form at (suc left) (b ∷ bs) end = elim (cases_lt (length (b ∷ bs)) 16) [
  | inl short ↦ stamp_at-short form (suc left) (b ∷ bs) short
  | inr long ↦
      let there : nat_lt (length (b ∷ bs)) 16 ≡ false = grind (arith, nat_tests) in
      elim (cases_lt MAX_CAP (cap_in form (b ∷ bs))) [
        | inl huge ↦ stamp_at-huge form (suc left) (b ∷ bs) huge
        | inr fits ↦
            let test : nat_lt MAX_CAP (cap_in form (b ∷ bs)) ≡ false = grind (arith, nat_tests) in
            elim (cases_lt (length (b ∷ bs)) (16 + cap_in form (b ∷ bs))) [
              | inl cut ↦
                  let body : nat_lt (length (b ∷ bs)) (16 + cap_in form (b ∷ bs)) ≡ true = grind (arith, nat_tests) in
                  let e = rw (there, test, body) at end in cc
              | inr whole ↦
                  let body : nat_lt (length (b ∷ bs)) (16 + cap_in form (b ∷ bs)) ≡ false = grind (arith, nat_tests) in
                  let e = rw (there, test, body) at end in cc
            ]
      ]
]

first_of : (header : Result Form PcapFault) (bytes : List ℕ) (limit : ℕ) (first : Record) (rest : List Record) (stop : Stop)
    → header_of bytes ≡ header → Reads bytes limit (first ∷ rest) stop → first_stamp bytes limit ≡ Some first.stamp
first_of (Ok form) bytes limit first rest stop e reads =
    let from = rw e at reads in
    rw e (stamp_at-record form 24 limit (drop 24 bytes) from.0 ∙ ap (λ (r : Record). Some r.stamp) (sym from.1))
first_of (Err fault) bytes limit first rest stop e reads =
    let none = rw e at reads in cc (none.0)

none_of : (header : Result Form PcapFault) (bytes : List ℕ) (limit : ℕ) → header_of bytes ≡ header → Reads bytes limit [] End → first_stamp bytes limit ≡ None
none_of (Ok form) bytes limit e reads = rw e (stamp_at-end form 24 limit (drop 24 bytes) (rw e at reads))
none_of (Err fault) bytes limit e reads = rw e refl

pub first_stamps : FirstStamps
first_stamps = record {
  of_record = λ bytes limit first rest stop. first_of (header_of bytes) bytes limit first rest stop refl;
  none = λ bytes limit. none_of (header_of bytes) bytes limit refl;
}
