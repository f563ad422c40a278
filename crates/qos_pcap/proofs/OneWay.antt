-- A text and a limit have exactly one list of records and one stop.
use Rattle.std.proofs.Common.{◌≡◌, ◌⊎◌, ℕ, zero, suc, ◌+◌, ◌-◌, List, [], ◌∷◌, drop, Option, Some, None, Result, Ok, Err, refl, sym, ◌∙◌, subst, inl, inr, sub-one}
use Rattle.qos_pcap.specs.declared.fault.PcapFault.{PcapFault}
use Rattle.qos_pcap.specs.declared.fault.PcapFault.TheVariants.{TooMany}
use Rattle.qos_pcap.specs.declared.fault.Stop.{Stop}
use Rattle.qos_pcap.specs.declared.fault.Stop.TheVariants.{End, Fault}
use Rattle.qos_pcap.specs.declared.form.Form.{Form}
use Rattle.qos_pcap.specs.Format.{Record, record_in, header_of}
use Rattle.qos_pcap.specs.Reads.{stop_at, ReadsFrom, Reads, ReadsOneWay}

none_or_some : {A : Type 0} (o : Option A) → (o ≡ None) ⊎ ((x : A) × (o ≡ Some x))
none_or_some None = inl refl
none_or_some (Some x) = inr (x, refl)

-- some records and some stop, from a place on
abbrev SomeFrom : Form → ℕ → ℕ → List ℕ → Type 0
SomeFrom form at limit bytes =
    (records : List Record) × (stop : Stop) × ReadsFrom form at limit bytes records stop

-- one record and what follows it
one_more : (form : Form) (at limit : ℕ) (bytes : List ℕ) → stop_at form at (suc limit) bytes ≡ None
    → SomeFrom form (at + 16 + (record_in form bytes).cap) limit (drop (16 + (record_in form bytes).cap) bytes) → SomeFrom form at (suc limit) bytes
one_more form at limit bytes none (records, stop, reads) =
    (record_in form bytes ∷ records, stop, (none, refl, rw (sub-one (suc limit)) reads))

some_from : (form : Form) (limit at : ℕ) (bytes : List ℕ) → SomeFrom form at limit bytes
some_from form zero at [] = ([], End, refl)
some_from form zero at (b ∷ bs) = ([], Fault (TooMany at), refl)
some_from form (suc limit) at bytes = elim (none_or_some (stop_at form at (suc limit) bytes)) [
  | inl none ↦
      one_more form at limit bytes none (some_from form limit (at + 16 + (record_in form bytes).cap) (drop (16 + (record_in form bytes).cap) bytes))
  | inr found ↦ ([], found.0, found.1)
]

-- from a place on there are no others
one_from : (form : Form) (at limit : ℕ) (bytes : List ℕ) (records others : List Record) (stop other : Stop)
    → ReadsFrom form at limit bytes records stop → ReadsFrom form at limit bytes others other → (others ≡ records) × (other ≡ stop)
one_from form at limit bytes [] [] stop other reads else = (refl, cc)
one_from form at limit bytes [] (s ∷ ss) stop other reads else = cc (else.0)
one_from form at limit bytes (r ∷ rs) [] stop other reads else = cc (reads.0)
one_from form at limit bytes (r ∷ rs) (s ∷ ss) stop other reads else =
    let same : s ≡ r = else.1 ∙ sym reads.1 in
    let after : ReadsFrom form (at + 16 + r.cap) (limit - 1) (drop (16 + r.cap) bytes) ss other =
    subst (λ (x : Record). ReadsFrom form (at + 16 + x.cap) (limit - 1) (drop (16 + x.cap) bytes) ss other) same else.2 in
    let rest = one_from form (at + 16 + r.cap) (limit - 1) (drop (16 + r.cap) bytes) rs ss stop other reads.2 after in
    (cc, rest.1)

some_after : (header : Result Form PcapFault) (bytes : List ℕ) (limit : ℕ) → header_of bytes ≡ header → (records : List Record) × (stop : Stop) × Reads bytes limit records stop
some_after (Ok form) bytes limit e =
    let found = some_from form limit 24 (drop 24 bytes) in (found.0, found.1, rw e found.2)
some_after (Err fault) bytes limit e = ([], Fault fault, rw e (refl, refl))

one_after : (header : Result Form PcapFault) (bytes : List ℕ) (limit : ℕ) (records others : List Record) (stop other : Stop)
    → header_of bytes ≡ header → Reads bytes limit records stop → Reads bytes limit others other → (others ≡ records) × (other ≡ stop)
one_after (Ok form) bytes limit records others stop other e reads else =
    one_from form 24 limit (drop 24 bytes) records others stop other (rw e at reads) (rw e at else)
one_after (Err fault) bytes limit records others stop other e reads else =
    let first = rw e at reads in
    let second = rw e at else in
    (second.0 ∙ sym first.0, second.1 ∙ sym first.1)

pub reads_one_way : ReadsOneWay
reads_one_way = record {
  some = λ bytes limit. some_after (header_of bytes) bytes limit refl;
  one = λ bytes limit records others stop other. one_after (header_of bytes) bytes limit records others stop other refl;
}
