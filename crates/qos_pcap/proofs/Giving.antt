-- What a capture gives, from what was read of its source.
use Rattle.std.proofs.Common.{◌≡◌, ◌≢◌, ◌<◌, ◌≤◌, ℕ, zero, suc, ◌+◌, ◌-◌, ◌*◌, max, true, false, nat_lt, if◌then◌else◌, List, [], ◌∷◌, length, take, drop, Option, Some, None, refl, sym, ap, ◌∙◌, subst, inl, inr, arith}
use Rattle.std.specs.Option.{MatchOption}
use Rattle.std.proofs.lemmas.Bool.{cases_lt}
use Rattle.std.proofs.lemmas.Bool.Decides.{nat_tests}
use Rattle.std.proofs.lemmas.List.{append-nil, drop-drop, drop-take, drop_all, length-drop}
use Rattle.byteorder.specs.Numbers.{big_from-take, little_from-take}
use Rattle.qos_pcap.specs.declared.capture.Place.{Place}
use Rattle.qos_pcap.specs.declared.capture.Place.TheVariants.{Record as AtRecord, Body as AtBody, Stopped as AtStop}
use Rattle.qos_pcap.specs.declared.fault.PcapFault.{PcapFault}
use Rattle.qos_pcap.specs.declared.fault.PcapFault.TheVariants.{TooMany, CutRecord, HugeRecord}
use Rattle.qos_pcap.specs.declared.fault.Stop.{Stop}
use Rattle.qos_pcap.specs.declared.fault.Stop.TheVariants.{End, Fault}
use Rattle.qos_pcap.specs.declared.form.Form.{Form}
use Rattle.qos_pcap.specs.declared.form.Order.{Order}
use Rattle.qos_pcap.specs.declared.form.Order.TheVariants.{Little, Big}
use Rattle.qos_pcap.specs.declared.head.Head.{Head}
use Rattle.qos_pcap.specs.declared.limits.TheConstants.{MAX_CAP}
use Rattle.qos_pcap.specs.Fill.{Fills}
use Rattle.qos_pcap.specs.First.{stamp_at}
use Rattle.qos_pcap.specs.Format.{Record, cap_in, number_in, record_in, stamp_in}
use Rattle.qos_pcap.specs.Given.{GivesAt, GivesBody, IsStop, next_stamp, untaken_at}
use Rattle.qos_pcap.specs.Heads.{IsHeadIn, recorded}
use Rattle.qos_pcap.specs.Reads.{ReadsFrom, stop_at}

pub stopped_place : (p : Place) → IsStop p → p ≡ AtStop
stopped_place AtRecord s = absurd s
stopped_place (AtBody head) s = absurd s
stopped_place AtStop s = refl

-- what a place between two records gives, once the bytes are known
pub reads_from : (o : Option (List ℕ)) (form : Form) (p : Place) (at left : ℕ) (records : List Record) (stop : Stop) → untaken_at p ≡ None
    → MatchOption o ⊥ (λ bytes. GivesAt form p at left bytes records stop) → (bytes : List ℕ) × (o ≡ Some bytes) × ReadsFrom form at left bytes records stop
reads_from None form p at left records stop e h = absurd h
reads_from (Some bytes) form AtRecord at left records stop e h = (bytes, refl, h)
reads_from (Some bytes) form (AtBody head) at left records stop e h = cc
reads_from (Some bytes) form AtStop at left records stop e h = absurd h

-- what a place before a body gives, once the bytes are known
pub gives_body : (o : Option (List ℕ)) (form : Form) (p : Place) (head : Head) (at left : ℕ) (records : List Record) (stop : Stop) → untaken_at p ≡ Some head
    → MatchOption o ⊥ (λ bytes. GivesAt form p at left bytes records stop) → (bytes : List ℕ) × (o ≡ Some bytes) × GivesBody form head at left bytes records stop
gives_body None form p head at left records stop e h = absurd h
gives_body (Some bytes) form AtRecord head at left records stop e h = cc
gives_body (Some bytes) form (AtBody other) head at left records stop e h =
    let same : other ≡ head = cc in
    (bytes, refl, subst (λ (x : Head). GivesBody form x at left bytes records stop) same h)
gives_body (Some bytes) form AtStop head at left records stop e h = absurd h

-- the stamp of the next head at a place that has not stopped, once the bytes are known
pub stamp_from : (o : Option (List ℕ)) (form : Form) (p : Place) (left : ℕ) (stamp : Option ℕ) → untaken_at p ≡ None → p ≢ AtStop
    → MatchOption o ⊥ (λ bytes. stamp ≡ next_stamp form p left bytes) → (bytes : List ℕ) × (o ≡ Some bytes) × (stamp ≡ stamp_at form left bytes)
stamp_from None form p left stamp e on h = absurd h
stamp_from (Some bytes) form AtRecord left stamp e on h = (bytes, refl, h)
stamp_from (Some bytes) form (AtBody head) left stamp e on h = cc
stamp_from (Some bytes) form AtStop left stamp e on h = absurd (on refl)

-- a fault here: there is no record more
fault_from : (form : Form) (at left : ℕ) (bytes : List ℕ) (fault : PcapFault) (records : List Record) (stop : Stop) → stop_at form at left bytes ≡ Some (Fault fault)
    → ReadsFrom form at left bytes records stop → (records ≡ []) × (stop ≡ Fault fault)
fault_from form at left bytes fault [] stop is reads = (refl, cc)
fault_from form at left bytes fault (r ∷ rs) stop is reads = cc (is, reads.0)

-- no byte is left: the end
pub end_from : (form : Form) (at left : ℕ) (bytes : List ℕ) (records : List Record) (stop : Stop) → length bytes ≡ 0 → ReadsFrom form at left bytes records stop
    → (records ≡ []) × (stop ≡ End)
end_from form at left [] [] stop none reads = (refl, cc)
end_from form at left [] (r ∷ rs) stop none reads = cc (reads.0)
end_from form at left (b ∷ bs) records stop none reads = absurd (omega arith)

-- a byte is left where no record more may be read
pub too_many_from : (form : Form) (at left : ℕ) (bytes : List ℕ) (records : List Record) (stop : Stop) → left ≡ 0 → 0 < length bytes → ReadsFrom form at left bytes records stop
    → (records ≡ []) × (stop ≡ Fault (TooMany at))
too_many_from form at left [] records stop full some reads = absurd (omega arith)
too_many_from form at zero (b ∷ bs) records stop full some reads =
    fault_from form at 0 (b ∷ bs) (TooMany at) records stop refl reads
too_many_from form at (suc left) (b ∷ bs) records stop full some reads = absurd (omega arith)

-- fewer bytes are left than a head has
pub short_from : (form : Form) (at left : ℕ) (bytes : List ℕ) (records : List Record) (stop : Stop) → 0 < left → 0 < length bytes → length bytes < 16
    → ReadsFrom form at left bytes records stop → (records ≡ []) × (stop ≡ Fault (CutRecord at))
short_from form at left [] records stop more some short reads = absurd (omega arith)
short_from form at zero (b ∷ bs) records stop more some short reads = absurd (omega arith)
short_from form at (suc left) (b ∷ bs) records stop more some short reads =
    let test : nat_lt (length (b ∷ bs)) 16 ≡ true = grind (arith, nat_tests) in
    fault_from form at (suc left) (b ∷ bs) (CutRecord at) records stop (rw test refl) reads

-- the captured length is above the limit
pub huge_from : (form : Form) (at left : ℕ) (bytes : List ℕ) (records : List Record) (stop : Stop) → 0 < left → 16 ≤ length bytes
    → MAX_CAP < cap_in form bytes → ReadsFrom form at left bytes records stop
    → (records ≡ []) × (stop ≡ Fault (HugeRecord at (cap_in form bytes)))
huge_from form at left [] records stop more head huge reads = absurd (omega arith)
huge_from form at zero (b ∷ bs) records stop more head huge reads = absurd (omega arith)
huge_from form at (suc left) (b ∷ bs) records stop more head huge reads =
    let long : nat_lt (length (b ∷ bs)) 16 ≡ false = grind (arith, nat_tests) in
    let test : nat_lt MAX_CAP (cap_in form (b ∷ bs)) ≡ true = grind (arith, nat_tests) in
    fault_from form at (suc left) (b ∷ bs) (HugeRecord at (cap_in form (b ∷ bs))) records stop (rw (long, test) refl) reads

-- no head may be read, it is cut, or its captured length is above the limit: there is no stamp
pub stamp_at-full : (form : Form) (left : ℕ) (bytes : List ℕ) → left ≡ 0 → stamp_at form left bytes ≡ None
stamp_at-full form zero bytes full = refl
stamp_at-full form (suc left) bytes full = absurd (omega arith)

pub stamp_at-short : (form : Form) (left : ℕ) (bytes : List ℕ) → length bytes < 16 → stamp_at form left bytes ≡ None
stamp_at-short form zero bytes short = refl
stamp_at-short form (suc left) bytes short =
    let test : nat_lt (length bytes) 16 ≡ true = grind (arith, nat_tests) in rw test refl

pub stamp_at-huge : (form : Form) (left : ℕ) (bytes : List ℕ) → MAX_CAP < cap_in form bytes → stamp_at form left bytes ≡ None
stamp_at-huge form zero bytes huge = refl
stamp_at-huge form (suc left) bytes huge =
    let test : nat_lt MAX_CAP (cap_in form bytes) ≡ true = grind (arith, nat_tests) in
    elim (cases_lt (length bytes) 16) [
      | inl short ↦ stamp_at-short form (suc left) bytes short
      | inr long ↦ let there : nat_lt (length bytes) 16 ≡ false = grind (arith, nat_tests) in rw (there, test) refl
    ]

-- the head is there
pub stamp_at-there : (form : Form) (left : ℕ) (bytes : List ℕ) → 0 < left → 16 ≤ length bytes → cap_in form bytes ≤ MAX_CAP
    → stamp_at form left bytes ≡ Some (stamp_in form bytes)
stamp_at-there form zero bytes more head fits = absurd (omega arith)
stamp_at-there form (suc left) bytes more head fits =
    let there : nat_lt (length bytes) 16 ≡ false = grind (arith, nat_tests) in
    let test : nat_lt MAX_CAP (cap_in form bytes) ≡ false = grind (arith, nat_tests) in
    rw (there, test) refl

-- a head that is neither cut nor too large: whether the record stops here is up to its body
stop_at-head : (form : Form) (at left : ℕ) (bytes : List ℕ) → 0 < left → 16 ≤ length bytes → cap_in form bytes ≤ MAX_CAP
    → stop_at form at left bytes ≡ (if nat_lt (length bytes) (16 + cap_in form bytes) then Some (Fault (CutRecord at)) else None)
stop_at-head form at left [] more head fits = absurd (omega arith)
stop_at-head form at zero (b ∷ bs) more head fits = absurd (omega arith)
stop_at-head form at (suc left) (b ∷ bs) more head fits =
    let long : nat_lt (length (b ∷ bs)) 16 ≡ false = grind (arith, nat_tests) in
    let test : nat_lt MAX_CAP (cap_in form (b ∷ bs)) ≡ false = grind (arith, nat_tests) in
    rw (long, test) refl

-- its body is cut
stop_at-cut : (form : Form) (at left : ℕ) (bytes : List ℕ) → 0 < left → 16 ≤ length bytes → cap_in form bytes ≤ MAX_CAP
    → length bytes < 16 + cap_in form bytes → stop_at form at left bytes ≡ Some (Fault (CutRecord at))
stop_at-cut form at left bytes more head fits short =
    let test : nat_lt (length bytes) (16 + cap_in form bytes) ≡ true = grind (arith, nat_tests) in
    stop_at-head form at left bytes more head fits ∙ rw test refl

-- its body is whole
pub stop_at-whole : (form : Form) (at left : ℕ) (bytes : List ℕ) → 0 < left → 16 ≤ length bytes → cap_in form bytes ≤ MAX_CAP
    → 16 + cap_in form bytes ≤ length bytes → stop_at form at left bytes ≡ None
stop_at-whole form at left bytes more head fits long =
    let test : nat_lt (length bytes) (16 + cap_in form bytes) ≡ false = grind (arith, nat_tests) in
    stop_at-head form at left bytes more head fits ∙ rw test refl

-- the number in n bytes of the first m is that number in all of them
pub number_in-front : (order : Order) (k n j m : ℕ) (bytes : List ℕ) → m ≡ k + j → n ≤ j → number_in order n (drop k (take m bytes)) ≡ number_in order n (drop k bytes)
number_in-front Little k n j m bytes split fits =
    ap (λ (i : ℕ). number_in Little n (drop k (take i bytes))) split ∙ ap (number_in Little n) (drop-take k j bytes) ∙ little_from-take 0 n j (drop k bytes) (omega arith)
number_in-front Big k n j m bytes split fits =
    ap (λ (i : ℕ). number_in Big n (drop k (take i bytes))) split ∙ ap (number_in Big n) (drop-take k j bytes) ∙ big_from-take 0 n j (drop k bytes) (omega arith)

-- a head is read from its 16 bytes alone
pub IsHeadIn-front : (form : Form) (bytes : List ℕ) (head : Head) → IsHeadIn form (take 16 bytes) head → IsHeadIn form bytes head
IsHeadIn-front form bytes head is =
    let order = form.order in
    let seconds = number_in-front order 0 4 16 16 bytes refl (omega arith) in
    let fraction = number_in-front order 4 4 12 16 bytes refl (omega arith) in
    let cap = number_in-front order 8 4 8 16 bytes refl (omega arith) in
    let original = number_in-front order 12 4 4 16 bytes refl (omega arith) in
    record {
      stamp = is.stamp ∙ ap (λ (x : ℕ). x * 1000000000 + number_in order 4 (drop 4 (take 16 bytes)) * form.unit) seconds ∙ ap (λ (x : ℕ). number_in order 4 bytes * 1000000000 + x * form.unit) fraction;
      cap = is.cap ∙ cap;
      wire = is.wire ∙ ap (λ (x : ℕ). max x (number_in order 4 (drop 12 (take 16 bytes)))) cap ∙ ap (λ (x : ℕ). max (number_in order 4 (drop 8 bytes)) x) original;
    }

record_in-head : (form : Form) (bytes : List ℕ) (head : Head) → IsHeadIn form bytes head → record_in form bytes ≡ recorded head (take head.cap (drop 16 bytes))
record_in-head form bytes head is = rw (is.stamp, is.wire, is.cap) refl

pub ReadsFrom-same : (form : Form) (at at' left left' : ℕ) (bytes bytes' : List ℕ) (records : List Record) (stop : Stop) → at ≡ at' → left ≡ left' → bytes ≡ bytes'
    → ReadsFrom form at left bytes records stop → ReadsFrom form at' left' bytes' records stop
ReadsFrom-same form at at' left left' bytes bytes' records stop same_at same_left same_bytes reads =
    subst (λ (x : ℕ). ReadsFrom form x left' bytes' records stop) same_at
    (subst (λ (x : ℕ). ReadsFrom form at x bytes' records stop) same_left (subst (λ (x : List ℕ). ReadsFrom form at left x records stop) same_bytes reads))

-- what holds of the bytes that a source has told
pub told : (P : List ℕ → Type 0) (o : Option (List ℕ)) (bytes : List ℕ) → o ≡ Some bytes → P bytes → MatchOption o ⊥ P
told P o bytes e p = subst (λ (x : Option (List ℕ)). MatchOption x ⊥ P) (sym e) p

-- a buffer of 16 bytes was filled: it has the head in front
pub head_filled : (form : Form) (n : ℕ) (start buf bytes : List ℕ) (head : Head) → length start ≡ 16 → 16 ≤ n → Fills n start buf bytes → IsHeadIn form buf head
    → (n ≡ 16) × (16 ≤ length bytes) × IsHeadIn form bytes head
head_filled form n start buf bytes head size full filled is =
    let all : n ≡ 16 = omega (arith, filled.count) in
    let none : drop n start ≡ [] = drop_all n start (omega arith) in
    let front : buf ≡ take 16 bytes = filled.front ∙ rw (none, append-nil, all) refl in
    (all, omega (arith, filled.count), IsHeadIn-front form bytes head (subst (λ (x : List ℕ). IsHeadIn form x head) front is))

-- the record that this head begins goes on with its body
pub keeps_head : (form : Form) (at next limit given : ℕ) (bytes : List ℕ) (head : Head) (records : List Record) (stop : Stop) → given < limit → 16 ≤ length bytes → IsHeadIn form bytes head
    → head.cap ≤ MAX_CAP → head.offset ≡ at → next ≡ at + 16 + head.cap → ReadsFrom form at (limit - given) bytes records stop
    → GivesBody form head next (limit - (given + 1)) (drop 16 bytes) records stop
keeps_head form at next limit given bytes head [] stop more there is fits offset after reads =
    let small : cap_in form bytes ≤ MAX_CAP = rw is.cap at fits in
    let left : 0 < limit - given = omega arith in
    elim (cases_lt (length bytes) (16 + cap_in form bytes)) [
      | inl short ↦
          let here = stop_at-cut form at (limit - given) bytes left there small short in
          let same : Fault (CutRecord at) ≡ stop = cc in
          (rw is.cap (omega (arith, length-drop 16 bytes)), sym same ∙ ap (λ (x : ℕ). Fault (CutRecord x)) (sym offset))
      | inr long ↦
          let here = stop_at-whole form at (limit - given) bytes left there small long in
          cc
    ]
keeps_head form at next limit given bytes head (r ∷ rs) stop more there is fits offset after reads =
    let small : cap_in form bytes ≤ MAX_CAP = rw is.cap at fits in
    let left : 0 < limit - given = omega arith in
    elim (cases_lt (length bytes) (16 + cap_in form bytes)) [
      | inl short ↦
          let here = stop_at-cut form at (limit - given) bytes left there small short in
          cc (here, reads.0)
      | inr long ↦
          let same : r ≡ recorded head (take head.cap (drop 16 bytes)) = reads.1 ∙ record_in-head form bytes head is in
          let cap : r.cap ≡ head.cap = ap (λ (x : Record). x.cap) same in
          let behind : drop (16 + r.cap) bytes ≡ drop head.cap (drop 16 bytes) = ap (λ (x : ℕ). drop (16 + x) bytes) cap ∙ sym (drop-drop head.cap 16 bytes) in
          (rw is.cap (omega (arith, length-drop 16 bytes)), same, ReadsFrom-same form _ _ _ _ _ _ rs stop (omega arith) (omega arith) behind reads.2)
    ]

-- the body was there: the record is given, and the others follow
pub whole_body : (form : Form) (head : Head) (at left : ℕ) (bytes : List ℕ) (records : List Record) (stop : Stop) → head.cap ≤ length bytes → GivesBody form head at left bytes records stop
    → (rest : List Record) × (records ≡ recorded head (take head.cap bytes) ∷ rest) × ReadsFrom form at left (drop head.cap bytes) rest stop
whole_body form head at left bytes [] stop there gives = absurd (omega arith)
whole_body form head at left bytes (r ∷ rs) stop there gives =
    (rs, ap (λ (x : Record). x ∷ rs) gives.1, gives.2)

-- the body was cut: there is no record more
pub cut_body : (form : Form) (head : Head) (at left : ℕ) (bytes : List ℕ) (records : List Record) (stop : Stop) → length bytes < head.cap → GivesBody form head at left bytes records stop
    → (records ≡ []) × (stop ≡ Fault (CutRecord head.offset))
cut_body form head at left bytes [] stop short gives = (refl, gives.1)
cut_body form head at left bytes (r ∷ rs) stop short gives = absurd (omega arith)
