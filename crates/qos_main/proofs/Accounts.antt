-- The account of an input, from its receiver's numbers and those of the ports.
use Rattle.std.proofs.Common.{◌≡◌, ◌∙◌, ◌+◌, ◌-◌, ◌<◌, ◌≤◌, ◌^◌, inl, inr, nat_lt, ℕ, suc, false, if◌then◌else◌}
use Rattle.std.proofs.Common.{List, [], ◌∷◌, ◌++◌, length, map, get_or, take, Fits, w64, sum, count_by, slice_get}
use Rattle.std.proofs.Common.{slice_index_or, Option, Some, None, Result, Ok, Err}
use Rattle.std.proofs.Common.{refl, sym, ap, arith, length-append}
use Rattle.std.specs.List.{sum_by}
use Rattle.std.specs.List.Sorted.{IsPermutation}
use Rattle.std.specs.Option.{option_map_or}
use Rattle.std.proofs.lemmas.Bool.{cond_both}
use Rattle.std.proofs.lemmas.List.{length-map}
use Rattle.std.proofs.lemmas.List.Sums.{sum_by-cons, sum_by-le-sum_by, sum_by_more_le}
use Rattle.std.proofs.lemmas.List.Sorted.{length_permutation}
use Rattle.std.proofs.lemmas.Option.{slice_get_cases, slice_get_within}
use Rattle.qos_base.specs.declared.packet.Colour.{Colour}
use Rattle.qos_base.specs.declared.packet.Departure.{Departure}
use Rattle.qos_base.specs.declared.packet.Pkt.{Pkt}
use Rattle.qos_base.specs.declared.reason.Reason.{Reason}
use Rattle.qos_base.specs.declared.reason.Reason.TheVariants.{Unparsed, Unmatched, Oversize, TooLong, NoSlot, Policed}
use Rattle.qos_base.specs.declared.reason.Reason.TheVariants.{TailFull}
use Rattle.qos_base.specs.Reason.{reason_number}
use Rattle.qos_io.specs.declared.source.Source.{Ghosts as Sources}
use Rattle.qos_pcap.specs.Format.{Record}
use Rattle.profile_plan.specs.Profile.{Plan}
use Rattle.pkt_receive.specs.declared.fate.Fate.{Fate}
use Rattle.pkt_receive.specs.declared.classify.Classified.{Classified}
use Rattle.pkt_receive.specs.declared.fate.Fate.TheVariants.{Admitted, Lost}
use Rattle.pkt_receive.specs.declared.receive.Receiver.{Receiver}
use Rattle.pkt_receive.specs.Classes.{class_at, class_of, class_with}
use Rattle.pkt_receive.specs.Colours.{Colours}
use Rattle.pkt_receive.specs.Fate.{drops, fate_by, fate_of, fates_from, is_lost, lost_for, policed}
use Rattle.pkt_receive.specs.declared.losses.Losses.{Losses}
use Rattle.pkt_receive.specs.Losses.{losses_of}
use Rattle.port_egress.specs.Run.{Setup, schedule_by}
use Rattle.run_journal.specs.declared.ended.PortEnd.{PortEnd}
use Rattle.run_journal.specs.declared.entry.Entry.{Entry}
use Rattle.run_journal.specs.Schedule.{arrivals_of}
use Rattle.qos_pipeline.specs.PortEnds.{ArePortEnds, IsPortEnd, journals}
use Rattle.qos_pipeline.specs.Ports.{setup_of}
use Rattle.qos_pipeline.specs.Took.{IsSummed}
use Rattle.run_report.specs.declared.ended.InputEnd.{InputEnd}
use Rattle.qos_main.specs.Account.{IsAccount, lost_to}
use Rattle.qos_main.specs.Ended.{IsEndOf, ended_at, reasons_of, sums_over}

-- three lists that together are a fourth in another order have its length
three-counted : {X : Type 0} (all first second third : List X) → IsPermutation all ((first ++ second) ++ third)
    → length first + length second + length third ≡ length all
three-counted all first second third is =
    omega (
      arith,
      length_permutation all ((first ++ second) ++ third) is,
      length-append (first ++ second) third,
      length-append first second,
    )

-- the numbers of a port add up to its arrivals
port-counted : (s : Setup) (end : PortEnd) → IsPortEnd s end → ended_at end ≡ length (arrivals_of end.journal)
port-counted s end is =
    let made = schedule_by s end.journal in
    let sent : List Pkt = map (λ (d : Departure Pkt). d.parcel) made.sends in
    let total = three-counted (arrivals_of end.journal) sent _ made.drops is.account in
    omega (
      arith,
      total,
      length-map made.sends (λ (d : Departure Pkt). d.parcel),
      is.counts.sends,
      is.counts.left,
      is.counts.tailfull,
    )

-- where each place of a list has a number, so has each of what is read of it
sum-read : {X Y : Type 0} (f : X → ℕ) (g : Y → ℕ) (read : X → Y) (xs : List X)
    → ((n : ℕ) (x : X) → slice_get xs n ≡ Some x → f x ≡ g (read x)) → sum_by f xs ≡ sum_by g (map read xs)
sum-read f g read [] each = refl
sum-read f g read (x ∷ xs) each =
    let rest = sum-read f g read xs (λ n y at. each (suc n) y at) in
    let first = each 0 x refl in
    omega (arith, rest, first, sum_by-cons f x xs, sum_by-cons g (read x) (map read xs))

abbrev arrivals_in : List Entry → ℕ
arrivals_in journal = length (arrivals_of journal)

module _ (p : Plan) (origin : ℕ) (ends : List PortEnd) (count : length ends ≡ length p.ports)
    (are : ArePortEnds p origin ends) where
  end-counted : (n : ℕ) (end : PortEnd) → slice_get ends n ≡ Some end → ended_at end ≡ arrivals_in end.journal
  end-counted n end at =
      elim (slice_get_cases p.ports n).1 [
        | inl found ↦ port-counted (setup_of p origin found.0) end (are n found.0 end found.2 at)
        | inr past ↦ absurd (omega (arith, slice_get_within ends n end at, count, past.0))
      ]

  pub all-counted : sum_by ended_at ends ≡ sum_by arrivals_in (journals ends)
  all-counted = sum-read ended_at arrivals_in (λ (end : PortEnd). end.journal) ends end-counted

-- the sum of what ended is that of its parts
ended-parts : (ends : List PortEnd)
    → sum_by ended_at ends
    ≡ (sums_over ends).sent + (sums_over ends).left + (sums_over ends).tailfull + (sums_over ends).unwritten
ended-parts [] = refl
ended-parts (end ∷ ends) =
    omega (
      arith,
      ended-parts ends,
      sum_by-cons ended_at end ends,
      sum_by-cons (λ (e : PortEnd). e.counts.sent) end ends,
      sum_by-cons (λ (e : PortEnd). e.counts.left) end ends,
      sum_by-cons (λ (e : PortEnd). e.counts.tailfull) end ends,
      sum_by-cons (λ (e : PortEnd). e.counts.unwritten) end ends,
    )

option-cases : {X Y : Type 0} (P : Y → Type 0) (f : X → Y) (none : Y) (o : Option X) → P none → ((x : X) → P (f x))
    → P (option_map_or f o none)
option-cases P f none None holds each = holds
option-cases P f none (Some x) holds each = each x

-- no record lacks a slot when it is received
abbrev IsSlotted : Fate → Type 0
IsSlotted fate = is_lost 5 fate ≡ false

-- what has no class has another reason
abbrev IsClass : Result Classified Reason → Type 0
IsClass (Ok class) = Unit {0}
IsClass (Err reason) = IsSlotted (Lost reason)

slotted-by : (p : Plan) (colour : ℕ → Colour) (class : Result Classified Reason) → IsClass class
    → IsSlotted (fate_by p colour class)
slotted-by p colour (Err reason) is = is
slotted-by p colour (Ok class) is =
    let place = class.place in
    option-cases IsSlotted (λ meter. policed p meter (colour meter) place) (Admitted place place.pre) place.meter refl
    (λ meter. cond_both (drops p meter (colour meter)) (Lost Policed) (Admitted place (colour meter)) IsSlotted
    (λ _. refl) (λ _. refl))

class-is : (p : Plan) (input : ℕ) (r : Record) → IsClass (class_of p input r)
class-is p input r =
    cond_both (nat_lt p.pool.slot_bytes r.cap) (Err TooLong)
    (option_map_or (class_with p input r) _ (Err Unparsed)) IsClass (λ _. refl)
    (λ _. option-cases IsClass (class_with p input r) (Err Unparsed) _ refl
    (λ frame. option-cases IsClass (class_at p r frame) (Err Unmatched) _ refl
    (λ place. cond_both _ (Err Oversize) (Ok (record { place = place; len = r.wire - frame.header })) IsClass
    (λ _. refl) (λ _. tt))))

none-unslotted : (p : Plan) (colours : Colours) (input index : ℕ) (records : List Record)
    → count_by (is_lost 5) (fates_from p colours input index records) ≡ 0
none-unslotted p colours input index [] = refl
none-unslotted p colours input index (r ∷ rs) =
    let fate = fate_of p colours input index r in
    let rest = fates_from p colours input (index + 1) rs in
    let slotted = slotted-by p (λ meter. colours meter input index) (class_of p input r) (class-is p input r) in
    sum_by-cons (λ (f : Fate). if is_lost 5 f then 1 else 0) fate rest
    ∙ rw (slotted, none-unslotted p colours input (index + 1) rs)

module _ {S : Type 0} {F : Sources S} (p : Plan) (colours : Colours) (origin : ℕ) (given : List Record)
    (rx : Receiver S F) (ends : List PortEnd) (input : InputEnd) (numbers : IsEndOf rx (sums_over ends) input) where
  at-place : (i n : ℕ) → slice_index_or (reasons_of rx (sums_over ends)) i 0 ≡ n → slice_index_or input.reasons i 0 ≡ n
  at-place i n is = ap (λ ns. slice_index_or ns i 0) numbers.reasons ∙ is

  reasons-are : rx.losses ≡ losses_of p colours 0 given → (reason : Reason)
      → slice_index_or input.reasons (reason_number reason - 1) 0 ≡ lost_to p colours 0 given ends reason
  reasons-are losses Unparsed = at-place 0 (lost_for p colours 0 1 given) (ap (λ (l : Losses). l.unparsed) losses)
  reasons-are losses Unmatched = at-place 1 (lost_for p colours 0 2 given) (ap (λ (l : Losses). l.unmatched) losses)
  reasons-are losses Oversize = at-place 2 (lost_for p colours 0 3 given) (ap (λ (l : Losses). l.oversize) losses)
  reasons-are losses TooLong = at-place 3 (lost_for p colours 0 4 given) (ap (λ (l : Losses). l.too_long) losses)
  reasons-are losses NoSlot = at-place 4 (lost_for p colours 0 5 given) (sym (none-unslotted p colours 0 0 given))
  reasons-are losses Policed = at-place 5 (lost_for p colours 0 6 given) (ap (λ (l : Losses). l.policed) losses)
  reasons-are losses TailFull = at-place 6 (sums_over ends).tailfull refl

  pub is-account : length ends ≡ length p.ports → ArePortEnds p origin ends → IsSummed rx (journals ends)
      → rx.read ≡ length given → rx.losses ≡ losses_of p colours 0 given → IsAccount p colours 0 given ends input
  is-account count are summed read losses =
      let reasons : sum input.reasons ≡ sum (reasons_of rx (sums_over ends)) = ap sum numbers.reasons in
      let ended : sum_by ended_at ends ≡ sum_by arrivals_in (journals ends) = all-counted p origin ends count are in
      record {
        read = numbers.read ∙ read;
        sent = numbers.sent;
        left = numbers.left;
        unwritten = numbers.unwritten;
        reasons = reasons-are losses;
        sum = omega (
          arith,
          reasons,
          ended,
          ended-parts ends,
          summed,
          numbers.read,
          numbers.sent,
          numbers.left,
          numbers.unwritten,
        );
        unslotted = numbers.unslotted;
      }

-- the numbers of the ports have their sum within the number of records read
pub ended-within : {S : Type 0} {F : Sources S} (p : Plan) (origin : ℕ) (rx : Receiver S F) (ends : List PortEnd)
    → length ends ≡ length p.ports → ArePortEnds p origin ends → IsSummed rx (journals ends)
    → sum_by ended_at ends ≤ rx.read
ended-within p origin rx ends count are summed =
    let ended : sum_by ended_at ends ≡ sum_by arrivals_in (journals ends) = all-counted p origin ends count are in
    omega (arith, ended, summed)

-- one number of the ports up to a place, and that of the port there, fit
pub part-fits : (f : PortEnd → ℕ) → ((end : PortEnd) → f end ≤ ended_at end) → (ports : List PortEnd) (i : ℕ)
    (end : PortEnd) → i < length ports → end ≡ get_or ports i end → sum_by ended_at ports < 2 ^ 64
    → (n : ℕ) → n ≡ sum_by f (take i ports)
    → Fits w64 (n + f end)
part-fits f part ports i end within is few n so =
    let here : f end ≡ f (get_or ports i end) = ap f is in
    omega (arith, sum_by_more_le f ports i end within, sum_by-le-sum_by f ended_at ports part, here, so, few)
