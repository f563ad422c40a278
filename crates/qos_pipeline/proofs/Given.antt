-- One record more of an input.
use Rattle.std.proofs.Common.{◌≡◌, ◌≢◌, ℕ, ◌+◌, cond, List, [], ◌∷◌, ◌++◌, length, map, refl, sym, ap}
use Rattle.std.proofs.Common.{◌∙◌, append_assoc, arith, zero-add, add-zero}
use Rattle.std.specs.Prelude.{◌==◌, count_by, slice_index_or}
use Rattle.std.proofs.lemmas.Bool.Decides.{nat_tests}
use Rattle.std.proofs.lemmas.List.{append-nil, map-append, length-map, get_or_at}
use Rattle.std.proofs.lemmas.List.Elements.{filter-append}
use Rattle.std.proofs.lemmas.List.Sums.{sum_by_push}
use Rattle.qos_base.specs.declared.packet.Pkt.{Pkt}
use Rattle.qos_base.specs.declared.reason.Reason.{Reason}
use Rattle.qos_base.specs.declared.reason.Reason.TheVariants.{Unparsed, Unmatched, Oversize, TooLong, NoSlot, Policed, TailFull}
use Rattle.qos_pcap.specs.Format.{Record}
use Rattle.profile_plan.specs.Profile.{Plan}
use Rattle.pkt_receive.specs.declared.fate.Fate.{Fate}
use Rattle.pkt_receive.specs.declared.fate.Fate.TheVariants.{Admitted, Lost}
use Rattle.pkt_receive.specs.declared.losses.Losses.{Losses}
use Rattle.pkt_receive.specs.Classes.{IsLoss}
use Rattle.pkt_receive.specs.Colours.{Colours}
use Rattle.pkt_receive.specs.Fate.{fate_of, fates_from, is_lost, lost_for, packet_of, packet_if, admitted_from, admitted}
use Rattle.pkt_receive.specs.Fate.{to_port, body_at}
use Rattle.pkt_receive.specs.Losses.{counted, losses_of, lost_total}
use Rattle.pkt_receive.specs.Marks.{asked_by, asked_from, asked_of}

-- what each record comes to by its index, one after another, and what one record more comes to
module _ {X : Type 0} (f : ℕ → Record → List X) (all : ℕ → List Record → List X) (none : (i : ℕ) → all i [] ≡ [])
    (next : (i : ℕ) (r : Record) (rs : List Record) → all i (r ∷ rs) ≡ f i r ++ all (i + 1) rs) where
  all-append : (i : ℕ) (done more : List Record) → all i (done ++ more) ≡ all i done ++ all (i + length done) more
  all-append i [] more =
      let place : i ≡ i + 0 = omega arith in
      ap (λ n. all n more) place ∙ sym (ap (λ xs. xs ++ all (i + 0) more) (none i))
  all-append i (r ∷ done) more =
      let place : i + 1 + length done ≡ i + length (r ∷ done) = omega arith in
      next i r (done ++ more)
      ∙ ap (λ xs. f i r ++ xs) (all-append (i + 1) done more ∙ ap (λ n. all (i + 1) done ++ all n more) place)
      ∙ sym (append_assoc (f i r) (all (i + 1) done) (all (i + length (r ∷ done)) more))
      ∙ ap (λ xs. xs ++ all (i + length (r ∷ done)) more) (sym (next i r done))

  all-push : (done : List Record) (r : Record) → all 0 (done ++ r ∷ []) ≡ all 0 done ++ f (length done) r
  all-push done r =
      all-append 0 done (r ∷ [])
      ∙ ap (λ n. all 0 done ++ all n (r ∷ [])) (zero-add (length done))
      ∙ ap (λ xs. all 0 done ++ xs)
      (next (length done) r [] ∙ ap (λ xs. f (length done) r ++ xs) (none (length done + 1)) ∙ append-nil (f (length done) r))

-- what one record more asks
pub asked-push : (p : Plan) (origin input : ℕ) (done : List Record) (r : Record)
    → asked_of p origin input (done ++ r ∷ []) ≡ asked_of p origin input done ++ asked_by p origin input (length done) r
asked-push p origin input done r =
    all-push (asked_by p origin input) (asked_from p origin input) (λ i. refl) (λ i r rs. refl) done r

module _ (p : Plan) (colours : Colours) (input : ℕ) where
  -- the packet of the record at an index, if it is admitted
  abbrev packets_at : ℕ → Record → List Pkt
  packets_at i r = packet_if input i r (fate_of p colours input i r)

  -- those of a port
  pub to_port-push : (n : ℕ) (done : List Record) (r : Record) → to_port n (admitted p colours input (done ++ r ∷ []))
      ≡ to_port n (admitted p colours input done)
      ++ to_port n (packet_if input (length done) r (fate_of p colours input (length done) r))
  to_port-push n done r =
      ap (to_port n) (all-push packets_at (admitted_from p colours input) (λ i. refl) (λ i r rs. refl) done r)
      ∙ filter-append (λ (packet : Pkt). packet.port == n) (admitted p colours input done) (packets_at (length done) r)

  lost_for-push : (number : ℕ) (done : List Record) (r : Record)
      → lost_for p colours input number (done ++ r ∷ [])
      ≡ lost_for p colours input number done + cond (is_lost number (fate_of p colours input (length done) r)) 1 0
  lost_for-push number done r =
      ap (count_by (is_lost number))
      (all-push (λ i r. fate_of p colours input i r ∷ []) (fates_from p colours input) (λ i. refl) (λ i r rs. refl) done r)
      ∙ sum_by_push (λ (fate : Fate). cond (is_lost number fate) 1 0) (fates_from p colours input 0 done)
      (fate_of p colours input (length done) r)

  pub losses-push : (done : List Record) (r : Record)
      → losses_of p colours input (done ++ r ∷ [])
      ≡ counted (losses_of p colours input done) (fate_of p colours input (length done) r)
  losses-push done r =
      rw (
        lost_for-push 1 done r,
        lost_for-push 2 done r,
        lost_for-push 3 done r,
        lost_for-push 4 done r,
        lost_for-push 6 done r,
      )
      refl

-- a packet arrives at its port, and at no other
pub to_port-here : (packet : Pkt) → to_port packet.port (packet ∷ []) ≡ packet ∷ []
to_port-here packet = grind (arith, nat_tests)

pub to_port-other : (n : ℕ) (packet : Pkt) → n ≢ packet.port → to_port n (packet ∷ []) ≡ []
to_port-other n packet other = grind (arith, nat_tests)

-- a record that is admitted is not counted as lost
pub counted-admitted : (losses : Losses) (fate : Fate) (input index : ℕ) (r : Record) (packet : Pkt)
    → packet_if input index r fate ≡ packet ∷ [] → counted losses fate ≡ losses
counted-admitted losses (Admitted place colour) input index r packet is =
    rw (
      add-zero losses.unparsed,
      add-zero losses.unmatched,
      add-zero losses.oversize,
      add-zero losses.too_long,
      add-zero losses.policed,
    )
    refl
counted-admitted losses (Lost reason) input index r packet is = absurd (let impossible : ⊥ = cc in impossible)

-- and its packet has its index
pub packet-index : (fate : Fate) (input index : ℕ) (r : Record) (packet : Pkt) → packet_if input index r fate ≡ packet ∷ []
    → packet.index ≡ index
packet-index (Admitted place colour) input index r packet is = let same : packet_of input index r place colour ≡ packet = cc in
    sym (ap (λ (x : Pkt). x.index) same)
packet-index (Lost reason) input index r packet is = absurd (let impossible : ⊥ = cc in impossible)

-- one that is lost is counted once
pub counted-lost : (losses : Losses) (reason : Reason) → IsLoss reason
    → lost_total (counted losses (Lost reason)) ≡ lost_total losses + 1
counted-lost losses Unparsed is = omega arith
counted-lost losses Unmatched is = omega arith
counted-lost losses Oversize is = omega arith
counted-lost losses TooLong is = omega arith
counted-lost losses NoSlot is = absurd is
counted-lost losses Policed is = omega arith
counted-lost losses TailFull is = absurd is

-- the parts of the records after the next one was taken
pub parts-push : (records done rest more : List Record) (r : Record) → records ≡ done ++ rest → rest ≡ r ∷ more
    → records ≡ (done ++ r ∷ []) ++ more
parts-push records done rest more r parts next = parts ∙ ap (λ rs. done ++ rs) next ∙ sym (append_assoc done (r ∷ []) more)

-- the body of the next record, by its place
pub body-next : (records done more : List Record) (r : Record) (n : ℕ) → records ≡ done ++ r ∷ more → n ≡ length done
    → body_at records n ≡ r.body
body-next records done more r n parts is =
    let bodies : List Record → List (List ℕ) = map (λ (x : Record). x.body) in
    ap (λ rs. body_at rs n) parts
    ∙ ap (λ bs. slice_index_or bs n []) (map-append (λ (x : Record). x.body) done (r ∷ more))
    ∙ get_or_at (bodies done) r.body (bodies more) [] n (length-map done (λ (x : Record). x.body) ∙ sym is)
