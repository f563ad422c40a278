-- What a journal sends, the journals that it begins send first.
use Rattle.std.proofs.Common.{◌≡◌, ℕ, ◌+◌, List, [], ◌∷◌, ◌++◌, length, take, drop, fold, Option, None, Some, MatchOption, refl, sym, ap, ◌∙◌, append_assoc}
use Rattle.std.specs.List.{flat_map}
use Rattle.std.proofs.lemmas.Bool.{cond_both}
use Rattle.std.proofs.lemmas.Grind.{flat_map-append}
use Rattle.std.proofs.lemmas.List.{append-nil, take-append-drop, take_at, drop_more}
use Rattle.std.proofs.lemmas.List.Sums.{fold-append}
use Rattle.std.proofs.lemmas.Option.{get_or_from_slice_get, slice_get_within}
use Rattle.qos_base.specs.declared.packet.Pkt.{Pkt}
use Rattle.qos_base.specs.declared.packet.Departure.{Departure}
use Rattle.qos_io.specs.declared.sink.PutFault.{PutFault}
use Rattle.qos_pcap.specs.Written.{header_text}
use Rattle.port_sched.specs.Parcels.{itself}
use Rattle.port_sched.specs.Port.{Port, after_arrival, is_full}
use Rattle.port_sched.specs.PortDequeue.{dequeue_port}
use Rattle.run_journal.specs.declared.entry.Entry.{Entry}
use Rattle.run_journal.specs.declared.entry.Entry.TheVariants.{Arrive, Dequeue}
use Rattle.run_journal.specs.Laws.{Begins}
use Rattle.run_journal.specs.Schedule.{Schedule, after_entry, at_start, schedule_from}
use Rattle.port_egress.specs.Output.{Target, send_text, output_text, IsWhole, IsCut, in_header, in_record}

-- one schedule's sends begin another's
abbrev pub SendsBegin : Schedule → Schedule → Type 0
SendsBegin s t = (more : List (Departure Pkt)) × (t.sends ≡ s.sends ++ more)

sends-after : (s : Schedule) (entry : Entry) → SendsBegin s (after_entry s entry)
sends-after s (Arrive p) = (
  [],
  cond_both (is_full p s.port) (record s { drops = s.drops ++ p ∷ [] }) (record s { port = after_arrival itself p s.port })
      (λ (t : Schedule). t.sends ≡ s.sends ++ []) (λ _. sym (append-nil s.sends)) (λ _. sym (append-nil s.sends)),
)
sends-after s (Dequeue now room) = ((dequeue_port itself now room s.port).sends, refl)

sends-fold : (s : Schedule) (entries : List Entry) → SendsBegin s (fold after_entry s entries)
sends-fold s [] = ([], sym (append-nil s.sends))
sends-fold s (entry ∷ entries) =
    let first = sends-after s entry in
    let later = sends-fold (after_entry s entry) entries in
    (first.0 ++ later.0, rw (later.1, first.1) (append_assoc s.sends first.0 later.0))

pub sends-begin : (start : Port Pkt) (journal longer : List Entry) → Begins journal longer
    → SendsBegin (schedule_from start journal) (schedule_from start longer)
unfolding schedule_from
sends-begin start journal longer begins =
    let later = sends-fold (fold after_entry (at_start start) journal) begins.0 in (
      later.0,
      ap (λ (t : Schedule). t.sends)
          (ap (fold after_entry (at_start start)) begins.1 ∙ fold-append after_entry (at_start start) journal begins.0) ∙ later.1,
    )

module _ (t : Target) where
  output-append : (sends more : List (Departure Pkt))
      → output_text t (sends ++ more) ≡ output_text t sends ++ flat_map (send_text t) more
  unfolding output_text
  output-append sends more =
      ap (λ ts. header_text ++ ts) (flat_map-append (send_text t) sends more)
      ∙ sym (append_assoc header_text (flat_map (send_text t) sends) (flat_map (send_text t) more))

  -- what a sink holds that was cut begins the whole output
  cut-begins : (sends : List (Departure Pkt)) (count : ℕ) (held : List ℕ) → IsCut t sends count held
      → (more : List ℕ) × (output_text t sends ≡ held ++ more)
  unfolding output_text
  cut-begins sends count held (in_header none n is) =
      let rest = flat_map (send_text t) sends in (
        drop n header_text ++ rest,
        ap (λ hs. hs ++ rest) (sym (take-append-drop n header_text))
            ∙ append_assoc (take n header_text) (drop n header_text) rest ∙ ap (λ hs. hs ++ (drop n header_text ++ rest)) (sym is),
      )
  cut-begins sends count held (in_record next there n is) =
      let text = send_text t next in
      let later = flat_map (send_text t) (drop (count + 1) sends) in
      let within = slice_get_within sends count next there in
      let parts : sends ≡ take count sends ++ next ∷ drop (count + 1) sends =
      sym (take-append-drop count sends)
      ∙ ap (λ ds. take count sends ++ ds)
      (drop_more sends count next within
      ∙ ap (λ d. d ∷ drop (count + 1) sends) (get_or_from_slice_get sends count next next there)) in (
        drop n text ++ later,
        ap (output_text t) parts ∙ output-append (take count sends) (next ∷ drop (count + 1) sends)
            ∙ ap (λ ts. output_text t (take count sends) ++ (ts ++ later)) (sym (take-append-drop n text))
            ∙ ap (λ ts. output_text t (take count sends) ++ ts) (append_assoc (take n text) (drop n text) later)
            ∙ sym (append_assoc (output_text t (take count sends)) (take n text) (drop n text ++ later))
            ∙ ap (λ ts. ts ++ (drop n text ++ later)) (sym is),
      )

  held-begins : (sends : List (Departure Pkt)) (fault : Option PutFault) (count : ℕ) (held : List ℕ)
      → MatchOption fault (IsWhole t sends count held) (λ _. IsCut t sends count held)
      → (more : List ℕ) × (output_text t sends ≡ held ++ more)
  held-begins sends None count held w = ([], sym w.is ∙ sym (append-nil held))
  held-begins sends (Some fault) count held cut = cut-begins sends count held cut

  -- what a sink holds begins the output of these sends and more
  pub held-first : (sends more all : List (Departure Pkt)) (fault : Option PutFault) (count : ℕ) (held : List ℕ) → all ≡ sends ++ more
      → MatchOption fault (IsWhole t sends count held) (λ _. IsCut t sends count held) → held ≡ take (length held) (output_text t all)
  held-first sends more all fault count held is so =
      let begins = held-begins sends fault count held so in
      let later = flat_map (send_text t) more in
      sym (ap (λ ts. take (length held) ts)
      (ap (output_text t) is ∙ output-append sends more ∙ ap (λ ts. ts ++ later) begins.1 ∙ append_assoc held begins.0 later)
      ∙ take_at held (begins.0 ++ later) (length held) refl)
