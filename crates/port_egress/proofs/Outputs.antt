-- The output of one send more.
use Rattle.port_egress.proofs.Words.{◌≡◌, ℕ, ◌+◌, List, [], ◌∷◌, ◌++◌, length, take, Some, slice_get, refl, sym, ap, ◌∙◌, arith}
use Rattle.port_egress.proofs.Words.{append_assoc, length-append, flat_map, append-nil, take-append-le, take_at, length_push, get_or_push}
use Rattle.port_egress.proofs.Words.{get_or_append_left, slice_get_within, slice_get_read, get_or_from_slice_get, Pkt, Departure}
use Rattle.port_egress.proofs.Words.{header_text, record_text, Target, send_text, output_text, IsWhole, IsCut, in_header, in_record}
use Rattle.std.proofs.lemmas.Grind.{flat_map-append}
use Rattle.qos_base.specs.Time.{send_stamp_of}

-- the record of a send is made of its stamp, its length and its body
pub record_text-send : (t : Target) (d : Departure Pkt) (stamp : ℕ) (body : List ℕ) → stamp ≡ send_stamp_of t.origin d.time t.line
    → body ≡ t.body d.parcel → record_text stamp d.parcel.wire body ≡ send_text t d
unfolding send_text
record_text-send t d stamp body stamp_is body_is = rw (stamp_is, body_is)

module _ (t : Target) where
  -- an output of no send is the header
  pub output-nil : header_text ≡ output_text t []
  unfolding output_text
  output-nil = sym (append-nil header_text)

  pub output-append : (sends more : List (Departure Pkt))
      → output_text t (sends ++ more) ≡ output_text t sends ++ flat_map (send_text t) more
  unfolding output_text
  output-append sends more =
      ap (λ ts. header_text ++ ts) (flat_map-append (send_text t) sends more)
      ∙ sym (append_assoc header_text (flat_map (send_text t) sends) (flat_map (send_text t) more))

  output-push : (sends : List (Departure Pkt)) (d : Departure Pkt) → output_text t (sends ++ d ∷ []) ≡ output_text t sends ++ send_text t d
  output-push sends d = output-append sends (d ∷ []) ∙ ap (λ ts. output_text t sends ++ ts) (append-nil (send_text t d))

  pub IsWhole-start : IsWhole t [] 0 header_text
  IsWhole-start = record { all = refl; is = output-nil }

  pub IsWhole-more : (sends : List (Departure Pkt)) (d : Departure Pkt) (count : ℕ) (held : List ℕ) → IsWhole t sends count held
      → IsWhole t (sends ++ d ∷ []) (count + 1) (held ++ send_text t d)
  IsWhole-more sends d count held whole = record {
    all = ap (λ n. n + 1) whole.all ∙ sym (length-append sends (d ∷ []));
    is = ap (λ ts. ts ++ send_text t d) whole.is ∙ sym (output-push sends d);
  }

  get_pushed : (sends : List (Departure Pkt)) (d : Departure Pkt) (count : ℕ) → count ≡ length sends
      → slice_get (sends ++ d ∷ []) count ≡ Some d
  get_pushed sends d count is = slice_get_read (sends ++ d ∷ []) (length sends + 1) count d (sym (length_push sends d)) (omega arith)
      (sym (get_or_push sends d d count (sym is)))

  pub IsCut-now : (sends : List (Departure Pkt)) (d : Departure Pkt) (count n : ℕ) (held : List ℕ) → IsWhole t sends count held
      → IsCut t (sends ++ d ∷ []) count (held ++ take n (send_text t d))
  IsCut-now sends d count n held whole =
      in_record d (get_pushed sends d count whole.all) n
      (ap (λ ts. ts ++ take n (send_text t d)) (whole.is ∙ ap (output_text t) (sym (take_at sends (d ∷ []) count (sym whole.all)))))

  get_before : (sends more : List (Departure Pkt)) (count : ℕ) (next : Departure Pkt) → slice_get sends count ≡ Some next
      → slice_get (sends ++ more) count ≡ Some next
  get_before sends more count next is =
      let within = slice_get_within sends count next is in
      let longer = length-append sends more in
      slice_get_read (sends ++ more) (length (sends ++ more)) count next refl (omega (arith, within, longer))
      (sym (get_or_append_left sends more next count within ∙ get_or_from_slice_get sends count next next is))

  pub IsCut-more : (sends more : List (Departure Pkt)) (count : ℕ) (text : List ℕ) → IsCut t sends count text
      → IsCut t (sends ++ more) count text
  IsCut-more sends more count text (in_header none n is) = in_header none n is
  IsCut-more sends more count text (in_record next there n is) =
      in_record next (get_before sends more count next there) n
      (is ∙ ap (λ ds. output_text t ds ++ take n (send_text t next))
      (sym (take-append-le count sends more (omega (arith, slice_get_within sends count next there)))))
