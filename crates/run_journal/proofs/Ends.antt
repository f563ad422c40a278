-- What becomes of each arrival of a journal.
use Rattle.std.proofs.Common.{◌≡◌, ℕ, List, [], ◌∷◌, ◌++◌, IsTrue, fold, refl, sym, ap, ◌∙◌, subst, append_assoc}
use Rattle.std.specs.List.{All}
use Rattle.std.specs.List.Sorted.{IsPermutation}
use Rattle.std.proofs.lemmas.Bool.{cond_both}
use Rattle.std.proofs.lemmas.List.{append-nil, map-append}
use Rattle.std.proofs.lemmas.List.Elements.{All-head, All-tail}
use Rattle.std.proofs.lemmas.List.Sorted.{IsPermutation-refl, IsPermutation-sym, IsPermutation-trans, IsPermutation-to_front, IsPermutation-cons, IsPermutation-middle, IsPermutation-append_left, IsPermutation-append_right}
use Rattle.qos_base.specs.declared.packet.Pkt.{Pkt}
use Rattle.qos_base.specs.declared.packet.Departure.{Departure}
use Rattle.port_sched.specs.Parcels.{itself, parcels}
use Rattle.port_sched.specs.Port.{Port, left_of, has_place, is_full, after_arrival}
use Rattle.port_sched.specs.PortDequeue.{dequeue_port}
use Rattle.port_sched.specs.PortLaws.{DequeueServes, ArrivalJoins}
use Rattle.port_sched.specs.Settings.{setting_of, IsPortWithin, DequeueKeeps, ArrivalKeeps}
use Rattle.run_journal.specs.declared.entry.Entry.{Entry}
use Rattle.run_journal.specs.declared.entry.Entry.TheVariants.{Arrive, Dequeue}
use Rattle.run_journal.specs.Schedule.{Schedule, at_start, after_entry, schedule_from, arrivals_of}
use Rattle.run_journal.specs.Laws.{AreAccounted, EveryArrivalEnds}
use Rattle.run_journal.proofs.Placed.{place-same}

-- one arrival more, which joins those that wait
joins : (xs sent waits more drops : List Pkt) (p : Pkt) → IsPermutation more (p ∷ waits) → IsPermutation xs ((sent ++ waits) ++ drops) → IsPermutation (xs ++ p ∷ []) ((sent ++ more) ++ drops)
joins xs sent waits more drops p one so =
    let front = IsPermutation-trans (xs ++ p ∷ []) (p ∷ xs) (p ∷ ((sent ++ waits) ++ drops)) (IsPermutation-to_front xs p) (IsPermutation-cons p xs ((sent ++ waits) ++ drops) so) in
    let aside = IsPermutation-trans (sent ++ more) (sent ++ p ∷ waits) (p ∷ (sent ++ waits)) (IsPermutation-append_right sent more (p ∷ waits) one) (IsPermutation-middle sent p waits) in
    let back = IsPermutation-append_left drops (sent ++ more) (p ∷ (sent ++ waits)) aside in
    IsPermutation-trans (xs ++ p ∷ []) (p ∷ ((sent ++ waits) ++ drops)) ((sent ++ more) ++ drops) front (IsPermutation-sym ((sent ++ more) ++ drops) (p ∷ ((sent ++ waits) ++ drops)) back)

-- or is turned away
turned : (xs ends drops : List Pkt) (p : Pkt) → IsPermutation xs (ends ++ drops) → IsPermutation (xs ++ p ∷ []) (ends ++ (drops ++ p ∷ []))
turned xs ends drops p so =
    subst (λ ys. IsPermutation (xs ++ p ∷ []) ys) (append_assoc ends drops (p ∷ [])) (IsPermutation-append_left (p ∷ []) xs (ends ++ drops) so)

-- what holds of every dequeue and of every arrival of packets
pub record Kept : Type 0 where
  pub serves : (now room : ℕ) (s : Port Pkt) → DequeueServes itself now room s
  pub keeps : (now room : ℕ) (s : Port Pkt) → DequeueKeeps itself now room s
  pub joins : (p : Pkt) (s : Port Pkt) → ArrivalJoins itself p s
  pub stays : (p : Pkt) (s : Port Pkt) → ArrivalKeeps itself p s

module _ (kept : Kept) (start : Port Pkt) where
  -- the port is within its bounds, set up as it was, and each arrival so far has its end
  record Fine (arrivals : List Pkt) (s : Schedule) : Type 0 where
    within : IsPortWithin s.port
    setting : setting_of s.port ≡ setting_of start
    accounted : AreAccounted arrivals s

  one_more : (xs : List Pkt) (s : Schedule) (p : Pkt) → IsTrue (has_place p start) → Fine xs s → Fine (xs ++ p ∷ []) (after_entry s (Arrive p))
  one_more xs s p placed so =
      let after = after_arrival itself p s.port in
      let there : IsTrue (has_place p s.port) = subst IsTrue (sym (place-same p s.port start so.setting)) placed in
      cond_both (is_full p s.port) (record s { drops = s.drops ++ p ∷ [] }) (record s { port = after }) (Fine (xs ++ p ∷ []))
      (λ _. record { within = so.within; setting = so.setting; accounted = turned xs (parcels s.sends ++ left_of s.port) s.drops p so.accounted })
      (λ free. record {
        within = (kept.stays p s.port).within free so.within;
        setting = (kept.stays p s.port).setting ∙ so.setting;
        accounted = joins xs (parcels s.sends) (left_of s.port) (left_of after) s.drops p ((kept.joins p s.port).each_once so.within there) so.accounted;
      })

  -- a dequeue only moves packets from those that wait to those that are sent
  dequeued : (xs : List Pkt) (s : Schedule) (now room : ℕ) → Fine xs s → Fine xs (after_entry s (Dequeue now room))
  dequeued xs s now room so =
      let made = dequeue_port itself now room s.port in
      let sent = parcels s.sends in
      let once = (kept.serves now room s.port).serves.each_once in
      let moved = IsPermutation-append_right sent (parcels made.sends ++ left_of made.port) (left_of s.port) once in
      let all = IsPermutation-append_left s.drops (sent ++ (parcels made.sends ++ left_of made.port)) (sent ++ left_of s.port) moved in
      let same : sent ++ (parcels made.sends ++ left_of made.port) ≡ parcels (s.sends ++ made.sends) ++ left_of made.port =
      sym (append_assoc sent (parcels made.sends) (left_of made.port)) ∙ ap (λ ts. ts ++ left_of made.port) (sym (map-append (λ (d : Departure Pkt). d.parcel) s.sends made.sends)) in
      record {
        within = (kept.keeps now room s.port).within so.within;
        setting = (kept.keeps now room s.port).setting ∙ so.setting;
        accounted = subst (λ ts. IsPermutation xs (ts ++ s.drops)) same
            (IsPermutation-trans xs ((sent ++ left_of s.port) ++ s.drops) ((sent ++ (parcels made.sends ++ left_of made.port)) ++ s.drops) so.accounted
            (IsPermutation-sym ((sent ++ (parcels made.sends ++ left_of made.port)) ++ s.drops) ((sent ++ left_of s.port) ++ s.drops) all));
      }

  abbrev ArePlaced : List Pkt → Type 0
  ArePlaced ps = All (λ p. IsTrue (has_place p start)) ps

  all_entries : (entries : List Entry) (xs : List Pkt) (s : Schedule) → ArePlaced (arrivals_of entries) → Fine xs s → Fine (xs ++ arrivals_of entries) (fold after_entry s entries)
  all_entries [] xs s placed so = subst (λ ys. Fine ys s) (sym (append-nil xs)) so
  all_entries (Arrive p ∷ entries) xs s placed so =
      let P : Pkt → Type 0 = λ q. IsTrue (has_place q start) in
      subst (λ ys. Fine ys (fold after_entry (after_entry s (Arrive p)) entries)) (append_assoc xs (p ∷ []) (arrivals_of entries))
      (all_entries entries (xs ++ p ∷ []) (after_entry s (Arrive p)) (All-tail P p (arrivals_of entries) placed) (one_more xs s p (All-head P p (arrivals_of entries) placed) so))
  all_entries (Dequeue now room ∷ entries) xs s placed so = all_entries entries xs (after_entry s (Dequeue now room)) placed (dequeued xs s now room so)

  pub arrivals_end : (journal : List Entry) → EveryArrivalEnds start journal
  unfolding schedule_from
  arrivals_end journal none within placed =
      (all_entries journal [] (at_start start) placed (record {
        within = within;
        setting = refl;
        accounted = subst (λ ts. IsPermutation [] (ts ++ [])) (sym none) (IsPermutation-refl []);
      })).accounted
