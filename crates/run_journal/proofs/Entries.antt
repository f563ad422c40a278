-- One entry more in a journal.
use Rattle.std.proofs.Common.{◌≡◌, ◌≤◌, ℕ, length, ◌+◌, List, [], ◌∷◌, ◌++◌, refl, ap, ◌∙◌, arith}
use Rattle.std.proofs.lemmas.Bool.{cond_both}
use Rattle.std.proofs.lemmas.List.Sums.{fold-append}
use Rattle.qos_base.specs.declared.packet.Pkt.{Pkt}
use Rattle.port_sched.specs.Parcels.{itself}
use Rattle.port_sched.specs.Port.{Port, is_full, after_arrival}
use Rattle.run_journal.specs.declared.entry.Entry.{Entry}
use Rattle.run_journal.specs.declared.entry.Entry.TheVariants.{Arrive, Dequeue}
use Rattle.run_journal.specs.Schedule.{Schedule, at_start, after_entry, schedule_from, arrivals_of, dequeues_in}

pub schedule_from-push : (start : Port Pkt) (journal : List Entry) (entry : Entry) → schedule_from start (journal ++ entry ∷ []) ≡ after_entry (schedule_from start journal) entry
unfolding schedule_from
schedule_from-push start journal entry = fold-append after_entry (at_start start) journal (entry ∷ [])

pub arrivals_of-dequeue : (journal : List Entry) (now room : ℕ) → arrivals_of (journal ++ Dequeue now room ∷ []) ≡ arrivals_of journal
arrivals_of-dequeue [] now room = refl
arrivals_of-dequeue (Arrive p ∷ journal) now room = ap (λ ps. p ∷ ps) (arrivals_of-dequeue journal now room)
arrivals_of-dequeue (Dequeue n r ∷ journal) now room = arrivals_of-dequeue journal now room

pub arrivals_of-arrive : (journal : List Entry) (p : Pkt) → arrivals_of (journal ++ Arrive p ∷ []) ≡ arrivals_of journal ++ p ∷ []
arrivals_of-arrive [] p = refl
arrivals_of-arrive (Arrive q ∷ journal) p = ap (λ ps. q ∷ ps) (arrivals_of-arrive journal p)
arrivals_of-arrive (Dequeue n r ∷ journal) p = arrivals_of-arrive journal p

pub dequeues_in-dequeue : (journal : List Entry) (now room : ℕ) → dequeues_in (journal ++ Dequeue now room ∷ []) ≡ dequeues_in journal + 1
dequeues_in-dequeue [] now room = refl
dequeues_in-dequeue (Arrive p ∷ journal) now room = dequeues_in-dequeue journal now room
dequeues_in-dequeue (Dequeue n r ∷ journal) now room = ap (λ n. n + 1) (dequeues_in-dequeue journal now room)

pub dequeues_in-arrive : (journal : List Entry) (p : Pkt) → dequeues_in (journal ++ Arrive p ∷ []) ≡ dequeues_in journal
dequeues_in-arrive [] p = refl
dequeues_in-arrive (Arrive q ∷ journal) p = dequeues_in-arrive journal p
dequeues_in-arrive (Dequeue n r ∷ journal) p = ap (λ n. n + 1) (dequeues_in-arrive journal p)

pub dequeues_in-le : (journal : List Entry) → dequeues_in journal ≤ length journal
dequeues_in-le [] = omega arith
dequeues_in-le (Arrive p ∷ journal) = omega (arith, dequeues_in-le journal)
dequeues_in-le (Dequeue now room ∷ journal) = omega (arith, dequeues_in-le journal)

-- an arrival sends nothing
pub sends-arrive : (start : Port Pkt) (journal : List Entry) (p : Pkt) → (schedule_from start (journal ++ Arrive p ∷ [])).sends ≡ (schedule_from start journal).sends
sends-arrive start journal p =
    let s = schedule_from start journal in
    let Same : Schedule → Type 0 = λ t. t.sends ≡ s.sends in
    ap (λ (t : Schedule). t.sends) (schedule_from-push start journal (Arrive p))
    ∙ cond_both (is_full p s.port) (record s { drops = s.drops ++ p ∷ [] }) (record s { port = after_arrival itself p s.port }) Same (λ _. refl) (λ _. refl)
