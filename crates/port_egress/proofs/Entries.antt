-- One entry more in a journal.
use Rattle.std.proofs.Common.{◌≡◌, List, [], ◌∷◌, ◌++◌, Result, Ok, Err, OnOk, OnErr, ℕ, refl, ap, ◌∙◌}
use Rattle.std.proofs.lemmas.Bool.{cond_both}
use Rattle.std.proofs.lemmas.List.Sums.{fold-append}
use Rattle.qos_base.specs.declared.packet.Pkt.{Pkt}
use Rattle.port_sched.specs.Parcels.{itself}
use Rattle.port_sched.specs.Port.{Port, is_full, after_arrival}
use Rattle.run_journal.specs.declared.entry.Entry.{Entry}
use Rattle.run_journal.specs.declared.entry.Entry.TheVariants.{Arrive, Dequeue}
use Rattle.run_journal.specs.Schedule.{Schedule, at_start, after_entry, schedule_from, arrivals_of}
use Rattle.run_journal.specs.PortRun.{RunState, schedule, after_entry_of}

pub arrivals_of-dequeue : (journal : List Entry) (now room : ℕ) → arrivals_of (journal ++ Dequeue now room ∷ []) ≡ arrivals_of journal
arrivals_of-dequeue [] now room = refl
arrivals_of-dequeue (Arrive p ∷ journal) now room = ap (λ ps. p ∷ ps) (arrivals_of-dequeue journal now room)
arrivals_of-dequeue (Dequeue n r ∷ journal) now room = arrivals_of-dequeue journal now room

pub arrivals_of-arrive : (journal : List Entry) (p : Pkt) → arrivals_of (journal ++ Arrive p ∷ []) ≡ arrivals_of journal ++ p ∷ []
arrivals_of-arrive [] p = refl
arrivals_of-arrive (Arrive q ∷ journal) p = ap (λ ps. q ∷ ps) (arrivals_of-arrive journal p)
arrivals_of-arrive (Dequeue n r ∷ journal) p = arrivals_of-arrive journal p

after-arrive : (start : Port Pkt) (journal : List Entry) (p : Pkt)
    → (schedule_from start (journal ++ Arrive p ∷ [])).sends ≡ (schedule_from start journal).sends
unfolding schedule_from
after-arrive start journal p =
    let s = schedule_from start journal in
    let Same : Schedule → Type 0 = λ t. t.sends ≡ s.sends in
    ap (λ (t : Schedule). t.sends) (fold-append after_entry (at_start start) journal (Arrive p ∷ []))
    ∙ cond_both (is_full p s.port) (record s { drops = s.drops ++ p ∷ [] }) (record s { port = after_arrival itself p s.port }) Same
    (λ _. refl) (λ _. refl)

module _ {T : Type 0} where
  -- an arrival sends nothing
  pub sends-joined : (old new : RunState T) (p : Pkt) (port : Port T) → new ≡ after_entry_of old (Arrive p) port
      → (schedule new).sends ≡ (schedule old).sends
  sends-joined old new p port is = rw is (after-arrive old.start old.journal p)

  -- nor does one that was refused memory
  pub sends-tried : {A E : Type 0} (tried : Result A E) (old new : RunState T) (p : Pkt) (port : Port T)
      → OnOk tried (new ≡ after_entry_of old (Arrive p) port)
      → OnErr tried (new ≡ old) → (schedule new).sends ≡ (schedule old).sends
  sends-tried (Ok x) old new p port is refused = sends-joined old new p port is
  sends-tried (Err e) old new p port is refused = ap (λ (r : RunState T). (schedule r).sends) refused
