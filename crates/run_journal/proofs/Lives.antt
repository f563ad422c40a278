-- Every open course is live, an advance ends at its aim, and a course's journal only grows.
use Rattle.std.proofs.Common.{◌≡◌, ◌<◌, ◌≤◌, ◌⊎◌, ℕ, zero, suc, ◌+◌, ◌-◌, Bool, true, false, cond, eqb, leb, ltb, nat_lt, max, List, [], ◌∷◌, ◌++◌, length, fold, refl, sym, ap, ◌∙◌, subst, inl, inr, ⊎_elim, append_assoc, arith}
use Rattle.std.specs.List.{All, sum_by}
use Rattle.std.proofs.lemmas.Bool.{cond_both, leb-true, leb-false, ltb-false, ltb-true}
use Rattle.std.proofs.lemmas.List.{append-nil}
use Rattle.std.proofs.lemmas.List.Elements.{All-nil, All-cons}
use Rattle.std.proofs.lemmas.List.Sums.{fold-append, sum_by-cons}
use Rattle.qos_base.specs.declared.packet.Pkt.{Pkt}
use Rattle.port_sched.specs.Parcels.{itself, parcels}
use Rattle.port_sched.specs.Port.{Port, queued}
use Rattle.port_sched.specs.PortDequeue.{cost_with, dequeue_port}
use Rattle.port_sched.specs.PortLaws.{DequeueServes}
use Rattle.run_journal.specs.declared.entry.Entry.{Entry}
use Rattle.run_journal.specs.declared.entry.Entry.TheVariants.{Arrive, Dequeue}
use Rattle.run_journal.specs.declared.pace.Pace.{Pace}
use Rattle.run_journal.specs.Pacer.{step_to}
use Rattle.run_journal.specs.Schedule.{Schedule, schedule_from}
use Rattle.run_journal.specs.Paced.{Course, schedule_in, after_dequeue, moment_after, advance_by, advance, after_join, after_arrival, open_course}
use Rattle.run_journal.specs.Laws.{Begins, FollowsFree, IsLive, AdvancesMoveOn, OpenJournalsGrow}
use Rattle.run_journal.proofs.Entries.{schedule_from-push}
use Rattle.run_journal.proofs.Choices.{zero_or_some}

-- what holds of every dequeue of packets
abbrev pub Served : Type 0
Served = (now room : ℕ) (s : Port Pkt) → DequeueServes itself now room s

all_zero : {X : Type 0} (f : X → ℕ) (xs : List X) → sum_by f xs ≡ 0 → All (λ x. f x ≡ 0) xs
all_zero f [] none = All-nil (λ x. f x ≡ 0)
all_zero f (x ∷ xs) none =
    let parts = sum_by-cons f x xs in
    All-cons (λ y. f y ≡ 0) x xs (omega (arith, parts, none)) (all_zero f xs (omega (arith, parts, none)))

one_at_most : (n : ℕ) → cond (nat_lt 0 n) 1 0 ≤ n
one_at_most zero = omega arith
one_at_most (suc n) = cond_both (nat_lt 0 (suc n)) 1 0 (λ m. m ≤ suc n) (λ _. omega arith) (λ _. omega arith)

-- the next moment is past the clock, or the last dequeue sent something and it is not before the clock
pub moment-later : (went : Bool) (clock time step : ℕ) → 1 ≤ step → clock < cond went (max clock time) (clock + step) + cond went 1 0
moment-later true clock time step some = omega arith
moment-later false clock time step some = omega arith

module _ (served : Served) (pace : Pace) (start : Port Pkt) where
  abbrev after_of : ℕ → Course → Schedule
  after_of now c = schedule_in pace start (after_dequeue pace start now c)

  -- so many wait, and one more where the last dequeue sent something
  abbrev pub weight : Schedule → ℕ
  weight s = queued s.port + cond s.went 1 0

  -- a dequeue doesn't add to that
  pub weight-dequeued : (journal : List Entry) (now room : ℕ) → weight (schedule_from start (journal ++ Dequeue now room ∷ [])) ≤ queued (schedule_from start journal).port
  weight-dequeued journal now room =
      let port = (schedule_from start journal).port in
      let made = dequeue_port itself now room port in
      let counted = (served now room port).counts.counted in
      let most = one_at_most (length made.sends) in
      subst (λ (s : Schedule). weight s ≤ queued port) (sym (schedule_from-push start journal (Dequeue now room))) (omega (arith, counted, most))

  dequeued-live : (c : Course) (now : ℕ) → IsLive pace start (after_dequeue pace start now c)
  dequeued-live c now waits told =
      let port = (schedule_in pace start c).port in
      let made = dequeue_port itself now pace.burst port in
      let laws = served now pace.burst port in
      let step = schedule_from-push start c.journal (Dequeue now pace.burst) in
      let total = sum_by (cost_with itself port.overhead) (parcels made.sends) in
      let some = ltb-true 0 (length made.sends) (sym (ap (λ (s : Schedule). s.went) step) ∙ told) in
      let time : (after_of now c).port.time ≡ max port.time now + total = ap (λ (s : Schedule). s.port.time) step ∙ laws.serves.time in
      let left : queued (after_of now c).port ≡ queued made.port = ap (λ (s : Schedule). queued s.port) step in
      let counted = laws.counts.counted in
      ⊎_elim
      (λ (none : total ≡ 0). inr (record {
        before = c;
        now = now;
        last = refl;
        free = all_zero (cost_with itself port.overhead) (parcels made.sends) none;
        fewer = omega (arith, left, counted, some);
      }))
      (λ (cost : 0 < total). inl (omega (arith, time, cost)))
      (zero_or_some total)

  joined-live : (p : Pkt) (c : Course) → IsLive pace start (after_join pace start p c)
  joined-live p c =
      let there : Course = record c { journal = c.journal ++ Arrive p ∷ [] } in
      cond_both (leb (schedule_in pace start there).port.time there.clock) (after_dequeue pace start there.clock there) there (IsLive pace start)
      (λ _. dequeued-live there there.clock)
      (λ no waits told. inl (leb-false (schedule_in pace start there).port.time there.clock no))

  fold-live : (byte_time : Pkt → ℕ) (c : Course) (ps : List Pkt) → IsLive pace start c → IsLive pace start (fold (λ c p. after_arrival pace start (byte_time p) p c) c ps)
  fold-live byte_time c [] live = live
  fold-live byte_time c (p ∷ ps) live = fold-live byte_time (after_arrival pace start (byte_time p) p c) ps (joined-live p (advance pace start (byte_time p) c))

  next-later : (c : Course) (step : ℕ) → IsLive pace start c → 1 ≤ step → 0 < queued (schedule_in pace start c).port → (c.clock < moment_after pace start step c) ⊎ FollowsFree pace start c
  next-later c step live some waits =
      let s = schedule_in pace start c in
      cond_both s.went (max c.clock s.port.time) (c.clock + step) (λ (m : ℕ). (c.clock < m) ⊎ FollowsFree pace start c)
      (λ told. ⊎_elim (λ (past : c.clock < s.port.time). inl (omega (arith, past))) (λ (free : FollowsFree pace start c). inr free) (live waits told))
      (λ _. inl (omega (arith, some)))

  arrives-by : (step to times : ℕ) (c : Course) → 1 ≤ step → (to - c.clock) + weight (schedule_in pace start c) ≤ times → (advance_by pace start step to times c).clock ≡ max c.clock to
  unfolding advance_by
  arrives-by step to zero c some enough = omega (arith, enough)
  arrives-by step to (suc times) c some enough =
      let s = schedule_in pace start c in
      let m = moment_after pace start step c in
      let at_to : Course = record c { clock = to } in
      let more = advance_by pace start step to times (after_dequeue pace start m c) in
      let IsThere : Course → Type 0 = λ d. d.clock ≡ max c.clock to in
      cond_both (leb to c.clock) c (cond (eqb (queued s.port) 0) at_to (cond (ltb to m) at_to more)) IsThere
      (λ yes. let there = leb-true to c.clock yes in omega (arith, there))
      (λ no.
      let ahead = leb-false to c.clock no in
      cond_both (eqb (queued s.port) 0) at_to (cond (ltb to m) at_to more) IsThere
      (λ _. omega (arith, ahead))
      (λ waits. cond_both (ltb to m) at_to more IsThere
      (λ _. omega (arith, ahead))
      (λ within.
      let in_time = ltb-false to m within in
      let on = moment-later s.went c.clock s.port.time step some in
      let lighter = weight-dequeued c.journal m pace.burst in
      let rest = arrives-by step to times (after_dequeue pace start m c) some (omega (arith, enough, on, lighter, ahead, in_time)) in
      let not_before : c.clock ≤ m = cond_both s.went (max c.clock s.port.time) (c.clock + step) (λ (n : ℕ). c.clock ≤ n) (λ _. omega arith) (λ _. omega arith) in
      omega (arith, ahead, in_time, rest, not_before))))

  pub moves_on : AdvancesMoveOn pace start
  unfolding advance schedule_from open_course
  moves_on = record {
    open_is_live = λ byte_time arrivals. fold-live byte_time (record { journal = []; clock = 0 }) arrivals (λ waits told. absurd (let never : false ≡ true = told in let impossible : ⊥ = cc in impossible));
    dequeue_is_live = dequeued-live;
    next_is_later = next-later;
    arrives = λ c b.
        let flag : cond (schedule_in pace start c).went 1 0 ≤ 1 = cond_both (schedule_in pace start c).went 1 0 (λ (n : ℕ). n ≤ 1) (λ _. omega arith) (λ _. omega arith) in
        arrives-by (step_to pace.quantum b c.clock) b (b - c.clock + queued (schedule_in pace start c).port + 1) c (omega arith) (omega (arith, flag));
  }

module _ (pace : Pace) (start : Port Pkt) where
  -- the journal of the second course begins with that of the first
  abbrev pub Grows : Course → Course → Type 0
  Grows c d = Begins c.journal d.journal

  pub Grows-trans : (c d e : Course) → Grows c d → Grows d e → Grows c e
  Grows-trans c d e one two = (one.0 ++ two.0, two.1 ∙ ap (λ es. es ++ two.0) one.1 ∙ append_assoc c.journal one.0 two.0)

  Grows-refl : (c d : Course) → d.journal ≡ c.journal → Grows c d
  Grows-refl c d same = ([], same ∙ sym (append-nil c.journal))

  pub advance_by-grows : (step to times : ℕ) (c : Course) → Grows c (advance_by pace start step to times c)
  unfolding advance_by
  advance_by-grows step to zero c = Grows-refl c c refl
  advance_by-grows step to (suc times) c =
      let waits = queued (schedule_in pace start c).port in
      let m = moment_after pace start step c in
      let at_to : Course = record c { clock = to } in
      let next = after_dequeue pace start m c in
      let more = advance_by pace start step to times next in
      cond_both (leb to c.clock) c (cond (eqb waits 0) at_to (cond (ltb to m) at_to more)) (Grows c)
      (λ _. Grows-refl c c refl)
      (λ _. cond_both (eqb waits 0) at_to (cond (ltb to m) at_to more) (Grows c)
      (λ _. Grows-refl c at_to refl)
      (λ _. cond_both (ltb to m) at_to more (Grows c)
      (λ _. Grows-refl c at_to refl)
      (λ _. Grows-trans c next more (Dequeue m pace.burst ∷ [], refl) (advance_by-grows step to times next))))

  pub joined-grows : (p : Pkt) (c : Course) → Grows c (after_join pace start p c)
  joined-grows p c =
      let there : Course = record c { journal = c.journal ++ Arrive p ∷ [] } in
      let next = after_dequeue pace start there.clock there in
      cond_both (leb (schedule_in pace start there).port.time there.clock) next there (Grows c)
      (λ _. Grows-trans c there next (Arrive p ∷ [], refl) (Dequeue there.clock pace.burst ∷ [], refl))
      (λ _. (Arrive p ∷ [], refl))

  arrived-grows : (b : ℕ) (p : Pkt) (c : Course) → Grows c (after_arrival pace start b p c)
  unfolding advance
  arrived-grows b p c =
      Grows-trans c (advance pace start b c) (after_arrival pace start b p c)
      (advance_by-grows (step_to pace.quantum b c.clock) b (b - c.clock + queued (schedule_in pace start c).port + 1) c) (joined-grows p (advance pace start b c))

  fold-grows : (byte_time : Pkt → ℕ) (c : Course) (ps : List Pkt) → Grows c (fold (λ c p. after_arrival pace start (byte_time p) p c) c ps)
  fold-grows byte_time c [] = Grows-refl c c refl
  fold-grows byte_time c (p ∷ ps) =
      let next = after_arrival pace start (byte_time p) p c in
      Grows-trans c next (fold (λ c p. after_arrival pace start (byte_time p) p c) next ps) (arrived-grows (byte_time p) p c) (fold-grows byte_time next ps)

  pub journals_grow : OpenJournalsGrow pace start
  unfolding open_course
  journals_grow byte_time arrivals more =
      let empty : Course = record { journal = []; clock = 0 } in
      let joined = fold-append (λ c p. after_arrival pace start (byte_time p) p c) empty arrivals more in
      let grown = fold-grows byte_time (open_course pace start byte_time arrivals) more in
      (grown.0, ap (λ c. c.journal) joined ∙ grown.1)
