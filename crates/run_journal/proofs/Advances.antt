-- An advance, a step at a time.
use Rattle.std.proofs.Common.{◌≡◌, ◌<◌, ◌≤◌, ◌⊎◌, ℕ, zero, suc, ◌+◌, ◌-◌, ◌||◌, Bool, true, false, cond, eqb, leb, ltb, max, None, Some, refl, sym, ap, ◌∙◌, subst, inl, inr, ⊎_elim, arith}
use Rattle.std.proofs.lemmas.Bool.{cases_lt, cond_both}
use Rattle.std.proofs.lemmas.Bool.Decides.{nat_tests}
use Rattle.qos_base.specs.declared.packet.Pkt.{Pkt}
use Rattle.port_sched.specs.Port.{Port, queued}
use Rattle.run_journal.specs.declared.pace.Pace.{Pace}
use Rattle.run_journal.specs.Pacer.{PacerState, step_to, after_aim, next_in, next_moment}
use Rattle.run_journal.specs.Paced.{Course, schedule_in, after_dequeue, moment_after, advance_by, advance}
use Rattle.run_journal.specs.PortRun.{RunState, course_of, schedule}
use Rattle.run_journal.specs.Laws.{Begins}
use Rattle.run_journal.specs.Advancing.{steps_left, Advancing, next_of, dequeued, at_aim, AdvanceSteps}
use Rattle.run_journal.proofs.Entries.{arrivals_of-dequeue}
use Rattle.run_journal.proofs.Lives.{Served, weight-dequeued, moment-later, advance_by-grows}
use Rattle.run_journal.proofs.Choices.{if-le, if-gt, if-lt, if-ge, if-zero, if-some, zero_or_some}

-- what the tests of a next dequeue say
none_or_some : (b : Bool) (m n : ℕ) → cond b None (Some m) ≡ Some n → (b ≡ false) × (m ≡ n)
none_or_some true m n is = absurd (let no : ⊥ = cc in no)
none_or_some false m n is = (refl, cc)

none_only : (b : Bool) (m : ℕ) → cond b None (Some m) ≡ None → b ≡ true
none_only true m is = refl
none_only false m is = cc

tests_false : (aim clock waits m : ℕ) → (leb aim clock || (eqb waits 0 || ltb aim m)) ≡ false → (clock < aim) × (0 < waits) × (m ≤ aim)
tests_false aim clock waits m is = (grind (arith, nat_tests), grind (arith, nat_tests), grind (arith, nat_tests))

tests_true : (aim clock waits m : ℕ) → (leb aim clock || (eqb waits 0 || ltb aim m)) ≡ true → clock < aim → 0 < waits → aim < m
tests_true aim clock waits m is below some = grind (arith, nat_tests)

next-some : (p : PacerState) (waits time n : ℕ) → next_in p waits time ≡ Some n → (p.clock < p.aim) × (0 < waits) × (n ≤ p.aim) × (next_moment p time ≡ n)
next-some p waits time n is =
    let cases = none_or_some (leb p.aim p.clock || (eqb waits 0 || ltb p.aim (next_moment p time))) (next_moment p time) n is in
    let parts = tests_false p.aim p.clock waits (next_moment p time) cases.0 in
    (parts.0, parts.1, subst (λ m. m ≤ p.aim) cases.1 parts.2, cases.1)

next-none : (p : PacerState) (waits time : ℕ) → next_in p waits time ≡ None → (p.aim ≤ p.clock) ⊎ ((waits ≡ 0) ⊎ (p.aim < next_moment p time))
next-none p waits time is =
    let tests = none_only (leb p.aim p.clock || (eqb waits 0 || ltb p.aim (next_moment p time))) (next_moment p time) is in
    ⊎_elim
    (λ (below : p.clock < p.aim). inr (⊎_elim
    (λ (none : waits ≡ 0). inl none)
    (λ (some : 0 < waits). inr (tests_true p.aim p.clock waits (next_moment p time) tests below some))
    (zero_or_some waits)))
    (λ (there : p.aim ≤ p.clock). inl there)
    (cases_lt p.clock p.aim)

flag-le : (b : Bool) → cond b 1 0 ≤ 1
flag-le true = omega arith
flag-le false = omega arith

module _ (pace : Pace) (start : Port Pkt) (step to : ℕ) where
  -- the clock at its end
  abbrev ended : Course → Course
  ended c = record c { clock = max c.clock to }

  ended-there : (c : Course) → to ≤ c.clock → c ≡ ended c
  ended-there c there = let same : c.clock ≡ max c.clock to = omega arith in ap (λ (n : ℕ). record c { clock = n }) same

  ended-ahead : (c : Course) → c.clock ≤ to → record c { clock = to } ≡ ended c
  ended-ahead c ahead = let same : to ≡ max c.clock to = omega arith in ap (λ (n : ℕ). record c { clock = n }) same

  by-there : (times : ℕ) (c : Course) → to ≤ c.clock → advance_by pace start step to times c ≡ c
  unfolding advance_by
  by-there zero c there = refl
  by-there (suc times) c there = if-le to c.clock c _ there

  -- the advance is over where the clock is there, nothing waits, or the next dequeue would be past the aim
  by-over : (times : ℕ) (c : Course) → to - c.clock ≤ times → (to ≤ c.clock) ⊎ ((queued (schedule_in pace start c).port ≡ 0) ⊎ (to < moment_after pace start step c)) → advance_by pace start step to times c ≡ ended c
  unfolding advance_by
  by-over zero c enough over = ended-there c (omega arith)
  by-over (suc times) c enough over =
      let waits = queued (schedule_in pace start c).port in
      let at_to : Course = record c { clock = to } in
      let more = advance_by pace start step to times (after_dequeue pace start (moment_after pace start step c) c) in
      let last : Course = cond (ltb to (moment_after pace start step c)) at_to more in
      ⊎_elim
      (λ (ahead : c.clock < to).
      if-gt to c.clock c (cond (eqb waits 0) at_to last) ahead
      ∙ ⊎_elim
      (λ (none : waits ≡ 0). if-zero waits at_to last none)
      (λ (some : 0 < waits). if-some waits at_to last some ∙ if-lt to (moment_after pace start step c) at_to more
      (⊎_elim (λ (there : to ≤ c.clock). absurd (omega arith)) (λ (rest : (waits ≡ 0) ⊎ (to < moment_after pace start step c)). ⊎_elim (λ (none : waits ≡ 0). absurd (omega arith)) (λ (past : to < moment_after pace start step c). past) rest) over))
      (zero_or_some waits)
      ∙ ended-ahead c (omega arith))
      (λ (there : to ≤ c.clock). if-le to c.clock c (cond (eqb waits 0) at_to last) there ∙ ended-there c there)
      (cases_lt c.clock to)

  -- else its next dequeue is made, and it goes on from there
  record Goes (times : ℕ) (c : Course) (now : ℕ) : Type 0 where
    left : ℕ
    count : times ≡ left + 1
    on : advance_by pace start step to times c ≡ advance_by pace start step to left (after_dequeue pace start now c)

  by-more : (times : ℕ) (c : Course) (now : ℕ) → 1 ≤ times → c.clock < to → 0 < queued (schedule_in pace start c).port → moment_after pace start step c ≡ now → now ≤ to → Goes times c now
  unfolding advance_by
  by-more zero c now enough ahead some is within = absurd (omega arith)
  by-more (suc times) c now enough ahead some is within =
      let waits = queued (schedule_in pace start c).port in
      let at_to : Course = record c { clock = to } in
      let more = advance_by pace start step to times (after_dequeue pace start (moment_after pace start step c) c) in
      let last : Course = cond (ltb to (moment_after pace start step c)) at_to more in
      record {
        left = times;
        count = omega arith;
        on = if-gt to c.clock c (cond (eqb waits 0) at_to last) ahead ∙ if-some waits at_to last some ∙ if-ge to (moment_after pace start step c) at_to more (omega (arith, is))
            ∙ ap (λ n. advance_by pace start step to times (after_dequeue pace start n c)) is;
      }

-- the pacer of an advance to a moment that is ahead, or behind
aim_ahead : (p : PacerState) (to : ℕ) → p.clock < to → after_aim to p ≡ record p { aim = to; step = step_to p.quantum to p.clock }
aim_ahead p to ahead = if-lt p.clock to _ _ ahead

aim_behind : (p : PacerState) (to : ℕ) → to ≤ p.clock → after_aim to p ≡ record p { aim = to }
aim_behind p to there = if-ge p.clock to _ _ there

module _ {T : Type 0} (served : Served) (from : RunState T) (to : ℕ) where
  -- how often an advance is repeated at most
  abbrev most : ℕ
  most = to - from.pacer.clock + queued (schedule from).port + 1

  begins : from.pacer.quantum ≡ from.pace.quantum → (from.pacer.clock < to) ⊎ (to ≤ from.pacer.clock) → Advancing from to (record from { pacer = after_aim to from.pacer })
  unfolding advance
  begins quantum (inl ahead) =
      let p : PacerState = from.pacer in
      let with : PacerState → RunState T = λ q. record from { pacer = q } in
      subst (λ (q : PacerState). Advancing from to (with q)) (sym (aim_ahead p to ahead)) (record {
        times = most;
        enough = omega (arith, flag-le (schedule from).went);
        goes_on = ap (λ n. advance_by from.pace from.start (step_to n to p.clock) to most (course_of from)) (sym quantum);
        pace = refl;
        start = refl;
        aim = refl;
        step = λ _. omega arith;
        arrivals = refl;
        later = omega arith;
        within = omega arith;
      })
  begins quantum (inr there) =
      let p : PacerState = from.pacer in
      let with : PacerState → RunState T = λ q. record from { pacer = q } in
      subst (λ (q : PacerState). Advancing from to (with q)) (sym (aim_behind p to there)) (record {
        times = most;
        enough = omega (arith, flag-le (schedule from).went);
        goes_on = by-there from.pace from.start (step_to from.pace.quantum to p.clock) to most (course_of from) there ∙ sym (by-there from.pace from.start p.step to most (course_of from) there);
        pace = refl;
        start = refl;
        aim = refl;
        step = λ ahead. omega arith;
        arrivals = refl;
        later = omega arith;
        within = omega arith;
      })

  module _ (now : RunState T) where
    abbrev waits_now : ℕ
    waits_now = queued (schedule now).port

    abbrev time_now : ℕ
    time_now = (schedule now).port.time

    -- in the numbers of the run as it is now
    goes_on-here : (so_far : Advancing from to now) → advance from.pace from.start to (course_of from) ≡ advance_by now.pace now.start now.pacer.step to so_far.times (course_of now)
    goes_on-here so_far =
        so_far.goes_on ∙ ap (λ pace. advance_by pace from.start now.pacer.step to so_far.times (course_of now)) (sym so_far.pace)
        ∙ ap (λ start. advance_by now.pace start now.pacer.step to so_far.times (course_of now)) (sym so_far.start)

    same_moment : now.pacer.went ≡ (schedule now).went → moment_after now.pace now.start now.pacer.step (course_of now) ≡ next_moment now.pacer time_now
    same_moment went = ap (λ b. cond b (max now.pacer.clock time_now) (now.pacer.clock + now.pacer.step)) (sym went)

    goes : (m : ℕ) (port : Port T) → Advancing from to now → now.pacer.went ≡ (schedule now).went → next_of now ≡ Some m → Advancing from to (dequeued now m port) × (steps_left to (dequeued now m port) < steps_left to now)
    goes m port so_far went is =
        let parts = next-some now.pacer waits_now time_now m is in
        let ahead : now.pacer.clock < to = subst (λ n. now.pacer.clock < n) so_far.aim parts.0 in
        let within : m ≤ to = subst (λ n. m ≤ n) so_far.aim parts.2 in
        let moment = same_moment went ∙ parts.3 in
        let flag : ℕ = cond (schedule now).went 1 0 in
        let on : now.pacer.clock < m + flag = subst (λ n. now.pacer.clock < n + flag) moment (moment-later (schedule now).went now.pacer.clock time_now now.pacer.step (so_far.step ahead)) in
        let not_before : now.pacer.clock ≤ m = subst (λ (n : ℕ). now.pacer.clock ≤ n) moment (cond_both (schedule now).went (max now.pacer.clock time_now) (now.pacer.clock + now.pacer.step) (λ (n : ℕ). now.pacer.clock ≤ n) (λ _. omega arith) (λ _. omega arith)) in
        let lighter = weight-dequeued served now.pace now.start now.journal m now.pace.burst in
        let enough = so_far.enough in
        let more = by-more now.pace now.start now.pacer.step to so_far.times (course_of now) m (omega (arith, enough, parts.1)) ahead parts.1 moment within in
        let made : Course = course_of (dequeued now m port) in
        let count = more.count in
        let later = so_far.later in
        let most_so_far = so_far.within in
        let back = ap (λ pace. advance_by pace now.start now.pacer.step to more.left made) so_far.pace ∙ ap (λ start. advance_by from.pace start now.pacer.step to more.left made) so_far.start in
        let next : Advancing from to (dequeued now m port) = record {
          times = more.left;
          enough = omega (arith, enough, on, lighter, ahead, within, count);
          goes_on = goes_on-here so_far ∙ more.on ∙ back;
          pace = so_far.pace;
          start = so_far.start;
          aim = so_far.aim;
          step = λ still. so_far.step ahead;
          arrivals = arrivals_of-dequeue now.journal m now.pace.burst ∙ so_far.arrivals;
          later = omega (arith, later, not_before);
          within = omega (arith, within);
        } in
        (next, omega (arith, on, lighter, ahead, within))

    ends : Advancing from to now → now.pacer.went ≡ (schedule now).went → next_of now ≡ None → course_of (at_aim now) ≡ advance from.pace from.start to (course_of from)
    ends so_far went none =
        let why : (to ≤ now.pacer.clock) ⊎ ((waits_now ≡ 0) ⊎ (to < next_moment now.pacer time_now)) = subst (λ n. (n ≤ now.pacer.clock) ⊎ ((waits_now ≡ 0) ⊎ (n < next_moment now.pacer time_now))) so_far.aim (next-none now.pacer waits_now time_now none) in
        let over : (to ≤ now.pacer.clock) ⊎ ((waits_now ≡ 0) ⊎ (to < moment_after now.pace now.start now.pacer.step (course_of now))) = subst (λ n. (to ≤ now.pacer.clock) ⊎ ((waits_now ≡ 0) ⊎ (to < n))) (sym (same_moment went)) why in
        let enough = so_far.enough in
        ap (λ (n : ℕ). let course : Course = record { journal = now.journal; clock = max now.pacer.clock n } in course) so_far.aim
        ∙ sym (goes_on-here so_far ∙ by-over now.pace now.start now.pacer.step to so_far.times (course_of now) (omega (arith, enough)) over)

    begun : Advancing from to now → Begins now.journal (advance from.pace from.start to (course_of from)).journal
    begun so_far =
        let grown = advance_by-grows from.pace from.start now.pacer.step to so_far.times (course_of now) in
        (grown.0, ap (λ (c : Course). c.journal) so_far.goes_on ∙ grown.1)

  pub advance-steps : AdvanceSteps from to
  advance-steps = record {
    begins = λ quantum. begins quantum (cases_lt from.pacer.clock to);
    goes = λ now m port so_far went is. goes now m port so_far went is;
    ends = ends;
    so_far = begun;
  }
