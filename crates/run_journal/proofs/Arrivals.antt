-- An arrival at a port: its packet, and the dequeue that follows it.
use Rattle.std.proofs.Common.{◌≡◌, ℕ, Bool, true, false, cond, leb, [], ◌∷◌, ◌++◌, append_assoc, None, Some, refl, sym, ap, ◌∙◌}
use Rattle.std.proofs.lemmas.List.Sums.{fold-append}
use Rattle.qos_base.specs.declared.packet.Pkt.{Pkt}
use Rattle.port_sched.specs.Port.{Port}
use Rattle.run_journal.specs.declared.entry.Entry.TheVariants.{Arrive, Dequeue}
use Rattle.run_journal.specs.declared.pace.Pace.{Pace}
use Rattle.run_journal.specs.Paced.{Course, schedule_in, after_dequeue, advance, after_join, after_arrival, open_course}
use Rattle.run_journal.specs.PortRun.{RunState, course_of}
use Rattle.run_journal.specs.Laws.{OpenCourses}
use Rattle.run_journal.specs.Advancing.{ArrivalLaws}
use Rattle.run_journal.proofs.Lives.{joined-grows}

some_if : (b : Bool) (x y : ℕ) → cond b (Some x) None ≡ Some y → (b ≡ true) × (x ≡ y)
some_if true x y is = (refl, cc)
some_if false x y is = absurd (let never : ⊥ = cc in never)

none_if : (b : Bool) (x : ℕ) → cond b (Some x) None ≡ None → b ≡ false
none_if true x is = cc
none_if false x is = refl

module _ (pace : Pace) (start : Port Pkt) (p : Pkt) (c : Course) where
  abbrev with_arrival : Course
  with_arrival = record c { journal = c.journal ++ Arrive p ∷ [] }

  -- the dequeue that follows an arrival
  joined-dequeued : (now : ℕ) → cond (leb (schedule_in pace start with_arrival).port.time c.clock) (Some c.clock) None ≡ Some now → record { journal = (c.journal ++ Arrive p ∷ []) ++ Dequeue now pace.burst ∷ []; clock = c.clock } ≡ after_join pace start p c
  joined-dequeued now is =
      let cases = some_if (leb (schedule_in pace start with_arrival).port.time c.clock) c.clock now is in
      let there : Course = with_arrival in
      sym (ap (λ b. cond b (after_dequeue pace start c.clock there) there) cases.0
      ∙ ap (λ (n : ℕ). record { journal = (c.journal ++ Arrive p ∷ []) ++ Dequeue n pace.burst ∷ []; clock = c.clock }) cases.1)

  -- no dequeue follows it
  joined-alone : cond (leb (schedule_in pace start with_arrival).port.time c.clock) (Some c.clock) None ≡ None → with_arrival ≡ after_join pace start p c
  joined-alone is =
      let there : Course = with_arrival in
      sym (ap (λ b. cond b (after_dequeue pace start c.clock there) there) (none_if (leb (schedule_in pace start with_arrival).port.time c.clock) c.clock is))

module _ {T : Type 0} (from : RunState T) (at : ℕ) (p : Pkt) where
  abbrev advanced : Course
  advanced = advance from.pace from.start at (course_of from)

  -- in the numbers that the run began with
  joined-same : (there : RunState T) → there.pace ≡ from.pace → there.start ≡ from.start → course_of there ≡ advanced → after_join there.pace there.start p (course_of there) ≡ after_arrival from.pace from.start at p (course_of from)
  joined-same there pace start came =
      ap (λ q. after_join q there.start p (course_of there)) pace ∙ ap (λ s. after_join from.pace s p (course_of there)) start ∙ ap (after_join from.pace from.start p) came

  pub arrival-laws : ArrivalLaws from at p
  arrival-laws = record {
    steps = λ there pace start came. record {
      alone = λ port none. joined-alone there.pace there.start p (course_of there) none ∙ joined-same there pace start came;
      followed = λ port last moment some. joined-dequeued there.pace there.start p (course_of there) moment some ∙ joined-same there pace start came;
    };
    begins = λ journal one.
        let two = joined-grows from.pace from.start p advanced in
        (one.0 ++ two.0, two.1 ∙ ap (λ es. es ++ two.0) one.1 ∙ append_assoc journal one.0 two.0);
  }

pub open-courses : (pace : Pace) (start : Port Pkt) (byte_time : Pkt → ℕ) → OpenCourses pace start byte_time
unfolding open_course
open-courses pace start byte_time = record {
  none = refl;
  one_more = λ arrivals p. fold-append (λ c q. after_arrival pace start (byte_time q) q c) (record { journal = []; clock = 0 }) arrivals (p ∷ []);
}
