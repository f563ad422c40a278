-- The port of a setup goes from one arrival to the next.
use Rattle.std.proofs.Common.{◌≡◌, ◌<◌, ◌+◌, ◌∷◌, ◌++◌, ℕ, List, [], false, None, Some, Result, Ok, Err, OnErr}
use Rattle.std.proofs.Common.{refl, sym, ap, ◌∙◌, subst, append_assoc}
use Rattle.std.proofs.lemmas.List.{append-nil}
use Rattle.qos_base.specs.declared.packet.Pkt.{Pkt}
use Rattle.qos_io.specs.declared.sink.Sink.{Ghosts as Sinks}
use Rattle.port_sched.specs.Port.{Port}
use Rattle.run_journal.specs.declared.entry.Entry.{Entry}
use Rattle.run_journal.specs.declared.pace.Pace.{Pace}
use Rattle.run_journal.specs.declared.entry.Entry.TheVariants.{Dequeue}
use Rattle.run_journal.specs.Advancing.{AdvanceSteps, Advancing, ArrivalLaws, ArrivalSteps, next_of, steps_left, arrived}
use Rattle.run_journal.specs.Laws.{Begins, OpenCourses}
use Rattle.run_journal.specs.Pace.{pace_of}
use Rattle.run_journal.specs.Pacer.{after_aim, after_at}
use Rattle.run_journal.specs.Paced.{Course, advance, after_arrival}
use Rattle.run_journal.specs.PortRun.{RunState, after_entry_of, course_of, schedule, started}
use Rattle.run_journal.specs.Schedule.{arrivals_of}
use Rattle.pkt_slots.specs.declared.mbuf.Mbuf.{Mbuf}
use Rattle.port_egress.specs.declared.send.Sender.{Sender}
use Rattle.port_egress.specs.declared.egress.Egress.{Egress}
use Rattle.port_egress.specs.Egress.{Serves, IsOpen, IsDrained, HasHalted}
use Rattle.port_egress.specs.Run.{Setup, arrival_time, open_run, paced_journal}
use Rattle.port_egress.specs.Sender.{StaysSender}

pub Begins-then : (js ks all : List Entry) → Begins js ks → Begins ks all → Begins js all
Begins-then js ks all one two = (one.0 ++ two.0, two.1 ∙ ap (λ es. es ++ two.0) one.1 ∙ append_assoc js one.0 two.0)

pub Begins-same : (js all : List Entry) → js ≡ all → Begins js all
Begins-same js all same = ([], sym same ∙ sym (append-nil js))

-- what holds anyway holds of a failure
pub on_err : {A E P : Type 0} (r : Result A E) → P → OnErr r P
on_err (Ok x) p = tt
on_err (Err e) p = p

pub StaysSender-none : {K : Type 0} (G : Sinks K) (a : Sender K) → StaysSender G a a
StaysSender-none G a = record { stamps = refl; name = refl; there = λ is. is; none = λ is. is; told = λ is. is; fine = λ fine. fine }

pub StaysSender-then : {K : Type 0} (G : Sinks K) (a b c : Sender K) → StaysSender G a b → StaysSender G b c → StaysSender G a c
StaysSender-then G a b c first second = record {
  stamps = second.stamps ∙ first.stamps;
  name = second.name ∙ first.name;
  there = λ is. second.there (first.there is);
  none = λ is. second.none (first.none is);
  told = λ is. second.told (first.told is);
  fine = λ fine. second.fine (first.fine fine);
}

-- the dequeue at the next moment, to which the clock has come, is a step of the advance
pub advance-step : {T : Type 0} (from : RunState T) (to : ℕ) → AdvanceSteps from to → (now : RunState T) → Advancing from to now
    → now.pacer.went ≡ (schedule now).went → (m : ℕ) → Some m ≡ next_of now
    → (clocked : RunState T) → clocked ≡ record now { pacer = record now.pacer { clock = m } }
    → (last : RunState T) → last ≡ after_entry_of clocked (Dequeue m clocked.pace.burst) last.port
    → Advancing from to last × (steps_left to last < steps_left to now)
advance-step {T = T} from to steps now so_far went m is clocked clock last state =
    let entered : RunState T → RunState T = λ r. after_entry_of r (Dequeue m r.pace.burst) last.port in
    subst (λ (r : RunState T). Advancing from to r × (steps_left to r < steps_left to now)) (sym (state ∙ ap entered clock))
    (steps.goes now m last.port so_far went (sym is))

-- an advance only adds to a journal
advance-grows : {T : Type 0} → ((from : RunState T) (to : ℕ) → AdvanceSteps from to)
    → (pace : Pace) (start : Port Pkt) (port : Port T) (c : Course) (to : ℕ)
    → Begins c.journal (advance pace start to c).journal
advance-grows {T = T} steps pace start port c to =
    let from : RunState T = record {
      pace = pace;
      start = start;
      journal = c.journal;
      pacer = record { quantum = pace.quantum; clock = c.clock; aim = 0; step = 0; went = false };
      port = port;
    } in
    let go = steps from to in
    go.so_far (record from { pacer = after_aim to from.pacer }) (go.begins refl)

module _ {K : Type 0} {G : Sinks K} where
  -- it paces the same port, and its sender is no other
  pub record Kept (old new : Egress K G) : Type 0 where
    pub pace : new.port.pace ≡ old.port.pace
    pub start : new.port.start ≡ old.port.start
    pub stays : StaysSender G old.sender new.sender

  pub Kept-then : (old there new : Egress K G) → Kept old there → Kept there new → Kept old new
  Kept-then old there new first second = record {
    pace = second.pace ∙ first.pace;
    start = second.start ∙ first.start;
    stays = StaysSender-then G old.sender there.sender new.sender first.stays second.stays;
  }

  -- one more entry
  pub Kept-entered : (old new : Egress K G) (entry : Entry) → new.port ≡ after_entry_of old.port entry new.port.port
      → StaysSender G old.sender new.sender → Kept old new
  Kept-entered old new entry is stays = record {
    pace = ap (λ (r : RunState Mbuf). r.pace) is;
    start = ap (λ (r : RunState Mbuf). r.start) is;
    stays = stays;
  }

  -- and none
  pub Kept-same : (old new : Egress K G) → new.port ≡ old.port → StaysSender G old.sender new.sender → Kept old new
  Kept-same old new is stays = record {
    pace = ap (λ (r : RunState Mbuf). r.pace) is;
    start = ap (λ (r : RunState Mbuf). r.start) is;
    stays = stays;
  }

  pub StaysSender-same : (old new : Egress K G) → new.sender ≡ old.sender → StaysSender G old.sender new.sender
  StaysSender-same old new is = subst (λ t. StaysSender G old.sender t) (sym is) (StaysSender-none G old.sender)

  Serves-kept : (s : Setup) (old new : Egress K G) → Kept old new → Serves s old → Serves s new
  Serves-kept s old new kept serves = record {
    pace = kept.pace ∙ serves.pace;
    start = kept.start ∙ serves.start;
    origin = ap (λ t. t.origin) kept.stays.stamps ∙ serves.origin;
    line = ap (λ t. t.line) kept.stays.stamps ∙ serves.line;
  }

-- what an arrival rests on
pub record Arriving {K : Type 0} {G : Sinks K} (old : Egress K G) (at : ℕ) (p : Pkt) : Type 0 where
  pub exact : (s : Setup) → Serves s old → at ≡ arrival_time s p
  pub laws : ArrivalLaws old.port at p
  pub steps : (from : RunState Mbuf) (to : ℕ) → AdvanceSteps from to
  pub opens : (pace : Pace) (start : Port Pkt) (byte_time : Pkt → ℕ) → OpenCourses pace start byte_time

module _ {K : Type 0} {G : Sinks K} (old : Egress K G) (at : ℕ) (p : Pkt) (arriving : Arriving old at p) where
  -- the course of the setup, one arrival later
  arrived-is : (s : Setup) → IsOpen s old
      → after_arrival old.port.pace old.port.start at p (course_of old.port) ≡ open_run s (arrivals_of old.port.journal ++ p ∷ [])
  arrived-is s is_open =
      let pace = pace_of s.plan in
      let start = started s.profile s.plan in
      ap (λ q. after_arrival q old.port.start at p (course_of old.port)) is_open.serves.pace
      ∙ ap (λ q. after_arrival pace q at p (course_of old.port)) is_open.serves.start
      ∙ ap (λ (n : ℕ). after_arrival pace start n p (course_of old.port)) (arriving.exact s is_open.serves)
      ∙ ap (λ c. after_arrival pace start (arrival_time s p) p c) is_open.course
      ∙ sym ((arriving.opens pace start (arrival_time s)).one_more (arrivals_of old.port.journal) p)

  abbrev after : Course
  after = after_arrival old.port.pace old.port.start at p (course_of old.port)

  -- The advance has come from `old` to `there`, and then the packet has joined or was turned away.
  module _ (there : Egress K G) (came : Kept old there)
      (course : course_of there.port ≡ advance old.port.pace old.port.start at (course_of old.port)) where
    pub Begins-there : Begins there.port.journal after.journal
    Begins-there = arriving.laws.begins there.port.journal
        (Begins-same there.port.journal (advance old.port.pace old.port.start at (course_of old.port)).journal
        (ap (λ (c : Course). c.journal) course))

    module _ (joined : RunState Mbuf) (is : joined ≡ arrived there.port p joined.port) where
      abbrev steps : ArrivalSteps old.port there.port at p
      steps = arriving.laws.steps there.port came.pace came.start course

      -- no dequeue follows
      pub course-alone : after_at joined.pacer (schedule joined).port.time ≡ None → course_of joined ≡ after
      course-alone none =
          let told = subst (λ (r : RunState Mbuf). after_at r.pacer (schedule r).port.time ≡ None) is none in
          ap course_of is ∙ steps.alone joined.port told

      module _ (m : ℕ) (some : after_at joined.pacer (schedule joined).port.time ≡ Some m) where
        served : (port : Port Mbuf) → course_of (after_entry_of (arrived there.port p joined.port) (Dequeue m there.port.pace.burst) port)
            ≡ after
        served port =
            let told = subst (λ (r : RunState Mbuf). after_at r.pacer (schedule r).port.time ≡ Some m) is some in
            steps.followed joined.port port m told

        pub course-followed : (last : RunState Mbuf) → last ≡ after_entry_of joined (Dequeue m joined.pace.burst) last.port
            → course_of last ≡ after
        course-followed last last_is =
            let entered : RunState Mbuf → RunState Mbuf = λ r. after_entry_of r (Dequeue m r.pace.burst) last.port in
            ap course_of last_is ∙ ap (λ r. course_of (entered r)) is ∙ served last.port

        pub Begins-joined : Begins joined.journal after.journal
        Begins-joined = (
          Dequeue m there.port.pace.burst ∷ [],
          ap (λ (c : Course). c.journal) (sym (served joined.port))
              ∙ ap (λ (r : RunState Mbuf). r.journal ++ Dequeue m there.port.pace.burst ∷ []) (sym is),
        )

  module _ (new : Egress K G) (kept : Kept old new) where
    pub IsOpen-arrived : course_of new.port ≡ after
        → arrivals_of new.port.journal ≡ arrivals_of old.port.journal ++ p ∷ [] → (s : Setup) → IsOpen s old → IsOpen s new
    IsOpen-arrived course arrivals s is_open = record {
      serves = Serves-kept s old new kept is_open.serves;
      course = course ∙ arrived-is s is_open ∙ ap (open_run s) (sym arrivals);
    }

    pub HasHalted-arrived : Begins new.port.journal after.journal
        → (s : Setup) → IsOpen s old → HasHalted s (arrivals_of old.port.journal ++ p ∷ []) new
    HasHalted-arrived begins s is_open =
        let arrivals = arrivals_of old.port.journal ++ p ∷ [] in
        let there = open_run s arrivals in
        let to = there.clock + (pace_of s.plan).drain in
        let so_far : Begins new.port.journal there.journal =
        (begins.0, ap (λ (c : Course). c.journal) (sym (arrived-is s is_open)) ∙ begins.1) in
        record {
          serves = Serves-kept s old new kept is_open.serves;
          begins = Begins-then new.port.journal there.journal (paced_journal s arrivals) so_far
              (advance-grows arriving.steps (pace_of s.plan) (started s.profile s.plan) new.port.port there to);
        }

module _ {K : Type 0} {G : Sinks K} (old new : Egress K G) (kept : Kept old new) where
  abbrev drained : Course
  drained = advance old.port.pace old.port.start (old.port.pacer.clock + old.port.pace.drain) (course_of old.port)

  drained-is : (s : Setup) → IsOpen s old → drained.journal ≡ paced_journal s (arrivals_of old.port.journal)
  drained-is s is_open =
      let start = started s.profile s.plan in
      ap (λ (p : Pace). (advance p old.port.start (old.port.pacer.clock + p.drain) (course_of old.port)).journal) is_open.serves.pace
      ∙ ap (λ q. (advance (pace_of s.plan) q (old.port.pacer.clock + (pace_of s.plan).drain) (course_of old.port)).journal)
      is_open.serves.start
      ∙ ap (λ (c : Course). (advance (pace_of s.plan) start (c.clock + (pace_of s.plan).drain) c).journal) is_open.course

  pub IsDrained-advanced : course_of new.port ≡ drained → arrivals_of new.port.journal ≡ arrivals_of old.port.journal
      → (s : Setup) → IsOpen s old → IsDrained s new
  IsDrained-advanced course arrivals s is_open = record {
    serves = Serves-kept s old new kept is_open.serves;
    journal = ap (λ (c : Course). c.journal) course ∙ drained-is s is_open ∙ ap (paced_journal s) (sym arrivals);
  }

  pub HasHalted-advanced : Begins new.port.journal drained.journal → (s : Setup) → IsOpen s old
      → HasHalted s (arrivals_of old.port.journal) new
  HasHalted-advanced begins s is_open = record {
    serves = Serves-kept s old new kept is_open.serves;
    begins = (begins.0, sym (drained-is s is_open) ∙ begins.1);
  }
