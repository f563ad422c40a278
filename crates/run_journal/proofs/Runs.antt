-- The run of a port stays sound.
use Rattle.std.proofs.Common.{◌≡◌, ◌≤◌, ◌<◌, ◌^◌, ℕ, ◌+◌, Bool, true, false, IsTrue, List, [], ◌∷◌, ◌++◌, length, map, nat_lt, cond, refl, sym, ap, ◌∙◌, subst, length-append, arith}
use Rattle.std.specs.List.{All}
use Rattle.std.proofs.lemmas.List.{length-map}
use Rattle.std.proofs.lemmas.List.Elements.{All-nil, All-push}
use Rattle.qos_base.specs.declared.packet.Pkt.{Pkt}
use Rattle.qos_base.specs.declared.packet.Departure.{Departure}
use Rattle.profile_plan.specs.declared.port.PortPlan.{PortPlan}
use Rattle.profile_plan.specs.Profile.{Plan, IsPort}
use Rattle.port_sched.specs.Parcels.{itself, seen_send}
use Rattle.port_sched.specs.Port.{Port, left_of, queued, has_place, is_full, after_arrival}
use Rattle.port_sched.specs.PortDequeue.{Course, dequeue_port}
use Rattle.port_sched.specs.PortLaws.{seen_port, PacketsDecide, DequeueServes, ArrivalJoins}
use Rattle.port_sched.specs.Settings.{DequeueKeeps, ArrivalKeeps}
use Rattle.port_sched.specs.Start.{start_at}
use Rattle.port_sched.specs.StartLaws.{HasAllSizes, StartLaws}
use Rattle.run_journal.specs.declared.entry.Entry.{Entry}
use Rattle.run_journal.specs.declared.entry.Entry.TheVariants.{Arrive, Dequeue}
use Rattle.run_journal.specs.declared.limits.TheConstants.{MAX_ARRIVALS}
use Rattle.run_journal.specs.declared.pace.Pace.{Pace}
use Rattle.run_journal.specs.declared.tally.Tally.{Tally}
use Rattle.run_journal.specs.Pace.{pace_of}
use Rattle.run_journal.specs.Pacer.{PacerState, new_pacer}
use Rattle.run_journal.specs.Schedule.{Schedule, after_entry, schedule_from, arrivals_of}
use Rattle.run_journal.specs.PortRun.{RunState, started, IsSteady, IsSound, HasDequeued, after_entry_of}
use Rattle.run_journal.proofs.Entries.{schedule_from-push, arrivals_of-dequeue, dequeues_in-dequeue, arrivals_of-arrive, dequeues_in-arrive}
use Rattle.run_journal.proofs.Placed.{place-same}
use Rattle.run_journal.proofs.Steady.{steady-new, steady-dequeued, steady-joined, steady-turned_away}

-- what a run keeps beside the port at its start
pub record Run (T : Type 0) : Type 0 where
  pub pace : Pace
  pub port : Port T
  pub pacer : PacerState
  pub journal : List Entry
  pub tally : Tally

pub same_run : {T : Type 0} (a b : Run T) → a.pace ≡ b.pace → a.port ≡ b.port → a.pacer ≡ b.pacer → a.journal ≡ b.journal → a.tally ≡ b.tally → a ≡ b
same_run a b pace port pacer journal tally =
    ap (λ x. record a { pace = x }) pace ∙ ap (λ x. record a { pace = b.pace; port = x }) port ∙ ap (λ x. record a { pace = b.pace; port = b.port; pacer = x }) pacer
    ∙ ap (λ x. record b { journal = x; tally = a.tally }) journal ∙ ap (λ x. record b { tally = x }) tally

-- what a contract sees of a run
abbrev pub seen_as : {T : Type 0} → Pace → Port Pkt → List Entry → PacerState → Port T → RunState T
seen_as pace start journal pacer port = record { pace = pace; start = start; journal = journal; pacer = pacer; port = port }

abbrev zeros : Tally
zeros = record { arrived = 0; dropped = 0; sent = 0; dequeues = 0 }

module _ {T : Type 0} (packet : T → Pkt) where
  abbrev pub Sound : Port Pkt → Run T → Type 0
  Sound start r = IsSound packet start r.pace r.port r.pacer r.journal r.tally

  -- a run at its start
  module _ (profile : Plan) (plan : PortPlan) where
    abbrev new_run : Run T
    new_run = record { pace = pace_of plan; port = start_at profile plan; pacer = new_pacer plan.quantum; journal = []; tally = zeros }

    fresh : IsPort profile.subport_kinds profile.pipe_kinds plan → HasAllSizes plan → StartLaws packet profile plan → StartLaws itself profile plan → Sound (started profile plan) new_run
    unfolding started schedule_from
    fresh limits sizes seen laws = record {
      none = laws.none;
      start_within = laws.within limits sizes;
      placed = All-nil (λ p. IsTrue (has_place p (start_at profile plan)));
      steady = steady-new (start_at profile plan) laws.none (laws.within limits sizes) limits.overhead limits.mtu.1 refl;
      port_is = seen.seen;
      went_is = refl;
      quantum_is = refl;
      burst = limits.burst.1;
      tally_is = record { arrived = refl; dropped = refl; sent = refl; dequeues = refl };
      few = omega arith;
    }

    pub Sound-new : (r : Run T) → IsPort profile.subport_kinds profile.pipe_kinds plan → HasAllSizes plan → StartLaws packet profile plan → StartLaws itself profile plan → r ≡ new_run → Sound (started profile plan) r
    Sound-new r limits sizes seen laws is = subst (Sound (started profile plan)) (sym is) (fresh limits sizes seen laws)

  module _ (start : Port Pkt) (r : Run T) where
    abbrev IsPlaced : Pkt → Type 0
    IsPlaced p = IsTrue (has_place p start)

    abbrev pub before : Schedule
    before = schedule_from start r.journal

    pub sends-few : Sound start r → length before.sends ≤ MAX_ARRIVALS
    sends-few sound =
        let total = sound.steady.account in
        let few = sound.few in
        let counted = sound.tally_is.arrived in
        omega (arith, total, few, counted)

    pub dropped-few : Sound start r → r.tally.dropped ≤ MAX_ARRIVALS
    dropped-few sound =
        let total = sound.steady.account in
        let few = sound.few in
        let counted = sound.tally_is.arrived in
        let dropped = sound.tally_is.dropped in
        omega (arith, total, few, counted, dropped)

    pub time-fits : Sound start r → r.port.time ≤ 2 ^ 62
    time-fits sound =
        let few = sends-few sound in
        let time = sound.steady.time in
        let same : r.port.time ≡ before.port.time = ap (λ (s : Port Pkt). s.time) sound.port_is in
        omega (arith, few, time, same)

    pub queued-same : Sound start r → PacketsDecide packet r.port → queued r.port ≡ queued before.port
    queued-same sound decide = sym (length-map (left_of r.port) packet) ∙ ap length decide.left ∙ ap queued sound.port_is

    pub place-is : Sound start r → PacketsDecide packet r.port → (p : Pkt) → has_place p r.port ≡ has_place p start
    place-is sound decide p = decide.place p ∙ ap (has_place p) sound.port_is ∙ place-same p before.port start sound.steady.setting

    -- a dequeue at a moment
    module _ (now : ℕ) where
      abbrev journal_after : List Entry
      journal_after = r.journal ++ Dequeue now r.pace.burst ∷ []

      abbrev made : Course T
      made = dequeue_port packet now r.pace.burst r.port

      abbrev made_there : Course Pkt
      made_there = dequeue_port itself now r.pace.burst before.port

      step : schedule_from start journal_after ≡ after_entry before (Dequeue now r.pace.burst)
      step = schedule_from-push start r.journal (Dequeue now r.pace.burst)

      -- the sends, in the words of the schedule
      sends-made : Sound start r → PacketsDecide packet r.port → map (seen_send packet) made.sends ≡ made_there.sends
      sends-made sound decide = ap (λ (c : Course Pkt). c.sends) (decide.dequeue now r.pace.burst) ∙ ap (λ s. (dequeue_port itself now r.pace.burst s).sends) sound.port_is

      port-made : Sound start r → PacketsDecide packet r.port → seen_port packet made.port ≡ made_there.port
      port-made sound decide = ap (λ (c : Course Pkt). c.port) (decide.dequeue now r.pace.burst) ∙ ap (λ s. (dequeue_port itself now r.pace.burst s).port) sound.port_is

      count-made : Sound start r → PacketsDecide packet r.port → length made_there.sends ≡ length made.sends
      count-made sound decide = ap length (sym (sends-made sound decide)) ∙ length-map made.sends (seen_send packet)

      schedule-sends : Sound start r → PacketsDecide packet r.port → (schedule_from start journal_after).sends ≡ before.sends ++ map (seen_send packet) made.sends
      schedule-sends sound decide = ap (λ (s : Schedule). s.sends) step ∙ ap (λ ds. before.sends ++ ds) (sym (sends-made sound decide))

      schedule-went : Sound start r → PacketsDecide packet r.port → (schedule_from start journal_after).went ≡ nat_lt 0 (length made.sends)
      schedule-went sound decide = ap (λ (s : Schedule). s.went) step ∙ ap (nat_lt 0) (count-made sound decide)

      sent-after : Sound start r → PacketsDecide packet r.port → length (schedule_from start journal_after).sends ≡ length before.sends + length made.sends
      sent-after sound decide =
          ap length (schedule-sends sound decide) ∙ length-append before.sends (map (seen_send packet) made.sends)
          ∙ ap (λ n. length before.sends + n) (length-map made.sends (seen_send packet))

      -- the run after it
      pub record Dequeued (to : Run T) (sent : ℕ) : Type 0 where
        pub pace : to.pace ≡ r.pace
        pub port : to.port ≡ made.port
        pub sent_is : sent ≡ length made.sends
        pub pacer : to.pacer ≡ record r.pacer { went = nat_lt 0 sent }
        pub journal : to.journal ≡ journal_after
        pub tally : to.tally ≡ record r.tally { sent = r.tally.sent + sent; dequeues = r.tally.dequeues + 1 }

      abbrev dequeued : ℕ → Run T
      dequeued sent = record {
        pace = r.pace;
        port = made.port;
        pacer = record r.pacer { went = nat_lt 0 sent };
        journal = journal_after;
        tally = record r.tally { sent = r.tally.sent + sent; dequeues = r.tally.dequeues + 1 };
      }

      dequeued-is : (to : Run T) (sent : ℕ) → Dequeued to sent → to ≡ dequeued sent
      dequeued-is to sent d = same_run to (dequeued sent) d.pace d.port d.pacer d.journal d.tally

      sound-dequeued : (sent : ℕ) → sent ≡ length made.sends → Sound start r → PacketsDecide packet r.port → DequeueServes itself now r.pace.burst before.port → DequeueKeeps itself now r.pace.burst before.port → now ≤ 2 ^ 57 → Sound start (dequeued sent)
      sound-dequeued sent count sound decide serves keeps in_time =
          let arrivals : length (arrivals_of journal_after) ≡ length (arrivals_of r.journal) = ap length (arrivals_of-dequeue r.journal now r.pace.burst) in
          let steady = steady-dequeued start (length (arrivals_of r.journal)) before now r.pace.burst sound.steady serves keeps in_time in
          record {
            none = sound.none;
            start_within = sound.start_within;
            placed = subst (All IsPlaced) (sym (arrivals_of-dequeue r.journal now r.pace.burst)) sound.placed;
            steady = subst (λ (n : ℕ). IsSteady start n (schedule_from start journal_after)) (sym arrivals)
                (subst (λ (s : Schedule). IsSteady start (length (arrivals_of r.journal)) s) (sym step) steady);
            port_is = port-made sound decide ∙ sym (ap (λ (s : Schedule). s.port) step);
            went_is = ap (nat_lt 0) count ∙ sym (schedule-went sound decide);
            quantum_is = sound.quantum_is;
            burst = sound.burst;
            tally_is = record {
              arrived = sound.tally_is.arrived ∙ sym arrivals;
              dropped = sound.tally_is.dropped ∙ sym (ap (λ (s : Schedule). length s.drops) step);
              sent = omega (arith, sent-after sound decide, count, sound.tally_is.sent);
              dequeues = ap (λ n. n + 1) sound.tally_is.dequeues ∙ sym (dequeues_in-dequeue r.journal now r.pace.burst);
            };
            few = sound.few;
          }

      pub Sound-dequeued : (to : Run T) (sent : ℕ) → Dequeued to sent → Sound start r → PacketsDecide packet r.port → DequeueServes itself now r.pace.burst before.port → DequeueKeeps itself now r.pace.burst before.port → now ≤ 2 ^ 57 → Sound start to
      Sound-dequeued to sent d sound decide serves keeps in_time =
          subst (Sound start) (sym (dequeued-is to sent d)) (sound-dequeued sent d.sent_is sound decide serves keeps in_time)

      abbrev seen_run : Run T → RunState T
      seen_run q = seen_as q.pace start q.journal q.pacer q.port

      -- what a contract sees of the run then
      pub HasDequeued-made : (to : Run T) (sent : ℕ) (out : List (Departure T)) → Dequeued to sent → Sound start r → PacketsDecide packet r.port → out ≡ made.sends → HasDequeued packet now (seen_run r) (seen_run to) out
      HasDequeued-made to sent out d sound decide out_is =
          let went : nat_lt 0 sent ≡ (schedule_from start journal_after).went = ap (nat_lt 0) d.sent_is ∙ sym (schedule-went sound decide) in
          let Has : Run T → Type 0 = λ q. HasDequeued packet now (seen_run r) (seen_run q) out in
          subst Has (sym (dequeued-is to sent d)) (record {
            state = ap (λ (b : Bool). record (seen_run (dequeued sent)) { pacer = record r.pacer { went = b } }) went;
            port = refl;
            made = out_is;
            sends = schedule-sends sound decide ∙ ap (λ ds. before.sends ++ map (seen_send packet) ds) (sym out_is);
          })

    -- an arrival
    module _ (t : T) where
      abbrev arrivals_after : List Entry
      arrivals_after = r.journal ++ Arrive (packet t) ∷ []

      arrive-step : schedule_from start arrivals_after ≡ after_entry before (Arrive (packet t))
      arrive-step = schedule_from-push start r.journal (Arrive (packet t))

      placed-after : Sound start r → IsPlaced (packet t) → All IsPlaced (arrivals_of arrivals_after)
      placed-after sound placed =
          subst (All IsPlaced) (sym (arrivals_of-arrive r.journal (packet t))) (All-push IsPlaced (arrivals_of r.journal) (packet t) sound.placed placed)

      arrive-count : length (arrivals_of arrivals_after) ≡ length (arrivals_of r.journal) + 1
      arrive-count = ap length (arrivals_of-arrive r.journal (packet t)) ∙ length-append (arrivals_of r.journal) (packet t ∷ [])

      -- the place is there, and the queue is full or not, in the schedule and in the code
      pub place-there : Sound start r → PacketsDecide packet r.port → IsTrue (has_place (packet t) start) → IsTrue (has_place (packet t) r.port)
      place-there sound decide placed =
          subst IsTrue (sym (place-is sound decide (packet t))) placed

      full-there : Sound start r → PacketsDecide packet r.port → is_full (packet t) r.port ≡ is_full (packet t) before.port
      full-there sound decide = decide.full (packet t) ∙ ap (is_full (packet t)) sound.port_is

      abbrev joined : Run T
      joined = record r { port = after_arrival packet t r.port; journal = arrivals_after; tally = record r.tally { arrived = r.tally.arrived + 1 } }

      sound-joined : Sound start r → PacketsDecide packet r.port → ArrivalJoins itself (packet t) before.port → ArrivalKeeps itself (packet t) before.port → IsTrue (has_place (packet t) start) → r.tally.arrived < MAX_ARRIVALS → is_full (packet t) r.port ≡ false → Sound start joined
      sound-joined sound decide joins keeps placed few open_there =
          let n = length (arrivals_of r.journal) in
          let free : is_full (packet t) before.port ≡ false = sym (full-there sound decide) ∙ open_there in
          let step : schedule_from start arrivals_after ≡ record before { port = after_arrival itself (packet t) before.port } = arrive-step ∙ ap (λ (b : Bool). let s : Schedule = cond b (record before { drops = before.drops ++ packet t ∷ [] }) (record before { port = after_arrival itself (packet t) before.port }) in s) free in
          let steady = steady-joined start n before (packet t) sound.steady joins keeps placed free in
          record {
            none = sound.none;
            start_within = sound.start_within;
            placed = placed-after sound placed;
            steady = subst (λ (m : ℕ). IsSteady start m (schedule_from start arrivals_after)) (sym arrive-count) (subst (λ (s : Schedule). IsSteady start (n + 1) s) (sym step) steady);
            port_is = decide.arrival t ∙ ap (after_arrival itself (packet t)) sound.port_is ∙ sym (ap (λ (s : Schedule). s.port) step);
            went_is = sound.went_is ∙ sym (ap (λ (s : Schedule). s.went) step);
            quantum_is = sound.quantum_is;
            burst = sound.burst;
            tally_is = record {
              arrived = ap (λ n. n + 1) sound.tally_is.arrived ∙ sym arrive-count;
              dropped = sound.tally_is.dropped ∙ sym (ap (λ (s : Schedule). length s.drops) step);
              sent = sound.tally_is.sent ∙ sym (ap (λ (s : Schedule). length s.sends) step);
              dequeues = sound.tally_is.dequeues ∙ sym (dequeues_in-arrive r.journal (packet t));
            };
            few = omega (arith, few);
          }

      abbrev turned_away : Run T
      turned_away = record r { journal = arrivals_after; tally = record r.tally { arrived = r.tally.arrived + 1; dropped = r.tally.dropped + 1 } }

      sound-turned_away : Sound start r → PacketsDecide packet r.port → IsTrue (has_place (packet t) start) → r.tally.arrived < MAX_ARRIVALS → is_full (packet t) r.port ≡ true → Sound start turned_away
      sound-turned_away sound decide placed few shut =
          let n = length (arrivals_of r.journal) in
          let full : is_full (packet t) before.port ≡ true = sym (full-there sound decide) ∙ shut in
          let step : schedule_from start arrivals_after ≡ record before { drops = before.drops ++ packet t ∷ [] } = arrive-step ∙ ap (λ (b : Bool). let s : Schedule = cond b (record before { drops = before.drops ++ packet t ∷ [] }) (record before { port = after_arrival itself (packet t) before.port }) in s) full in
          let dropped : length (schedule_from start arrivals_after).drops ≡ length before.drops + 1 = ap (λ (s : Schedule). length s.drops) step ∙ length-append before.drops (packet t ∷ []) in
          let steady = steady-turned_away start n before (packet t) sound.steady in
          record {
            none = sound.none;
            start_within = sound.start_within;
            placed = placed-after sound placed;
            steady = subst (λ (m : ℕ). IsSteady start m (schedule_from start arrivals_after)) (sym arrive-count) (subst (λ (s : Schedule). IsSteady start (n + 1) s) (sym step) steady);
            port_is = sound.port_is ∙ sym (ap (λ (s : Schedule). s.port) step);
            went_is = sound.went_is ∙ sym (ap (λ (s : Schedule). s.went) step);
            quantum_is = sound.quantum_is;
            burst = sound.burst;
            tally_is = record {
              arrived = ap (λ n. n + 1) sound.tally_is.arrived ∙ sym arrive-count;
              dropped = ap (λ n. n + 1) sound.tally_is.dropped ∙ sym dropped;
              sent = sound.tally_is.sent ∙ sym (ap (λ (s : Schedule). length s.sends) step);
              dequeues = sound.tally_is.dequeues ∙ sym (dequeues_in-arrive r.journal (packet t));
            };
            few = omega (arith, few);
          }

      -- the run after it
      pub record Joined (to : Run T) : Type 0 where
        pub pace : to.pace ≡ r.pace
        pub port : to.port ≡ after_arrival packet t r.port
        pub pacer : to.pacer ≡ r.pacer
        pub journal : to.journal ≡ arrivals_after
        pub tally : to.tally ≡ record r.tally { arrived = r.tally.arrived + 1 }

      pub record TurnedAway (to : Run T) : Type 0 where
        pub pace : to.pace ≡ r.pace
        pub port : to.port ≡ r.port
        pub pacer : to.pacer ≡ r.pacer
        pub journal : to.journal ≡ arrivals_after
        pub tally : to.tally ≡ record r.tally { arrived = r.tally.arrived + 1; dropped = r.tally.dropped + 1 }

      joined-is : (to : Run T) → Joined to → to ≡ joined
      joined-is to j = same_run to joined j.pace j.port j.pacer j.journal j.tally

      turned_away-is : (to : Run T) → TurnedAway to → to ≡ turned_away
      turned_away-is to j = same_run to turned_away j.pace j.port j.pacer j.journal j.tally

      pub Sound-joined : (to : Run T) → Joined to → Sound start r → PacketsDecide packet r.port → ArrivalJoins itself (packet t) before.port → ArrivalKeeps itself (packet t) before.port → IsTrue (has_place (packet t) start) → r.tally.arrived < MAX_ARRIVALS → is_full (packet t) r.port ≡ false → Sound start to
      Sound-joined to is sound decide joins keeps placed few open_there =
          subst (Sound start) (sym (joined-is to is)) (sound-joined sound decide joins keeps placed few open_there)

      pub Sound-turned_away : (to : Run T) → TurnedAway to → Sound start r → PacketsDecide packet r.port → IsTrue (has_place (packet t) start) → r.tally.arrived < MAX_ARRIVALS → is_full (packet t) r.port ≡ true → Sound start to
      Sound-turned_away to is sound decide placed few shut = subst (Sound start) (sym (turned_away-is to is)) (sound-turned_away sound decide placed few shut)

-- what a contract sees of a run after an arrival
pub arrived-view : {T : Type 0} (start : Port Pkt) (pace : Pace) (journal pushed : List Entry) (pacer : PacerState) (entry : Entry) (port : Port T) → pushed ≡ journal ++ entry ∷ [] → pacer.went ≡ (schedule_from start pushed).went
    → seen_as pace start pushed pacer port ≡ after_entry_of (seen_as pace start journal pacer port) entry port
arrived-view {T} start pace journal pushed pacer entry port is went =
    let seen : List Entry → Bool → RunState T = λ js b. seen_as pace start js (record pacer { went = b }) port in
    ap (seen pushed) went ∙ ap (λ js. seen js (schedule_from start js).went) is
