use Rattle.std.proofs.Common.{◌≡◌, ◌<◌, ◌+◌, IsTrue, ◌++◌, [], ◌∷◌, length, refl, sym, ap, ◌∙◌, subst, arith}
use Rattle.std.proofs.lemmas.Bool.{false≢true}
use Rattle.qos_base.specs.declared.packet.Pkt.{Pkt}
use Rattle.port_sched.specs.Port.{Port, has_place, is_full}
use Rattle.run_journal.specs.declared.entry.Entry.TheVariants.{Arrive}
use Rattle.run_journal.specs.declared.limits.TheConstants.{MAX_ARRIVALS}
use Rattle.run_journal.specs.Schedule.{arrivals_of}
use Rattle.run_journal.specs.PortRun.{RunState, started}
use Rattle.run_journal.proofs.Choices.{not_true}
use Rattle.run_journal.proofs.Runs.{Run, Joined, TurnedAway, before, place-there, dropped-few, Sound-joined, Sound-turned_away, arrived-view}
use Rattle.run_journal.proofs.port_run.PortRun.arrive.Goals as goal

pub arrive-requires : goal.arrive-requires
arrive-requires g c =
    let i = c.self.inside in
    let placed : IsTrue (has_place (g.T.Parcel.packet c.args.parcel) (started i.profile.now i.plan.now)) =
    subst (λ (s : Port Pkt). IsTrue (has_place (g.T.Parcel.packet c.args.parcel) s)) (sym (ap (λ (r : RunState g.row.T.Denot). r.start) c.self.view_is)) c.requires.place in
    place-there g.T.Parcel.packet (started i.profile.now i.plan.now) (record { pace = i.pace; port = i.sched; pacer = i.pacer; journal = i.journal.items; tally = i.tally }) c.args.parcel c.self.invariant (c.packets_decide.ensures i.sched) placed

pushed : (g : _) (c : goal.In-Ok g) → c.push_reserved.new.self.items ≡ c.self.inside.journal.items ++ Arrive (g.T.Parcel.packet c.args.parcel) ∷ []
pushed g c =
    c.push_reserved.ensures.items ∙ ap (λ js. js ++ Arrive c.pkt.result ∷ []) c.in_ok-reserve.ensures.items
    ∙ ap (λ p. c.self.inside.journal.items ++ Arrive p ∷ []) c.pkt.ensures

pub invariant_of-self-in-Ok : goal.invariant_of-self-in-Ok
invariant_of-self-in-Ok g c =
    let i = c.self.inside in
    let start = started i.profile.now i.plan.now in
    let packet = g.T.Parcel.packet c.args.parcel in
    let old : Run g.row.T.Denot = record { pace = i.pace; port = i.sched; pacer = i.pacer; journal = i.journal.items; tally = i.tally } in
    let new : Run g.row.T.Denot = record { pace = i.pace; port = c.arrive.new.self; pacer = i.pacer; journal = c.push_reserved.new.self.items; tally = record i.tally { arrived = i.tally.arrived + 1 } } in
    let few : length (arrivals_of i.journal.items) < MAX_ARRIVALS = rw (← ap (λ (r : RunState g.row.T.Denot). length (arrivals_of r.journal)) c.self.view_is) at c.requires.few in
    let placed : IsTrue (has_place packet start) = subst (λ (s : Port Pkt). IsTrue (has_place packet s)) (sym (ap (λ (r : RunState g.row.T.Denot). r.start) c.self.view_is)) c.requires.place in
    let there = (before g.T.Parcel.packet start old).port in
    let joined : Joined g.T.Parcel.packet start old c.args.parcel new = record { pace = refl; port = c.in-Ok.ensures.joined; pacer = refl; journal = pushed g c; tally = refl } in
    Sound-joined g.T.Parcel.packet start old c.args.parcel new joined c.self.invariant (c.packets_decide.ensures i.sched) (c.arrivals_join.ensures.joins packet there) (c.arrivals_join.ensures.keeps packet there) placed
    (omega (arith, few, c.self.invariant.tally_is.arrived)) (not_true (is_full packet i.sched) (λ full. false≢true (c.in-Ok.ensures.full.1 full)))

pub overflow_add-self-in-Err : goal.overflow_add-self-in-Err
overflow_add-self-in-Err g c =
    let i = c.self.inside in
    omega (arith, dropped-few g.T.Parcel.packet _ (record { pace = i.pace; port = i.sched; pacer = i.pacer; journal = i.journal.items; tally = i.tally }) c.self.invariant)

pushed_away : (g : _) (c : goal.After-self-in-Err-1 g) → c.push_reserved.new.self.items ≡ c.self.inside.journal.items ++ Arrive (g.T.Parcel.packet c.args.parcel) ∷ []
pushed_away g c =
    c.push_reserved.ensures.items ∙ ap (λ js. js ++ Arrive c.pkt.result ∷ []) c.in_ok-reserve.ensures.items
    ∙ ap (λ p. c.self.inside.journal.items ++ Arrive p ∷ []) c.pkt.ensures

pub invariant_of-self-in-Err : goal.invariant_of-self-in-Err
invariant_of-self-in-Err g c =
    let i = c.self.inside in
    let start = started i.profile.now i.plan.now in
    let old : Run g.row.T.Denot = record { pace = i.pace; port = i.sched; pacer = i.pacer; journal = i.journal.items; tally = i.tally } in
    let new : Run g.row.T.Denot =
    record { pace = i.pace; port = c.arrive.new.self; pacer = i.pacer; journal = c.push_reserved.new.self.items; tally = record i.tally { arrived = i.tally.arrived + 1; dropped = i.tally.dropped + 1 } } in
    let few : length (arrivals_of i.journal.items) < MAX_ARRIVALS = rw (← ap (λ (r : RunState g.row.T.Denot). length (arrivals_of r.journal)) c.self.view_is) at c.requires.few in
    let placed : IsTrue (has_place (g.T.Parcel.packet c.args.parcel) start) = subst (λ (s : Port Pkt). IsTrue (has_place (g.T.Parcel.packet c.args.parcel) s)) (sym (ap (λ (r : RunState g.row.T.Denot). r.start) c.self.view_is)) c.requires.place in
    let away : TurnedAway g.T.Parcel.packet start old c.args.parcel new = record { pace = refl; port = c.in-Err.ensures.refused.1; pacer = refl; journal = pushed_away g c; tally = refl } in
    Sound-turned_away g.T.Parcel.packet start old c.args.parcel new away c.self.invariant (c.packets_decide.ensures i.sched) placed (omega (arith, few, c.self.invariant.tally_is.arrived)) (c.in-Err.ensures.full.0 refl)

pub returns-in-Ok-clause-state : goal.returns-in-Ok-clause-state
returns-in-Ok-clause-state g c =
    let i = c.self.inside in
    rw (← c.self.view_is)
    (arrived-view (started i.profile.now i.plan.now) i.pace i.journal.items _ i.pacer (Arrive (g.T.Parcel.packet c.args.parcel)) c.arrive.new.self (pushed g c) (invariant_of-self-in-Ok g c).went_is)

pub returns-in-Err-clause-state : goal.returns-in-Err-clause-state
returns-in-Err-clause-state g c =
    let i = c.self.inside in
    rw (← c.self.view_is)
    (arrived-view (started i.profile.now i.plan.now) i.pace i.journal.items _ i.pacer (Arrive (g.T.Parcel.packet c.args.parcel)) c.arrive.new.self (pushed_away g c) (invariant_of-self-in-Err g c).went_is)
