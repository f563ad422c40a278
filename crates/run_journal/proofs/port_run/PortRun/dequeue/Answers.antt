use Rattle.std.proofs.Common.{◌≡◌, ◌+◌, List, ◌++◌, [], ◌∷◌, refl, ap, ◌∙◌, subst, arith}
use Rattle.qos_base.specs.declared.packet.Departure.{Departure}
use Rattle.port_sched.specs.PortDequeue.{dequeue_port}
use Rattle.run_journal.specs.declared.entry.Entry.TheVariants.{Dequeue}
use Rattle.run_journal.specs.PortRun.{started}
use Rattle.run_journal.proofs.Entries.{dequeues_in-le}
use Rattle.run_journal.proofs.Runs.{Run, Dequeued, before, time-fits, sends-few, Sound-dequeued, HasDequeued-made}
use Rattle.run_journal.proofs.port_run.PortRun.dequeue.Goals as goal

pub serve-sent-requires-clause-time : goal.serve-sent-requires-clause-time
serve-sent-requires-clause-time g c =
    let i = c.self.inside in
    time-fits g.T.Parcel.packet _ (record { pace = i.pace; port = i.sched; pacer = i.pacer; journal = i.journal.items; tally = i.tally }) c.self.invariant

pub overflow_add-self : goal.overflow_add-self
overflow_add-self g c =
    let i = c.self.inside in
    let few = sends-few g.T.Parcel.packet _ (record { pace = i.pace; port = i.sched; pacer = i.pacer; journal = i.journal.items; tally = i.tally }) c.self.invariant in
    omega (arith, few, c.self.invariant.tally_is.sent)

pub overflow_add-self-2 : goal.overflow_add-self-2
overflow_add-self-2 g c =
    let journal = c.self.inside.journal in
    omega (arith, c.self.invariant.tally_is.dequeues, dequeues_in-le journal.items, journal.ok.0, journal.ok.1, journal.small)

pushed : (g : _) (c : goal.After-self-2-1 g) → c.push_reserved.new.self.items ≡ c.self.inside.journal.items ++ Dequeue c.args.now c.self.inside.pace.burst ∷ []
pushed g c = c.push_reserved.ensures.items ∙ ap (λ js. js ++ Dequeue c.args.now c.self.inside.pace.burst ∷ []) c.in_ok-reserve.ensures.items

abbrev from : (g : _) → goal.After-self-2-1 g → Run g.row.T.Denot
from g c = let i = c.self.inside in record { pace = i.pace; port = i.sched; pacer = i.pacer; journal = i.journal.items; tally = i.tally }

abbrev to : (g : _) → goal.After-self-2-1 g → Run g.row.T.Denot
to g c =
    let i = c.self.inside in
    record { pace = i.pace; port = c.serve-sent.new.sched; pacer = c.went.new.self; journal = c.push_reserved.new.self.items; tally = record i.tally { sent = i.tally.sent + c.from.result; dequeues = i.tally.dequeues + 1 } }

dequeued : (g : _) (c : goal.After-self-2-1 g) → Dequeued g.T.Parcel.packet (started c.self.inside.profile.now c.self.inside.plan.now) (from g c) c.args.now (to g c) c.serve-sent.result
dequeued g c = record {
  pace = refl;
  port = c.serve-sent.ensures.state;
  sent_is = c.serve-sent.ensures.count;
  pacer = c.went.ensures;
  journal = pushed g c;
  tally = let t = c.self.inside.tally in ap (λ n. record t { sent = t.sent + n; dequeues = t.dequeues + 1 }) c.from.ensures;
}

pub invariant_of-self-2 : goal.invariant_of-self-2
invariant_of-self-2 g c =
    let i = c.self.inside in
    let start = started i.profile.now i.plan.now in
    let port = (before g.T.Parcel.packet start (from g c)).port in
    Sound-dequeued g.T.Parcel.packet start (from g c) c.args.now (to g c) c.serve-sent.result (dequeued g c) c.self.invariant (c.packets_decide.ensures i.sched)
    (c.dequeues_serve.ensures c.args.now i.pace.burst port) (c.dequeues_keep_setting.ensures c.args.now i.pace.burst port) c.requires.now

pub returns-clause-dequeued : goal.returns-clause-dequeued
returns-clause-dequeued g c =
    let i = c.self.inside in
    let made = (dequeue_port g.T.Parcel.packet c.args.now i.pace.burst i.sched).sends in
    let IsOut : List (Departure g.row.T.Denot) → Type 0 = λ ds. c.serve-sent.new.out.items ≡ ds ++ made in
    let sends = subst IsOut c.requires.empty c.serve-sent.ensures.sends in
    rw (← c.self.view_is)
    (HasDequeued-made g.T.Parcel.packet (started i.profile.now i.plan.now) (from g c) c.args.now (to g c) c.serve-sent.result _ (dequeued g c) c.self.invariant (c.packets_decide.ensures i.sched) sends)

pub returns-clause-few : goal.returns-clause-few
returns-clause-few g c = sends-few g.T.Parcel.packet _ (to g c) (invariant_of-self-2 g c)
