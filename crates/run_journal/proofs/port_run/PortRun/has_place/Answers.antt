use Rattle.std.proofs.Common.{ap, ◌∙◌}
use Rattle.port_sched.specs.Port.{has_place}
use Rattle.run_journal.specs.PortRun.{RunState}
use Rattle.run_journal.proofs.Runs.{place-is}
use Rattle.run_journal.proofs.port_run.PortRun.has_place.Goals as goal

pub returns : goal.returns
returns g c =
    let i = c.self.inside in
    c.has_place.ensures
    ∙ place-is g.T.Parcel.packet _ (record { pace = i.pace; port = i.sched; pacer = i.pacer; journal = i.journal.items; tally = i.tally }) c.self.invariant (c.packets_decide.ensures i.sched) c.args.packet.now
    ∙ ap (λ (r : RunState g.row.T.Denot). has_place c.args.packet.now r.start) c.self.view_is
