use Rattle.qos_pipeline.proofs.Changed.{there-too}
use Rattle.qos_pipeline.proofs.Halted.{on_err, on_ok}
use Rattle.qos_pipeline.proofs.Runs.{goes-start, halted-turning, carries-turning, summed-drained, took-drained, carries-drained}
use Rattle.qos_pipeline.proofs.Runs.{senders-drained, ports-drained, ports-halted}
use Rattle.qos_pipeline.proofs.ports.run_ports.Goals as goal

pub take_all-requires-clause-goes : goal.take_all-requires-clause-goes
take_all-requires-clause-goes g c =
    goes-start c.requires.fresh c.requires.marking c.requires.begun c.requires.origin c.requires.reading

pub returns-in_err-take_all-clause-halted : goal.returns-in_err-take_all-clause-halted
returns-in_err-take_all-clause-halted g c =
    on_err c.from_residual.result (halted-turning c.requires.fresh c.requires.marking c.requires.begun c.in_err-take_all.ensures.halts)

pub returns-in_err-take_all-clause-carries : goal.returns-in_err-take_all-clause-carries
returns-in_err-take_all-clause-carries g c =
    carries-turning c.requires.fresh c.requires.marking c.requires.begun c.in_err-take_all.ensures.halts

pub drain_all-requires : goal.drain_all-requires
drain_all-requires g c = record {
  ready = λ n e is.
      let opened = c.in_ok-take_all.ensures.goes_on.goes.opened in
      let plan = there-too c.args.p.now.ports c.take_all.new.egresses.items n e opened.count is in
      (opened.each n plan.0 e plan.1 is).1;
}

pub returns-clause-drained : goal.returns-clause-drained
returns-clause-drained g c =
    ports-drained c.requires.fresh c.requires.marking c.requires.begun c.in_ok-take_all.ensures.goes_on c.drain_all.result c.drain_all.ensures

pub returns-clause-halted : goal.returns-clause-halted
returns-clause-halted g c =
    ports-halted c.requires.fresh c.requires.marking c.requires.begun c.marks_agree.ensures c.in_ok-take_all.ensures.goes_on c.drain_all.result c.drain_all.ensures

pub returns-clause-summed : goal.returns-clause-summed
returns-clause-summed g c =
    on_ok c.drain_all.result (summed-drained c.requires.fresh c.requires.marking c.requires.begun c.in_ok-take_all.ensures.goes_on c.drain_all.ensures)

pub returns-clause-took : goal.returns-clause-took
returns-clause-took g c =
    let taken = c.in_ok-take_all.ensures in
    on_ok c.drain_all.result
    (took-drained c.requires.fresh c.requires.marking c.requires.begun taken.goes_on c.drain_all.ensures taken.stopped)

pub returns-clause-carries : goal.returns-clause-carries
returns-clause-carries g c =
    carries-drained c.requires.fresh c.requires.marking c.requires.begun c.in_ok-take_all.ensures.goes_on c.drain_all.ensures

pub returns-clause-senders : goal.returns-clause-senders
returns-clause-senders g c =
    senders-drained c.requires.fresh c.requires.marking c.requires.begun c.in_ok-take_all.ensures.goes_on c.drain_all.ensures
