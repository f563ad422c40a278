use Rattle.qos_pipeline.proofs.Closed.{endings-of, fine-sure, shut-of}
use Rattle.qos_pipeline.proofs.outputs.end_all.Goals as goal

pub returns-in_err-close_all-clause-shut : goal.returns-in_err-close_all-clause-shut
returns-in_err-close_all-clause-shut g c tells tell =
    shut-of c.args.egresses.items g.H.Shelf c.args.shelf.now c.close_all.new.shelf
    ((rw c.finish_all.ensures.sinks at c.close_all.ensures.shut) tells tell)

pub returns-in_err-close_all-clause-others : goal.returns-in_err-close_all-clause-others
returns-in_err-close_all-clause-others g c = rw c.finish_all.ensures.sinks at c.close_all.ensures.others

pub returns-in_err-settle_all-clause-shut : goal.returns-in_err-settle_all-clause-shut
returns-in_err-settle_all-clause-shut g c tells tell =
    shut-of c.args.egresses.items g.H.Shelf c.args.shelf.now c.close_all.new.shelf
    ((rw c.finish_all.ensures.sinks at c.close_all.ensures.shut) tells tell)

pub returns-in_err-settle_all-clause-others : goal.returns-in_err-settle_all-clause-others
returns-in_err-settle_all-clause-others g c = rw c.finish_all.ensures.sinks at c.close_all.ensures.others

pub returns-clause-shut : goal.returns-clause-shut
returns-clause-shut g c tells tell =
    shut-of c.args.egresses.items g.H.Shelf c.args.shelf.now c.close_all.new.shelf
    ((rw c.finish_all.ensures.sinks at c.close_all.ensures.shut) tells tell)

pub returns-clause-endings : goal.returns-clause-endings
returns-clause-endings g c tells tell =
    endings-of c.args.egresses.items c.close_all.new.failed.items (rw c.finish_all.ensures.sinks at c.close_all.ensures.count)
    c.settle_all.new.write_fault.items
    (rw (c.deref.ensures.value, c.finish_all.ensures.faults, c.deref-2.ensures.value) at c.in_ok-settle_all.ensures.settled)
    g.H.Shelf c.args.shelf.now c.close_all.new.shelf
    ((rw c.finish_all.ensures.sinks at c.in_ok-close_all.ensures.told) tells tell)

pub returns-clause-sure : goal.returns-clause-sure
returns-clause-sure g c =
    fine-sure c.args.egresses.items c.close_all.new.failed.items (rw c.finish_all.ensures.sinks at c.close_all.ensures.count)
    c.settle_all.new.write_fault.items
    (rw (c.deref.ensures.value, c.finish_all.ensures.faults, c.deref-2.ensures.value) at c.in_ok-settle_all.ensures.settled)
    (rw c.finish_all.ensures.sinks at c.close_all.ensures.sure)

pub returns-clause-others : goal.returns-clause-others
returns-clause-others g c = rw c.finish_all.ensures.sinks at c.close_all.ensures.others
