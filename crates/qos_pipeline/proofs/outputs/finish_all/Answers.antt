use Rattle.std.proofs.Common.{◌≡◌, ◌∙◌, ◌∷◌, length, sym, ap, arith}
use Rattle.std.specs.Vec.Iter.{into_iter_items, into_iter_len}
use Rattle.qos_pipeline.proofs.Places.{all-came, part-came}
use Rattle.qos_pipeline.proofs.Ended.{ended-more, pushed, seen-more}
use Rattle.qos_pipeline.proofs.outputs.finish_all.Goals as goal

pub loop-egress-preserved : goal.loop-egress-preserved
loop-egress-preserved g c =
    let was = c.loop-egress.invariant in
    let es = c.loop-egress.yielded in
    let e = c.in-Some.egress in
    let done = c.finish-finished.result in
    let is = c.finish-finished.ensures in
    let steps : into_iter_items c.loop-egress.egress-iterator ≡ e ∷ into_iter_items c.next.new.self = c.in-Some.ensures.steps.0 in
    record {
      parts = part-came es e (into_iter_items c.next.new.self) (into_iter_items c.loop-egress.egress-iterator) c.args.egresses.items was.parts steps;
      left = let gone = c.in-Some.ensures.steps.1 in
          let short = ap length steps in
          omega (arith, was.left);
      ended = rw c.push_reserved.ensures.items (ended-more es c.loop-egress.ends.items e done.end was.ended
          (record { journal = is.journal; counts = is.counts; account = is.account; sent = is.sent }));
      journals = rw c.push_reserved.ensures.items (seen-more (λ end. end.journal) (λ e. e.port.journal) c.loop-egress.ends.items es done.end e was.journals is.journal);
      sinks = rw c.push_reserved-in-loop-egress.ensures.items (pushed (λ e. e.sender.sink) c.loop-egress.sinks.items es done.sink e was.sinks is.sink);
      faults = rw c.push_reserved-in-loop-egress-2.ensures.items (pushed (λ e. e.sender.fault) c.loop-egress.faults.items es done.fault e was.faults is.fault);
      end_room = c.push_reserved.ensures.capacity ∙ was.end_room;
      sink_room = c.push_reserved-in-loop-egress.ensures.capacity ∙ was.sink_room;
      fault_room = c.push_reserved-in-loop-egress-2.ensures.capacity ∙ was.fault_room;
    }

pub returns-clause-ended : goal.returns-clause-ended
returns-clause-ended g c =
    let was = c.loop-egress.invariant in
    let none : into_iter_len c.loop-egress.egress-iterator ≡ 0 = c.in-None.ensures.steps.0 in
    rw (← all-came c.loop-egress.yielded (into_iter_items c.loop-egress.egress-iterator) c.args.egresses.items was.parts (sym was.left ∙ none)) was.ended
