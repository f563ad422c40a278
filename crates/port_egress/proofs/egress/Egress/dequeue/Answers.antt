use Rattle.pkt_slots.specs.Mbuf.{IsBodyIn}
use Rattle.run_journal.specs.PortRun.{schedule}
use Rattle.port_egress.proofs.Egresses.{waiting-dequeued, sent-dequeued, output-dequeued}
use Rattle.port_egress.proofs.egress.Egress.dequeue.Goals as goal

pub returns-clause-carries : goal.returns-clause-carries
returns-clause-carries g c = λ body carries.
    let before = c.args.self.now.port in
    let made = c.in_ok-dequeue.ensures.dequeued in
    let serves = c.dequeues_serve.ensures c.args.now before.pace.burst before.port in
    let sent = sent-dequeued (IsBodyIn body) _ _ _ _ made serves carries.waiting c.deref.result.now c.deref.ensures.value in
    record {
      waiting = waiting-dequeued (IsBodyIn body) _ _ _ _ made serves carries.waiting;
      output = output-dequeued g.K.Sink body _ _ _ _ c.deref.result.now _ c.deref.ensures.value made
          (c.send_all.ensures.written body (schedule before).sends sent carries.output);
    }
