use Rattle.port_egress.proofs.Words.{ap, ◌≡◌}
use Rattle.port_egress.proofs.Senders.{begun}
use Rattle.port_egress.specs.declared.send.Sender.{Sender}
use Rattle.port_egress.proofs.send.Sender.begin.Goals as goal

pub returns-clause-written : goal.returns-clause-written
returns-clause-written g c = λ empty body.
    let told = rw c.in-Some.is at empty in
    let old = c.args.self.now in
    let none : old.sent ≡ 0 = ap (λ (s : Sender g.row.K.Denot). s.sent) c.requires in
    begun g.K.Sink body old.stamps old.sent old.unwritten none c.in-Some.sink c.put_header.new.out c.put_header.result _
    c.err-self.ensures.value told c.put_header.ensures.added c.put_header.ensures.refused
