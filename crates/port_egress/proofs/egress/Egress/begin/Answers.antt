use Rattle.pkt_slots.specs.Mbuf.{IsBodyIn}
use Rattle.port_egress.proofs.Egresses.{Carries-begun}
use Rattle.port_egress.proofs.egress.Egress.begin.Goals as goal

pub returns-clause-carries : goal.returns-clause-carries
returns-clause-carries g c = λ empty s unbegun body.
    let none = (c.starts_within.ensures s.profile s.plan).none in
    let began = Carries-begun (IsBodyIn body) s c.args.self.now.port unbegun.run none in
    record { waiting = began.0; output = rw began.1 (c.begin.ensures.written empty body) }
