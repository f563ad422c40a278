use Rattle.std.proofs.Common.{length, ap, ◌∙◌, sym}
use Rattle.pkt_slots.specs.Mbuf.{IsBodyIn}
use Rattle.port_egress.proofs.Entries.{sends-joined, sends-tried}
use Rattle.port_egress.proofs.Egresses.{waiting-arrived}
use Rattle.port_egress.proofs.egress.Egress.join.Goals as goal

pub invariant_of-self-clause-empty : goal.invariant_of-self-clause-empty
invariant_of-self-clause-empty g c = c.args.self.now.empty

pub invariant_of-self-clause-counted : goal.invariant_of-self-clause-counted
invariant_of-self-clause-counted g c =
    let tried = c.arrive.ensures in
    c.args.self.now.counted
    ∙ ap length (sym (sends-tried c.arrive.result c.args.self.now.port c.arrive.new.self c.args.mbuf.pkt _ tried.state tried.refused))

pub returns-clause-carries : goal.returns-clause-carries
returns-clause-carries g c = λ body is carries.
    let joined = c.in_ok-away.ensures in
    let old = c.args.self.now.port in
    record {
      waiting = waiting-arrived (IsBodyIn body) old.port c.arrive.new.self.port c.args.mbuf c.in_ok-away.away
          joined.joined joined.turned_away (c.arrivals_join.ensures.joins c.args.mbuf old.port) is carries.waiting;
      output = rw (sends-joined old c.arrive.new.self c.args.mbuf.pkt _ joined.state) carries.output;
    }
