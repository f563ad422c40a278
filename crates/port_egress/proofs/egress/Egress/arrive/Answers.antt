use Rattle.std.proofs.Common.{sym}
use Rattle.port_egress.proofs.Entries.{arrivals_of-arrive, arrivals_of-dequeue}
use Rattle.port_egress.proofs.Lives.{on_err, Begins-there, Begins-joined, course-alone, course-followed, StaysSender-same}
use Rattle.port_egress.proofs.Lives.{Kept, Kept-then, Kept-entered, Kept-same, Arriving, IsOpen-arrived, HasHalted-arrived}
use Rattle.port_egress.proofs.egress.Egress.arrive.Goals as goal

pub returns-in_err-advance-clause-halted : goal.returns-in_err-advance-clause-halted
returns-in_err-advance-clause-halted g c =
    let old = c.args.self.now in
    let there = c.advance.new.self in
    let refused = c.in_err-advance.ensures in
    let arriving : Arriving old c.arrival-at.result c.args.mbuf.pkt = record {
      exact = c.arrival-at.ensures.exact;
      laws = c.arrivals_go_by_steps.ensures old.port c.arrival-at.result c.args.mbuf.pkt;
      steps = c.advances_go_by_steps.ensures;
      opens = c.open_courses_go_on.ensures;
    } in
    let kept : Kept old there = record { pace = refused.pace; start = refused.start; stays = refused.stays } in
    on_err c.from_residual.result (HasHalted-arrived old _ _ arriving there kept (arriving.laws.begins there.port.journal refused.refused))

pub returns-in_err-join-clause-halted : goal.returns-in_err-join-clause-halted
returns-in_err-join-clause-halted g c =
    let old = c.args.self.now in
    let there = c.advance.new.self in
    let last = c.join.new.self in
    let advanced = c.in_ok-advance.ensures in
    let refused = c.in_err-join.ensures in
    let arriving : Arriving old c.arrival-at.result c.args.mbuf.pkt = record {
      exact = c.arrival-at.ensures.exact;
      laws = c.arrivals_go_by_steps.ensures old.port c.arrival-at.result c.args.mbuf.pkt;
      steps = c.advances_go_by_steps.ensures;
      opens = c.open_courses_go_on.ensures;
    } in
    let came : Kept old there = record { pace = advanced.pace; start = advanced.start; stays = advanced.stays } in
    let kept = Kept-then old there last came (Kept-same there last refused.refused (StaysSender-same there last refused.sender)) in
    on_err c.from_residual-in_err-join.result
    (HasHalted-arrived old _ _ arriving last kept (rw refused.refused (Begins-there old _ _ arriving there came advanced.course)))

pub returns-in_err-dequeue-clause-halted : goal.returns-in_err-dequeue-clause-halted
returns-in_err-dequeue-clause-halted g c =
    let old = c.args.self.now in
    let there = c.advance.new.self in
    let joined = c.join.new.self in
    let last = c.dequeue.new.self in
    let advanced = c.in_ok-advance.ensures in
    let entered = c.in_ok-join.ensures in
    let refused = c.in_err-dequeue.ensures in
    let arriving : Arriving old c.arrival-at.result c.args.mbuf.pkt = record {
      exact = c.arrival-at.ensures.exact;
      laws = c.arrivals_go_by_steps.ensures old.port c.arrival-at.result c.args.mbuf.pkt;
      steps = c.advances_go_by_steps.ensures;
      opens = c.open_courses_go_on.ensures;
    } in
    let came : Kept old there = record { pace = advanced.pace; start = advanced.start; stays = advanced.stays } in
    let kept = Kept-then old there joined came (Kept-entered there joined _ entered.state (StaysSender-same there joined entered.sender)) in
    let begins = Begins-joined old _ _ arriving there came advanced.course joined.port entered.state c.in-Some.now
    (sym c.in-Some.ensures) in
    on_err c.from_residual-in_err-dequeue.result (HasHalted-arrived old _ _ arriving last
    (Kept-then old joined last kept (Kept-same joined last refused.refused refused.stays)) (rw refused.refused begins))

pub returns-in_ok-dequeue-clause-arrivals : goal.returns-in_ok-dequeue-clause-arrivals
returns-in_ok-dequeue-clause-arrivals g c =
    rw (c.in_ok-dequeue.ensures.state, arrivals_of-dequeue)
    (rw (c.in_ok-join.ensures.state, arrivals_of-arrive, c.in_ok-advance.ensures.arrivals))

pub returns-in_default-clause-arrivals : goal.returns-in_default-clause-arrivals
returns-in_default-clause-arrivals g c = rw (c.in_ok-join.ensures.state, arrivals_of-arrive, c.in_ok-advance.ensures.arrivals)

pub returns-in_ok-dequeue-clause-opened : goal.returns-in_ok-dequeue-clause-opened
returns-in_ok-dequeue-clause-opened g c =
    let old = c.args.self.now in
    let there = c.advance.new.self in
    let joined = c.join.new.self in
    let last = c.dequeue.new.self in
    let advanced = c.in_ok-advance.ensures in
    let entered = c.in_ok-join.ensures in
    let served = c.in_ok-dequeue.ensures in
    let arriving : Arriving old c.arrival-at.result c.args.mbuf.pkt = record {
      exact = c.arrival-at.ensures.exact;
      laws = c.arrivals_go_by_steps.ensures old.port c.arrival-at.result c.args.mbuf.pkt;
      steps = c.advances_go_by_steps.ensures;
      opens = c.open_courses_go_on.ensures;
    } in
    let came : Kept old there = record { pace = advanced.pace; start = advanced.start; stays = advanced.stays } in
    let kept = Kept-then old there joined came (Kept-entered there joined _ entered.state (StaysSender-same there joined entered.sender)) in
    let course = course-followed old _ _ arriving there came advanced.course joined.port entered.state c.in-Some.now
    (sym c.in-Some.ensures) last.port served.state in
    IsOpen-arrived old _ _ arriving last (Kept-then old joined last kept (Kept-entered joined last _ served.state served.stays)) course
    (returns-in_ok-dequeue-clause-arrivals g c)

pub returns-in_default-clause-opened : goal.returns-in_default-clause-opened
returns-in_default-clause-opened g c =
    let old = c.args.self.now in
    let there = c.advance.new.self in
    let joined = c.join.new.self in
    let advanced = c.in_ok-advance.ensures in
    let entered = c.in_ok-join.ensures in
    let arriving : Arriving old c.arrival-at.result c.args.mbuf.pkt = record {
      exact = c.arrival-at.ensures.exact;
      laws = c.arrivals_go_by_steps.ensures old.port c.arrival-at.result c.args.mbuf.pkt;
      steps = c.advances_go_by_steps.ensures;
      opens = c.open_courses_go_on.ensures;
    } in
    let came : Kept old there = record { pace = advanced.pace; start = advanced.start; stays = advanced.stays } in
    let kept = Kept-then old there joined came (Kept-entered there joined _ entered.state (StaysSender-same there joined entered.sender)) in
    let course = course-alone old _ _ arriving there came advanced.course joined.port entered.state (sym c.in_default.ensures) in
    IsOpen-arrived old _ _ arriving joined kept course (returns-in_default-clause-arrivals g c)
