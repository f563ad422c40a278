use Rattle.qos_pipeline.proofs.Turned.{has-turned, may-take, stopped-goes_on, lost-goes_on, admitted-goes_on, halts-arriving, halts-between}
use Rattle.qos_pipeline.proofs.Halted.{on_err}
use Rattle.qos_pipeline.proofs.ports.take_one.Goals as goal

pub returns-in_err-turn-clause-halts : goal.returns-in_err-turn-clause-halts
returns-in_err-turn-clause-halts g c =
    on_err c.from_residual.result (halts-between c.marks_agree.ensures c.advances_go_by_steps.ensures c.requires.goes)

pub arrive_at-requires-clause-may : goal.arrive_at-requires-clause-may
arrive_at-requires-clause-may g c =
    let t = c.in_ok-turn.ensures in
    let counted = rw c.in-Admitted.is at t.counted in
    let placed = rw c.in-Admitted.is at t.place in
    let places = c.places_are_there.ensures c.args.p.now in
    may-take c.requires.goes (has-turned t.reading t.marking t.stays t.marker)
    counted.0 c.limits.ensures places c.in-Admitted.mbuf.pkt placed

pub returns-in_err-arrive_at-in-Admitted-clause-halts : goal.returns-in_err-arrive_at-in-Admitted-clause-halts
returns-in_err-arrive_at-in-Admitted-clause-halts g c =
    let t = c.in_ok-turn.ensures in
    let gives = rw c.in-Admitted.is at t.received in
    on_err c.from_residual-in_err-arrive_at-in-Admitted.result
    (halts-arriving c.requires.goes (has-turned t.reading t.marking t.stays t.marker)
    c.marks_agree.ensures c.advances_go_by_steps.ensures c.in-Admitted.mbuf _
    c.arrive_at.new.egresses.items c.in_err-arrive_at-in-Admitted.ensures.taken gives)

pub returns-in-Stopped-clause-goes_on : goal.returns-in-Stopped-clause-goes_on
returns-in-Stopped-clause-goes_on g c =
    let t = c.in_ok-turn.ensures in
    let counted = rw c.in-Stopped.is at t.counted in
    let gives = rw c.in-Stopped.is at t.received in
    stopped-goes_on c.requires.goes (has-turned t.reading t.marking t.stays t.marker) counted gives

pub returns-in-Lost-clause-goes_on : goal.returns-in-Lost-clause-goes_on
returns-in-Lost-clause-goes_on g c =
    let t = c.in_ok-turn.ensures in
    let counted = rw c.in-Lost.is at t.counted in
    let gives = rw c.in-Lost.is at t.received in
    let loss = rw c.in-Lost.is at t.place in
    lost-goes_on c.requires.goes (has-turned t.reading t.marking t.stays t.marker)
    c.in-Lost.field-0 loss counted gives

pub returns-in_ok-arrive_at-in-Admitted-clause-goes_on : goal.returns-in_ok-arrive_at-in-Admitted-clause-goes_on
returns-in_ok-arrive_at-in-Admitted-clause-goes_on g c =
    let t = c.in_ok-turn.ensures in
    let counted = rw c.in-Admitted.is at t.counted in
    let gives = rw c.in-Admitted.is at t.received in
    admitted-goes_on c.requires.goes (has-turned t.reading t.marking t.stays t.marker)
    c.marks_agree.ensures c.in-Admitted.mbuf _ c.arrive_at.new.egresses.items
    c.in_ok-arrive_at-in-Admitted.ensures.taken counted gives
