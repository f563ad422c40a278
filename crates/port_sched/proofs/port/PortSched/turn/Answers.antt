use Rattle.std.proofs.Common.{sym, ap, ◌∙◌, subst}
use Rattle.port_sched.specs.Stage.{stage, course_of, GoesTo}
use Rattle.port_sched.proofs.PortTurns.{GoesTo-itself, turn-none, turn-moved, turn-kept}
use Rattle.port_sched.proofs.port.PortSched.turn.Goals as goal

pub returns-then-room-eq0-clause-exact : goal.returns-then-room-eq0-clause-exact
returns-then-room-eq0-clause-exact g c =
    ap (λ n. course_of c.args.first (stage c.args.self.now n c.args.out.now)) (sym c.if-room-eq0.true)
    ∙ turn-none g.T.Parcel.packet c.args.subport (course_of c.args.first (stage c.args.self.now c.args.room c.args.out.now))
    c.if-room-eq0.true

pub returns-then-room-eq0-clause-goes : goal.returns-then-room-eq0-clause-goes
returns-then-room-eq0-clause-goes g c =
    let here = stage c.args.self.now c.args.room c.args.out.now in
    subst (λ n. GoesTo c.args.first here (stage c.args.self.now n c.args.out.now)) c.if-room-eq0.true (GoesTo-itself c.args.first here)

pub returns-then-left-eq0-clause-exact : goal.returns-then-left-eq0-clause-exact
returns-then-left-eq0-clause-exact g c =
    ap (λ p. course_of c.args.first (stage p c.visits-left.result c.visits-left.new.out)) c.move_on.ensures
    ∙ turn-moved g.T.Parcel.packet c.args.subport _ (course_of c.args.first
    (stage c.visits-left.new.self c.visits-left.result c.visits-left.new.out)) c.if-room-eq0.false c.visits-left.ensures.exact
    c.if-left-eq0.true

pub returns-then-left-eq0-clause-goes : goal.returns-then-left-eq0-clause-goes
returns-then-left-eq0-clause-goes g c =
    let goes = c.visits-left.ensures.goes in
    subst (λ p. GoesTo c.args.first (stage c.args.self.now c.args.room c.args.out.now)
    (stage p c.visits-left.result c.visits-left.new.out)) (sym c.move_on.ensures)
    (record {
      room = goes.room;
      no_later = goes.no_later;
      sent = goes.sent;
      held = goes.held;
      capacity = goes.capacity;
      subports =
          goes.subports;
    })

pub returns-else-left-eq0-clause-exact : goal.returns-else-left-eq0-clause-exact
returns-else-left-eq0-clause-exact g c =
    turn-kept g.T.Parcel.packet c.args.subport _ (course_of c.args.first
    (stage c.visits-left.new.self c.visits-left.result c.visits-left.new.out)) c.if-room-eq0.false c.visits-left.ensures.exact
    c.if-left-eq0.false
