use Rattle.std.proofs.Common.{refl, sym, ◌∙◌, subst}
use Rattle.run_journal.specs.Advancing.{Advancing}
use Rattle.port_egress.proofs.Egresses.{Carries-moved}
use Rattle.port_egress.proofs.Lives.{on_err, StaysSender-none, StaysSender-then, advance-step}
use Rattle.port_egress.proofs.egress.Egress.advance.Goals as goal

pub loop-now-init : goal.loop-now-init
loop-now-init g c = record {
  advancing = subst (λ r. Advancing c.args.self.now.port c.args.to r) (sym c.aim.ensures.aimed)
      ((c.advances_go_by_steps.ensures c.args.self.now.port c.args.to).begins c.aim.ensures.quantum);
  carries = λ body carries. Carries-moved g.K.Sink body c.args.self.now _ _ refl c.aim.ensures.aimed carries;
  stays = StaysSender-none g.K.Sink _;
  slots = refl;
}

pub loop-now-smaller : goal.loop-now-smaller
loop-now-smaller g c =
    (advance-step c.args.self.now.port c.args.to (c.advances_go_by_steps.ensures c.args.self.now.port c.args.to)
    c.loop-now.self.port c.loop-now.invariant.advancing c.in-Some.ensures.went c.in-Some.now c.in-Some.ensures.moment
    c.next.new.self c.in-Some.ensures.clock c.dequeue.new.self.port c.in_ok-dequeue.ensures.state).1

pub loop-now-preserved : goal.loop-now-preserved
loop-now-preserved g c = record {
  advancing = (advance-step c.args.self.now.port c.args.to (c.advances_go_by_steps.ensures c.args.self.now.port c.args.to)
      c.loop-now.self.port c.loop-now.invariant.advancing c.in-Some.ensures.went c.in-Some.now c.in-Some.ensures.moment
      c.next.new.self c.in-Some.ensures.clock c.dequeue.new.self.port c.in_ok-dequeue.ensures.state).0;
  carries = λ body carries. c.in_ok-dequeue.ensures.carries body
      (Carries-moved g.K.Sink body c.loop-now.self _ _ refl c.in-Some.ensures.clock (c.loop-now.invariant.carries body carries));
  stays = StaysSender-then g.K.Sink _ _ _ c.loop-now.invariant.stays c.in_ok-dequeue.ensures.stays;
  slots = c.in_ok-dequeue.ensures.slots ∙ c.loop-now.invariant.slots;
}

pub returns-in_err-dequeue-clause-refused : goal.returns-in_err-dequeue-clause-refused
returns-in_err-dequeue-clause-refused g c =
    let steps = c.advances_go_by_steps.ensures c.args.self.now.port c.args.to in
    let so_far = steps.so_far c.loop-now.self.port c.loop-now.invariant.advancing in
    on_err c.from_residual.result (rw (c.in_err-dequeue.ensures.refused, c.in-Some.ensures.clock) so_far)

pub returns-in_err-dequeue-clause-carries : goal.returns-in_err-dequeue-clause-carries
returns-in_err-dequeue-clause-carries g c = λ body carries. c.in_err-dequeue.ensures.carries body
    (Carries-moved g.K.Sink body c.loop-now.self _ _ refl c.in-Some.ensures.clock (c.loop-now.invariant.carries body carries))

pub returns-in_err-dequeue-clause-slots : goal.returns-in_err-dequeue-clause-slots
returns-in_err-dequeue-clause-slots g c = c.in_err-dequeue.ensures.slots ∙ c.loop-now.invariant.slots

pub returns-clause-course : goal.returns-clause-course
returns-clause-course g c =
    let ended = (c.advances_go_by_steps.ensures c.args.self.now.port c.args.to).ends c.loop-now.self.port c.loop-now.invariant.advancing
    c.in_default.ensures.went (sym c.in_default.ensures.moment) in
    rw c.in_default.ensures.clock ended
