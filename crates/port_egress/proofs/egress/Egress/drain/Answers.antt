use Rattle.std.proofs.lemmas.Result.{on_ok_weaker, on_err_weaker}
use Rattle.port_egress.proofs.Lives.{Kept, IsDrained-advanced, HasHalted-advanced}
use Rattle.port_egress.proofs.egress.Egress.drain.Goals as goal

pub returns-clause-drained : goal.returns-clause-drained
returns-clause-drained g c =
    let advanced = c.advance.ensures in
    let kept : Kept c.args.self.now c.advance.new.self =
    record { pace = advanced.pace; start = advanced.start; stays = advanced.stays } in
    on_ok_weaker c.advance.result (λ course.
    IsDrained-advanced c.args.self.now c.advance.new.self kept (rw (c.clock.ensures, c.pace.ensures) at course) advanced.arrivals)
    advanced.course

pub returns-clause-halted : goal.returns-clause-halted
returns-clause-halted g c =
    let advanced = c.advance.ensures in
    let kept : Kept c.args.self.now c.advance.new.self =
    record { pace = advanced.pace; start = advanced.start; stays = advanced.stays } in
    on_err_weaker c.advance.result (λ begins.
    HasHalted-advanced c.args.self.now c.advance.new.self kept (rw (c.clock.ensures, c.pace.ensures) at begins))
    advanced.refused
