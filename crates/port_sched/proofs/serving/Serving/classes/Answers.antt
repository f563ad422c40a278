use Rattle.std.proofs.Common.{ap, ◌∙◌}
use Rattle.port_sched.specs.Classes.{best_effort_turn, classes_turn}
use Rattle.port_sched.specs.PortDequeue.{cost_with}
use Rattle.port_sched.specs.Books.{visit_of}
use Rattle.port_sched.proofs.serving.Serving.classes.Goals as goal

pub returns-clause-exact : goal.returns-clause-exact
unfolding classes_turn
returns-clause-exact g c =
    let packet = g.T.Parcel.packet in
    let now = visit_of c.strict_classes.new.self c.strict_classes.new.level c.strict_classes.new.pipe c.strict_classes.new.out.items in
    c.best_effort.ensures.exact
    ∙ ap (λ n. best_effort_turn (cost_with packet n) now) c.strict_classes.ensures.onward.overhead
    ∙ ap (best_effort_turn (cost_with packet c.args.self.now.overhead)) c.strict_classes.ensures.exact
