use Rattle.std.proofs.Common.{◌∙◌, inl, arith}
use Rattle.port_sched.specs.PortDequeue.{cost_with}
use Rattle.port_sched.specs.Books.{visit_of}
use Rattle.port_sched.proofs.Strict.{strict-over}
use Rattle.port_sched.proofs.serving.Serving.strict.Goals as goal

pub returns-after-loop-self-clause-exact : goal.returns-after-loop-self-clause-exact
returns-after-loop-self-clause-exact g c =
    let now = visit_of c.loop-self.self c.loop-self.level c.loop-self.pipe c.loop-self.out.items in
    strict-over (cost_with g.T.Parcel.packet c.args.self.now.overhead) c.args.class now (inl (omega arith)) ∙ c.loop-self.invariant.to_come
