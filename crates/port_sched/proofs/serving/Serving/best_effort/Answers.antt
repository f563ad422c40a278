use Rattle.std.proofs.Common.{ℕ, sym, ap, ◌∙◌, inl, arith, rules}
use Rattle.port_sched.specs.Classes.{Visit, best_effort_turn}
use Rattle.port_sched.specs.PortDequeue.{cost_with}
use Rattle.port_sched.specs.Books.{visit_of}
use Rattle.port_sched.proofs.Draws.{best_effort-over}
use Rattle.port_sched.proofs.serving.Serving.best_effort.Goals as goal

pub loop-self-preserved : goal.loop-self-preserved
loop-self-preserved g c =
    let same = c.loop-self.invariant.onward.overhead in
    let turn = λ (n : ℕ) (v : Visit g.row.T.Denot). best_effort_turn (cost_with g.T.Parcel.packet n) v in
    let next = visit_of c.send_best_effort.new.self c.send_best_effort.new.level c.send_best_effort.new.pipe c.send_best_effort.new.out.items in
    let now = visit_of c.loop-self.self c.loop-self.level c.loop-self.pipe c.loop-self.out.items in
    record {
      to_come = ap (λ n. turn n next) (sym same) ∙ c.if-send_best_effort.ensures.goes_on ∙ ap (λ n. turn n now) same ∙ c.loop-self.invariant.to_come;
      onward = search rules;
    }

pub returns-else-send_best_effort-clause-exact : goal.returns-else-send_best_effort-clause-exact
returns-else-send_best_effort-clause-exact g c =
    let same = c.loop-self.invariant.onward.overhead in
    let turn = λ (n : ℕ) (v : Visit g.row.T.Denot). best_effort_turn (cost_with g.T.Parcel.packet n) v in
    let now = visit_of c.loop-self.self c.loop-self.level c.loop-self.pipe c.loop-self.out.items in
    c.if-send_best_effort.ensures.over ∙ ap (λ n. turn n now) same ∙ c.loop-self.invariant.to_come

pub returns-after-loop-self-clause-exact : goal.returns-after-loop-self-clause-exact
returns-after-loop-self-clause-exact g c =
    let now = visit_of c.loop-self.self c.loop-self.level c.loop-self.pipe c.loop-self.out.items in
    best_effort-over (cost_with g.T.Parcel.packet c.args.self.now.overhead) now (inl (omega arith)) (inl (omega arith)) ∙ c.loop-self.invariant.to_come
