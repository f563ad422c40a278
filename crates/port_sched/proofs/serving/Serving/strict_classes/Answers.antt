use Rattle.std.proofs.Common.{◌≡◌, sym, ap, ◌∙◌, arith, rules}
use Rattle.std.specs.List.{fold, range_with_len}
use Rattle.port_sched.specs.Classes.{Visit, strict_turn}
use Rattle.port_sched.specs.PortDequeue.{cost_with}
use Rattle.port_sched.specs.Books.{visit_of}
use Rattle.port_sched.proofs.Ranges.{fold-range_more}
use Rattle.port_sched.proofs.Strict.{strict-none}
use Rattle.port_sched.proofs.serving.Serving.strict_classes.Goals as goal

pub loop-class-preserved : goal.loop-class-preserved
loop-class-preserved g c =
    let packet = g.T.Parcel.packet in
    let class = c.loop-class.class in
    let first = visit_of c.args.self.now c.args.level.now c.args.pipe.now c.args.out.now.items in
    let now = visit_of c.loop-class.self c.loop-class.level c.loop-class.pipe c.loop-class.out.items in
    let turn = strict_turn (cost_with packet c.args.self.now.overhead) in
    record {
      so_far = c.strict.ensures.exact
          ∙ ap (λ n. strict_turn (cost_with packet n) now class) c.loop-class.invariant.onward.overhead
          ∙ ap (λ (v : Visit g.row.T.Denot). turn v class) c.loop-class.invariant.so_far
          ∙ sym (fold-range_more turn first class);
      onward = search rules;
    }

pub returns-clause-exact : goal.returns-clause-exact
returns-clause-exact g c =
    let packet = g.T.Parcel.packet in
    let first = visit_of c.args.self.now c.args.level.now c.args.pipe.now c.args.out.now.items in
    let turn = strict_turn (cost_with packet c.args.self.now.overhead) in
    let all : c.loop-class.class ≡ 12 = omega arith in
    c.loop-class.invariant.so_far ∙ ap (λ n. fold turn first (range_with_len 0 n)) all

pub returns-then-not-strict_waits-clause-exact : goal.returns-then-not-strict_waits-clause-exact
returns-then-not-strict_waits-clause-exact g c =
    strict-none (cost_with g.T.Parcel.packet c.args.self.now.overhead) (visit_of c.args.self.now c.args.level.now c.args.pipe.now c.args.out.now.items)
    (omega (arith, c.requires.queues.lists)) (sym (c.if-not-strict_waits.ensures))
