-- qos_profile/proofs/build/subport/fill/Answers.antt
use Rattle.std.proofs.Common.{arith}
use Rattle.qos_profile.proofs.Building.{filled-none, filled-next, filled-value}
use Rattle.qos_profile.proofs.build.subport.fill.Goals as goal

pub loop-pipe-init : goal.loop-pipe-init
loop-pipe-init c = record { filled = filled-none c.args.pipes.now c.args.first c.args.kind; bound = omega arith }

pub loop-pipe-preserved : goal.loop-pipe-preserved
loop-pipe-preserved c = record {
  filled = filled-next c.args.pipes.now c.loop-pipe.pipes c.args.first c.loop-pipe.pipe c.args.kind c.loop-pipe.invariant.filled (omega arith) (omega arith);
  bound = omega arith;
}

pub returns : goal.returns
returns c =
    filled-value c.args.pipes.now c.loop-pipe.pipes c.args.first c.loop-pipe.pipe c.args.last c.args.kind c.loop-pipe.invariant.filled (omega arith) (omega arith)
