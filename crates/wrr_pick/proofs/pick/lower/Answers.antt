use Rattle.std.proofs.Common.{arith}
use Rattle.wrr_pick.proofs.Picks.{IsLoweredTo-all}
use Rattle.wrr_pick.proofs.pick.lower.Goals as goal

pub returns : goal.returns
returns c = IsLoweredTo-all _ _ _ _ _ (omega arith) (omega arith) c.loop-queue.invariant
