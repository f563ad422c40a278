use Rattle.wrr_pick.proofs.Picks.{IsLoweredTo}
use Rattle.wrr_pick.proofs.pick.lower.Given as goal

abbrev pub invariant-loop-queue : goal.invariant-loop-queue
invariant-loop-queue l = IsLoweredTo l.initial.tokens l.tokens l.filled l.by l.queue
