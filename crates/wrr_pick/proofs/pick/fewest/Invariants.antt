use Rattle.wrr_pick.proofs.Picks.{IsBestOf}
use Rattle.wrr_pick.proofs.pick.fewest.Given as goal

abbrev pub invariant-loop-queue : goal.invariant-loop-queue
invariant-loop-queue l = IsBestOf l.tokens l.filled l.queue l.best
