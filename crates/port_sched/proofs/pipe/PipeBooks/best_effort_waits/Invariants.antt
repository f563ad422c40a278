use Rattle.std.proofs.Common.{◌≡◌, ◌-◌, false, take, drop}
use Rattle.std.specs.List.{list_any}
use Rattle.queue_store.specs.Queues.{is_filled}
use Rattle.port_sched.proofs.pipe.PipeBooks.best_effort_waits.Given as goal

abbrev pub invariant-loop-queue : goal.invariant-loop-queue
invariant-loop-queue g l = list_any is_filled (take (l.queue - 12) (drop 12 l.self.queues.lists)) ≡ false
