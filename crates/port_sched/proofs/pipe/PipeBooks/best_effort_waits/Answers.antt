use Rattle.std.proofs.Common.{arith}
use Rattle.port_sched.proofs.Filled.{any-found, any-more, any-all}
use Rattle.port_sched.proofs.pipe.PipeBooks.best_effort_waits.Goals as goal

pub returns-then-len-gt0 : goal.returns-then-len-gt0
returns-then-len-gt0 g c = any-found c.args.self.now.queues.lists 12 c.loop-queue.queue (omega arith) (omega arith) (omega (arith, c.len.ensures.exact))

pub loop-queue-preserved : goal.loop-queue-preserved
loop-queue-preserved g c = any-more c.args.self.now.queues.lists 12 c.loop-queue.queue (omega arith) (omega arith) (omega (arith, c.len.ensures.exact)) c.loop-queue.invariant

pub returns : goal.returns
returns g c = any-all c.args.self.now.queues.lists 12 c.loop-queue.queue (omega arith) c.loop-queue.invariant
