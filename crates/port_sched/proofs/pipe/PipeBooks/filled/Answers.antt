use Rattle.port_sched.proofs.Filled.{four-filled}
use Rattle.port_sched.proofs.pipe.PipeBooks.filled.Goals as goal

pub returns : goal.returns
returns g c =
    four-filled c.args.self.now.queues.lists _ _ _ _ c.requires c.len.ensures.exact c.len-2.ensures.exact c.len-3.ensures.exact c.len-4.ensures.exact
