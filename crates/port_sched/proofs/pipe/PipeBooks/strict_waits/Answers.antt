use Rattle.std.proofs.Common.{arith}
use Rattle.port_sched.proofs.Filled.{four-counted, more-filled}
use Rattle.port_sched.proofs.pipe.PipeBooks.strict_waits.Goals as goal

pub returns : goal.returns
returns g c =
    let lists = c.args.self.now.queues.lists in
    let four = four-counted lists c.filled.result c.filled.ensures c.requires in
    more-filled lists _ _ (omega (arith, c.from.ensures, c.from-2.ensures, c.from-3.ensures, c.from-4.ensures, four)) c.filled-2.ensures
