use Rattle.std.proofs.Common.{length, sym, ap, ◌∙◌}
use Rattle.port_sched.proofs.Filled.{none-left}
use Rattle.port_sched.proofs.pipe.PipeBooks.queued.Goals as goal

pub returns-then-not-has_packet-clause-exact : goal.returns-then-not-has_packet-clause-exact
returns-then-not-has_packet-clause-exact g c =
    sym (ap length (none-left c.args.self.now.queues.lists (sym c.has_packet.ensures ∙ c.if-not-has_packet.true)))
