use Rattle.run_journal.proofs.Advances.{advance-steps}
use Rattle.run_journal.proofs.laws.advances_go_by_steps.Goals as goal

pub returns : goal.returns
returns g c from to = advance-steps c.dequeues_serve.ensures from to
