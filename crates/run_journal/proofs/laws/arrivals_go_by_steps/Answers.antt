use Rattle.run_journal.proofs.Arrivals.{arrival-laws}
use Rattle.run_journal.proofs.laws.arrivals_go_by_steps.Goals as goal

pub returns : goal.returns
returns g c from at packet = arrival-laws from at packet
