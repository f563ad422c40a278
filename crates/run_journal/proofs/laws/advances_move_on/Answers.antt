use Rattle.run_journal.proofs.Lives.{moves_on}
use Rattle.run_journal.proofs.laws.advances_move_on.Goals as goal

pub returns : goal.returns
returns c pace start = moves_on c.dequeues_serve.ensures pace start
