use Rattle.run_journal.proofs.Lives.{journals_grow}
use Rattle.run_journal.proofs.laws.open_journals_grow.Goals as goal

pub returns : goal.returns
returns c pace start = journals_grow pace start
