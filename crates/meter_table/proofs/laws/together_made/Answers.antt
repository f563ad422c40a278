use Rattle.meter_table.proofs.Callers.{together_made}
use Rattle.meter_table.proofs.laws.together_made.Goals as goal

pub returns : goal.returns
returns c = together_made
