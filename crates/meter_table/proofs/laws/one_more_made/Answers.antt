use Rattle.meter_table.proofs.Callers.{one_more_made}
use Rattle.meter_table.proofs.laws.one_more_made.Goals as goal

pub returns : goal.returns
returns c = one_more_made
