use Rattle.meter_table.specs.Seats.{IsFresh}
use Rattle.meter_table.proofs.Callers.{none_made}
use Rattle.meter_table.proofs.Ended.{all_at}
use Rattle.meter_table.proofs.laws.fresh_made_none.Goals as goal

pub returns : goal.returns
returns c t seats fresh = none_made seats (λ n seat at. (all_at (IsFresh t) seats n seat fresh at).none)
