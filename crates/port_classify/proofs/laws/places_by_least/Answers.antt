use Rattle.port_classify.proofs.Leasts.{places-by_least}
use Rattle.port_classify.proofs.laws.places_by_least.Goals as goal

pub returns : goal.returns
returns _ = places-by_least
