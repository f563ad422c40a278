use Rattle.port_egress.proofs.Places.{places-there}
use Rattle.port_egress.proofs.laws.places_are_there.Goals as goal

pub returns : goal.returns
returns c p = places-there p
