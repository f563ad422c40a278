use Rattle.port_sched.proofs.Preferred.{visit-laws}
use Rattle.port_sched.proofs.laws.visits_pay.Goals as goal

pub returns : goal.returns
returns g c = λ cost v. visit-laws cost v
