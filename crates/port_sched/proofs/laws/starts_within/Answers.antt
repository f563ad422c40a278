use Rattle.port_sched.proofs.Started.{start-laws}
use Rattle.port_sched.proofs.laws.starts_within.Goals as goal

pub returns : goal.returns
returns g c = start-laws g.T.Parcel.packet
