use Rattle.port_sched.proofs.CarriedOn.{packets-decide}
use Rattle.port_sched.proofs.laws.packets_decide.Goals as goal

pub returns : goal.returns
returns g c = packets-decide g.T.Parcel.packet
