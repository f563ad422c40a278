use Rattle.port_sched.proofs.Counted.{dequeue-serves}
use Rattle.port_sched.proofs.laws.dequeues_serve.Goals as goal

pub returns : goal.returns
returns g c = dequeue-serves g.T.Parcel.packet
