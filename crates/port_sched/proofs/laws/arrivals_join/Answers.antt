use Rattle.port_sched.proofs.Arrived.{arrival-joins, arrival-keeps}
use Rattle.port_sched.proofs.laws.arrivals_join.Goals as goal

pub returns : goal.returns
returns g c = record { joins = arrival-joins g.T.Parcel.packet; keeps = arrival-keeps g.T.Parcel.packet }
