use Rattle.port_sched.proofs.TurnsEnd.{turns_end}
use Rattle.port_sched.proofs.laws.turns_end.Goals as goal

pub returns : goal.returns
returns g c = turns_end g.T.Parcel.packet
