use Rattle.port_sched.proofs.FrontsLeft.{fronts-sent}
use Rattle.port_sched.proofs.laws.fronts_are_sent.Goals as goal

pub returns : goal.returns
returns g c = fronts-sent g.T.Parcel.packet
