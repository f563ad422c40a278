use Rattle.port_sched.proofs.Idled.{leaves-alone}
use Rattle.port_sched.proofs.laws.dequeues_leave_alone.Goals as goal

pub returns : goal.returns
returns g c = leaves-alone g.T.Parcel.packet c.next_is_nearest.ensures
