use Rattle.port_sched.proofs.Settled.{setting-stays}
use Rattle.port_sched.proofs.Within.{within-stays}
use Rattle.port_sched.proofs.Tokens.{tokens-stay}
use Rattle.port_sched.proofs.laws.dequeues_keep_setting.Goals as goal

pub returns : goal.returns
returns g c = λ now room s. record {
  setting = setting-stays g.T.Parcel.packet now room s;
  within = within-stays g.T.Parcel.packet now room s;
  tokens = tokens-stay g.T.Parcel.packet c.picked_queue_has_no_tokens.ensures now room s;
}
