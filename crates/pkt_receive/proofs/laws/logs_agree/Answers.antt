use Rattle.pkt_receive.proofs.Agrees.{logs-agree}
use Rattle.pkt_receive.proofs.laws.logs_agree.Goals as goal

pub returns : goal.returns
returns c = logs-agree
