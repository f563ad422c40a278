use Rattle.pkt_receive.proofs.Agrees.{marks-agree}
use Rattle.pkt_receive.proofs.laws.marks_agree.Goals as goal

pub returns : goal.returns
returns c = marks-agree
