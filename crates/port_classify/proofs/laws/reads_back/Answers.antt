use Rattle.port_classify.proofs.ReadBack.{reads-back}
use Rattle.port_classify.proofs.laws.reads_back.Goals as goal

pub returns : goal.returns
returns _ = reads-back
