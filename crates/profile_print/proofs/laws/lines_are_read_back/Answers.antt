use Rattle.profile_print.specs.Text.{blocks_of}
use Rattle.profile_print.proofs.Lines.{blocks-read}
use Rattle.profile_print.proofs.Plainness.{plan-plain}
use Rattle.profile_print.proofs.laws.lines_are_read_back.Goals as goal

pub returns : goal.returns
returns c = λ p h. blocks-read (blocks_of p) (plan-plain p h)
