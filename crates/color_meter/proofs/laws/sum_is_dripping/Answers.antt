use Rattle.color_meter.proofs.Sums.{drip-sum}
use Rattle.color_meter.proofs.laws.sum_is_dripping.Goals as goal

pub returns : goal.returns
returns _ = drip-sum
