use Rattle.wrr_pick.proofs.Multiples.{least_common_multiple-is_least}
use Rattle.wrr_pick.proofs.laws.least_common_multiple_is_least.Goals as goal

pub returns : goal.returns
returns c = least_common_multiple-is_least
