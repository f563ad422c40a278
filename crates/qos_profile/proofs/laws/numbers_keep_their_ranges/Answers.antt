use Rattle.qos_profile.proofs.Keeping.{number-kept}
use Rattle.qos_profile.proofs.laws.numbers_keep_their_ranges.Goals as goal

pub returns : goal.returns
returns c = number-kept
