use Rattle.qos_profile.proofs.Keeping.{sections-given}
use Rattle.qos_profile.proofs.laws.facts_are_given.Goals as goal

pub returns : goal.returns
returns c = sections-given 1
