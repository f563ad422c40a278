use Rattle.qos_words.proofs.Apart.{names_apart}
use Rattle.qos_words.proofs.laws.names_are_apart.Goals as goal

pub returns : goal.returns
returns c = names_apart
