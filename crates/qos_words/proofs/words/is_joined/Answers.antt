use Rattle.qos_words.proofs.words.is_joined.Goals as goal
use Rattle.qos_words.proofs.Terms.{rules}
use Rattle.qos_words.proofs.Endings.{joined}

pub returns-in-Some : goal.returns-in-Some
returns-in-Some c = search (rules, joined)

pub returns-in-None : goal.returns-in-None
returns-in-None c = search (rules, joined)
