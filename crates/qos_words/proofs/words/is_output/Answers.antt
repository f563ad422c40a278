use Rattle.qos_words.proofs.Terms.{is_output}
use Rattle.std.specs.Fmt.{digits}
use Rattle.qos_words.proofs.words.is_output.Goals as goal

pub returns : goal.returns
unfolding digits is_output
returns c = c.is_joined_with_any.ensures
