use Rattle.qos_words.proofs.Terms.{refl}
use Rattle.qos_words.proofs.Endings.{names_of_table}
use Rattle.std.specs.Fmt.{digits}
use Rattle.qos_words.proofs.names.output_names.Goals as goal

pub returns : goal.returns
unfolding digits
returns c = names_of_table c.args.prefix.now c.args.ports _ _ c.joined_with_first.ensures refl c.requires
