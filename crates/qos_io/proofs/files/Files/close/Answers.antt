use Rattle.std.proofs.Common.{arith}
use Rattle.qos_io.proofs.FilesLemmas.{get-insert_same, get-insert_other}
use Rattle.qos_io.proofs.files.Files.close.Goals as goal

pub returns-clause-held : goal.returns-clause-held
returns-clause-held c = grind (arith, get-insert_same)

pub returns-clause-others : goal.returns-clause-others
returns-clause-others c = grind (arith, get-insert_other)
