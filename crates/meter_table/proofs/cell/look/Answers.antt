use Rattle.std.proofs.Common.{rules}
use Rattle.meter_table.proofs.Moves.{looks}
use Rattle.meter_table.proofs.cell.look.Goals as goal

pub load_as-requires : goal.load_as-requires
load_as-requires g c = (search rules, (search rules, (search rules, looks _ _)))
