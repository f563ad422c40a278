use Rattle.std.proofs.Common.{rules}
use Rattle.meter_table.proofs.Moves.{splits}
use Rattle.meter_table.proofs.cell.split.Goals as goal

pub split_pass-requires : goal.split_pass-requires
split_pass-requires c =
    let knows = c.requires.knows in
    (search rules, (search rules, (search rules, splits knows.0 knows.1 _ _ knows.2 c.requires.parts c.requires.unused)))
