use Rattle.std.proofs.Common.{rules}
use Rattle.meter_table.proofs.Moves.{wholes, joins}
use Rattle.meter_table.proofs.cell.join.Goals as goal

pub split_pass-whole-requires : goal.split_pass-whole-requires
split_pass-whole-requires c =
    let knows = c.requires.knows in
    (search rules, (search rules, (search rules, wholes knows.0 knows.1 _ _ knows.3)))

pub join_pass-requires : goal.join_pass-requires
join_pass-requires c =
    let knows = c.requires.knows in
    (search rules, (search rules, (search rules, joins knows.0 knows.1 _ _ _ _ knows.2)))
