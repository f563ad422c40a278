use Rattle.std.proofs.Common.{rules}
use Rattle.meter_table.proofs.Moves.{enters}
use Rattle.meter_table.proofs.cell.put.Goals as goal

pub compare_exchange_as-requires : goal.compare_exchange_as-requires
compare_exchange_as-requires g c =
    let next = c.requires.next in
    (search rules, (search rules, (search rules, enters next.0 next.1 _ _ _ _ c.args.mark.now next.2 c.requires.few next.3)))
