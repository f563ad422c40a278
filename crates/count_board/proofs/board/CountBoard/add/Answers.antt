use Rattle.std.proofs.Common.{rules, arith, ◌<◌}
use Rattle.count_board.proofs.Moves.{adds}
use Rattle.count_board.proofs.board.CountBoard.add.Goals as goal

pub fetch_add-requires : goal.fetch_add-requires
fetch_add-requires c =
    let within : c.args.word < c.args.self.now.table.shared.key = omega (arith, c.args.self.now.counted) in
    (search rules, search rules, adds _ _ _ _ _ _ within c.args.seat.now.has_a_part (omega arith))
