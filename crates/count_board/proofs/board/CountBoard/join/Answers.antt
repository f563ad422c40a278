use Rattle.std.proofs.Common.{rules}
use Rattle.count_board.proofs.Moves.{joins}
use Rattle.count_board.proofs.board.CountBoard.join.Goals as goal

pub join_seat-requires : goal.join_seat-requires
join_seat-requires c = (search rules, search rules, search rules, search rules, joins _ _ _ _ _)
