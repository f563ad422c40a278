use Rattle.std.proofs.Common.{rules}
use Rattle.count_board.proofs.Moves.{looks}
use Rattle.count_board.proofs.board.CountBoard.look.Goals as goal

pub load-requires : goal.load-requires
load-requires c = (search rules, search rules, looks _ _ _ _ _)
