use Rattle.std.proofs.Common.{rules}
use Rattle.count_board.proofs.Moves.{splits}
use Rattle.count_board.proofs.board.CountBoard.split.Goals as goal

pub split_seat-requires : goal.split_seat-requires
split_seat-requires c = (search rules, search rules, splits _ _ _ c.requires.parts c.requires.fresh.1 c.requires.fresh.2)
