use Rattle.count_board.proofs.Moves.{last_in-le}
use Rattle.count_board.proofs.laws.last_is_seen.Goals as goal

pub returns : goal.returns
returns c = last_in-le
