use Rattle.wrr_pick.proofs.Picks.{picked_queue-is_picked}
use Rattle.wrr_pick.proofs.laws.picked_queue_is_filled.Goals as goal

pub returns : goal.returns
returns c = picked_queue-is_picked
