use Rattle.std.proofs.Common.{get_or, arith}
use Rattle.wrr_pick.specs.RoundRobin.{picked_queue}
use Rattle.wrr_pick.proofs.Picks.{picked_queue-is_picked, lowered-filled}
use Rattle.wrr_pick.proofs.laws.picked_queue_has_no_tokens.Goals as goal

pub returns : goal.returns
returns c = λ tokens filled e some.
    let queue = picked_queue tokens filled in
    omega (arith, lowered-filled tokens filled (get_or tokens queue 0) queue e (picked_queue-is_picked tokens filled e some).filled_itself)
