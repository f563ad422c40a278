use Rattle.std.proofs.Common.{get_or, arith, true, Contains}
use Rattle.wrr_pick.specs.RoundRobin.{picked_queue}
use Rattle.wrr_pick.proofs.Picks.{picked_queue-is_picked, lowered-filled, below-length}
use Rattle.std.proofs.lemmas.Option.{get_or_from_slice_get}
use Rattle.wrr_pick.proofs.laws.differences_stay.Goals as goal

pub returns : goal.returns
returns c = λ tokens filled j k e first second.
    let queue = picked_queue tokens filled in
    let least = get_or tokens queue 0 in
    let some : Contains filled true = (j, below-length filled j first, get_or_from_slice_get filled j true true first) in
    let picked = picked_queue-is_picked tokens filled e some in
    omega (arith, lowered-filled tokens filled least j e first, lowered-filled tokens filled least k e second, picked.least j first, picked.least k second)
