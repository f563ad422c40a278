use Rattle.std.proofs.Common.{◌≡◌, ◌≤◌, ◌*◌, min, take}
use Rattle.std.specs.List.{sum_by}
use Rattle.qos_profile.proofs.large.pipe_room.Given as goal

abbrev pub invariant-loop-size : goal.invariant-loop-size
invariant-loop-size l = (l.room ≡ sum_by (min 65536) (take l.size-index l.sizes)) × (l.room ≤ 65536 * l.size-index)
