use Rattle.std.proofs.Common.{◌≡◌, ◌≤◌, ◌*◌, take}
use Rattle.std.specs.List.{sum_by}
use Rattle.qos_profile.specs.Large.{room_in}
use Rattle.qos_profile.proofs.large.queue_total.Given as goal

abbrev pub invariant-loop-section : goal.invariant-loop-section
invariant-loop-section l = (l.total ≡ sum_by room_in (take l.section-index l.sections)) × (l.total ≤ 4294967296 * l.section-index)
