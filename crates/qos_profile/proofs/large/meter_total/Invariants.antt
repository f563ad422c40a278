use Rattle.std.proofs.Common.{◌≡◌, ◌≤◌, ◌*◌, take}
use Rattle.std.specs.List.{sum_by}
use Rattle.qos_profile.specs.Large.{meters_in}
use Rattle.qos_profile.proofs.large.meter_total.Given as goal

abbrev pub invariant-loop-section : goal.invariant-loop-section
invariant-loop-section l = (l.total ≡ sum_by (λ s. meters_in s.head) (take l.section-index l.sections)) × (l.total ≤ 1 * l.section-index)
