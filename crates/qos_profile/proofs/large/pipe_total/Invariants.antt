use Rattle.std.proofs.Common.{◌≡◌, ◌≤◌, ◌*◌, take}
use Rattle.std.specs.List.{sum_by}
use Rattle.qos_profile.specs.Large.{pipes_in}
use Rattle.qos_profile.proofs.large.pipe_total.Given as goal

abbrev pub invariant-loop-section : goal.invariant-loop-section
invariant-loop-section l = (l.total ≡ sum_by (λ s. pipes_in s.head s.facts) (take l.section-index l.sections)) × (l.total ≤ 4096 * l.section-index)
