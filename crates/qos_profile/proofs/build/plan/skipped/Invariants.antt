-- qos_profile/proofs/build/plan/skipped/Invariants.antt
use Rattle.std.proofs.Common.{◌≡◌, ◌++◌, map, filter, drop}
use Rattle.qos_profile.specs.Sections.{is_red}
use Rattle.qos_profile.proofs.build.plan.skipped.Given as goal

abbrev pub invariant-loop-section : goal.invariant-loop-section
invariant-loop-section l =
    l.lines.items ++ map (λ s. s.line) (filter (λ s. is_red s.head) (drop l.section-index l.sections)) ≡ map (λ s. s.line) (filter (λ s. is_red s.head) l.sections)
