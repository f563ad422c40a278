use Rattle.std.proofs.Common.{◌≡◌, drop, find, not}
use Rattle.std.specs.Option.{option_map}
use Rattle.qos_profile.specs.Across.{keeps_ranges}
use Rattle.qos_profile.proofs.across.across_line.Given as goal

abbrev pub invariant-loop-section : goal.invariant-loop-section
invariant-loop-section l =
    option_map (λ s. s.line) (find (λ s. not (keeps_ranges s.head s.facts)) (drop l.section-index l.sections)) ≡ option_map (λ s. s.line) (find (λ s. not (keeps_ranges s.head s.facts)) l.sections)
