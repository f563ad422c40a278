use Rattle.std.proofs.Common.{◌≡◌, drop, find, not}
use Rattle.std.specs.Option.{option_map}
use Rattle.qos_profile.specs.Missing.{is_complete}
use Rattle.qos_profile.proofs.missing.incomplete_line.Given as goal

abbrev pub invariant-loop-section : goal.invariant-loop-section
invariant-loop-section l =
    option_map (λ s. s.line) (find (λ s. not (is_complete s.head s.facts)) (drop l.section-index l.sections)) ≡ option_map (λ s. s.line) (find (λ s. not (is_complete s.head s.facts)) l.sections)
