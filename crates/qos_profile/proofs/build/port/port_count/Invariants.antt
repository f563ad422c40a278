-- qos_profile/proofs/build/port/port_count/Invariants.antt
use Rattle.std.proofs.Common.{◌≡◌, map, fold, max, drop}
use Rattle.qos_profile.specs.Missing.{ports_to}
use Rattle.qos_profile.proofs.build.port.port_count.Given as goal

abbrev pub invariant-loop-section : goal.invariant-loop-section
invariant-loop-section l =
    fold max l.count (map (λ s. ports_to s.head) (drop l.section-index l.sections)) ≡ fold max 0 (map (λ s. ports_to s.head) l.sections)
