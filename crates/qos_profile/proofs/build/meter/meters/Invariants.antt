-- qos_profile/proofs/build/meter/meters/Invariants.antt
use Rattle.std.proofs.Common.{◌≡◌, ◌++◌, map, filter, drop}
use Rattle.qos_profile.specs.Planned.{is_meter, meter_of}
use Rattle.qos_profile.proofs.build.meter.meters.Given as goal

abbrev pub invariant-loop-section : goal.invariant-loop-section
invariant-loop-section l =
    l.meters.items ++ map (λ s. meter_of s.head s.facts) (filter (λ s. is_meter s.head) (drop l.section-index l.sections)) ≡ map (λ s. meter_of s.head s.facts) (filter (λ s. is_meter s.head) l.sections)
