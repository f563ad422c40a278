-- qos_profile/proofs/build/port/ports/Invariants.antt
use Rattle.std.proofs.Common.{◌≡◌, map}
use Rattle.std.specs.List.{range_with_len}
use Rattle.qos_profile.specs.declared.head.Head.TheVariants.{Port}
use Rattle.qos_profile.specs.Lookups.{facts_at}
use Rattle.qos_profile.specs.Planned.{port_of}
use Rattle.qos_profile.proofs.build.port.ports.Given as goal

abbrev pub invariant-loop-number : goal.invariant-loop-number
invariant-loop-number l =
    l.ports.items ≡ map (λ n. port_of l.sections n (facts_at l.sections (Port n))) (range_with_len 0 l.number)
