-- qos_profile/proofs/build/kind/subport_kinds/Invariants.antt
use Rattle.std.proofs.Common.{◌≡◌}
use Rattle.std.proofs.Common.{map}
use Rattle.qos_profile.specs.declared.head.Head.TheVariants.{SubportKind}
use Rattle.qos_profile.specs.Lookups.{facts_at}
use Rattle.qos_profile.specs.Planned.{shaping_of, numbers_there}
use Rattle.qos_profile.proofs.build.kind.subport_kinds.Given as goal

abbrev pub invariant-loop-number : goal.invariant-loop-number
invariant-loop-number l =
    l.kinds.items ≡ map (λ n. (n, shaping_of (facts_at l.sections (SubportKind n)))) (numbers_there l.sections SubportKind l.number)
