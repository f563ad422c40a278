-- qos_profile/proofs/build/kind/pipe_kinds/Invariants.antt
use Rattle.std.proofs.Common.{◌≡◌, map}
use Rattle.qos_profile.specs.declared.head.Head.TheVariants.{PipeKind}
use Rattle.qos_profile.specs.Lookups.{facts_at}
use Rattle.qos_profile.specs.Planned.{pipe_kind_of, numbers_there}
use Rattle.qos_profile.proofs.build.kind.pipe_kinds.Given as goal

abbrev pub invariant-loop-number : goal.invariant-loop-number
invariant-loop-number l =
    l.kinds.items ≡ map (λ n. pipe_kind_of n (facts_at l.sections (PipeKind n))) (numbers_there l.sections PipeKind l.number)
