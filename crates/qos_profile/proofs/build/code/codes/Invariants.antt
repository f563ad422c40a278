-- qos_profile/proofs/build/code/codes/Invariants.antt
use Rattle.qos_profile.proofs.Building.{IsCoded}
use Rattle.qos_profile.proofs.build.code.codes.Given as goal

abbrev pub invariant-loop-code : goal.invariant-loop-code
invariant-loop-code l = IsCoded l.facts l.table l.code
