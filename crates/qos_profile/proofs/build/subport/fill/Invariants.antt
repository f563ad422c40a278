-- qos_profile/proofs/build/subport/fill/Invariants.antt
use Rattle.std.proofs.Common.{◌≤◌, max}
use Rattle.qos_profile.proofs.Building.{IsFilled}
use Rattle.qos_profile.proofs.build.subport.fill.Given as goal

abbrev pub invariant-loop-pipe : goal.invariant-loop-pipe
invariant-loop-pipe l = record {
  filled : IsFilled l.initial.pipes l.pipes l.first l.pipe l.kind;
  bound : l.pipe ≤ max l.first l.end;
}
