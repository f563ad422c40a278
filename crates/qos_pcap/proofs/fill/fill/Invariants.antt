use Rattle.std.proofs.Common.{length, ◌-◌, ◌≡◌, ◌≤◌, ℕ, List, Some, take, drop, ◌++◌}
use Rattle.qos_pcap.proofs.Filling.{Took}
use Rattle.qos_pcap.proofs.fill.fill.Given as goal

abbrev pub invariant-loop-filled : goal.invariant-loop-filled
invariant-loop-filled g l = record {
  within : l.filled ≤ length l.buf;
  took : Took g.S.Source.remaining g.S.Source.faults g.S.Source.IsSure l.initial.source l.source l.filled;
  front : (left : List ℕ) → g.S.Source.remaining l.initial.source ≡ Some left → l.buf ≡ take l.filled left ++ drop l.filled l.initial.buf;
}

abbrev pub decreases-loop-filled : goal.decreases-loop-filled
decreases-loop-filled g l = length l.initial.buf - l.filled
