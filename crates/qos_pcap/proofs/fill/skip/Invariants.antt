use Rattle.std.proofs.Common.{◌-◌, ◌≤◌}
use Rattle.qos_pcap.proofs.Filling.{Took}
use Rattle.qos_pcap.proofs.fill.skip.Given as goal

abbrev pub invariant-loop-done : goal.invariant-loop-done
invariant-loop-done g l = record {
  within : l.done ≤ l.count;
  took : Took g.S.Source.remaining g.S.Source.faults g.S.Source.IsSure l.initial.source l.source l.done;
}

abbrev pub decreases-loop-done : goal.decreases-loop-done
decreases-loop-done g l = l.count - l.done
