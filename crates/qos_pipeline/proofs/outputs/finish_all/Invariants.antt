use Rattle.std.proofs.Common.{◌≡◌, ◌++◌, length, vec_capacity}
use Rattle.std.specs.Vec.Iter.{into_iter_items, into_iter_len}
use Rattle.qos_pipeline.specs.Outputs.{HaveEnded, faults_of, sinks_of}
use Rattle.qos_pipeline.specs.PortEnds.{journals}
use Rattle.qos_pipeline.specs.Ports.{journals_of}
use Rattle.qos_pipeline.proofs.outputs.finish_all.Given as goal

-- the egresses that came are ended
abbrev pub invariant-loop-egress : goal.invariant-loop-egress
invariant-loop-egress g l = record {
  parts : l.yielded ++ into_iter_items l.egress-iterator ≡ l.fn.egresses.items;
  left : into_iter_len l.egress-iterator ≡ length (into_iter_items l.egress-iterator);
  ended : HaveEnded l.yielded l.ends.items;
  journals : journals l.ends.items ≡ journals_of l.yielded;
  sinks : l.sinks.items ≡ sinks_of l.yielded;
  faults : l.faults.items ≡ faults_of l.yielded;
  end_room : vec_capacity l.ends ≡ vec_capacity l.fn.ends;
  sink_room : vec_capacity l.sinks ≡ vec_capacity l.fn.sinks;
  fault_room : vec_capacity l.faults ≡ vec_capacity l.fn.faults;
}
