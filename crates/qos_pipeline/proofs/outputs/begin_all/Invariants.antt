use Rattle.std.proofs.Common.{◌≡◌, length, drop}
use Rattle.std.specs.Vec.Iter.{into_iter_items, into_iter_len}
use Rattle.qos_pipeline.proofs.Begun.{BegunBelow}
use Rattle.qos_pipeline.proofs.outputs.begin_all.Given as goal

-- the outputs so far are begun, and the other sinks are yet to come
abbrev pub invariant-loop-egress : goal.invariant-loop-egress
invariant-loop-egress g l = record {
  begun : BegunBelow l.fn.outs.items l.fn.egresses.items l.egress-index l.egress-items;
  rest : into_iter_items l.sinks ≡ drop l.egress-index l.fn.outs.items;
  left : into_iter_len l.sinks ≡ length (into_iter_items l.sinks);
}
