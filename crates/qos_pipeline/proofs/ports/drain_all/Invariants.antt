use Rattle.qos_pipeline.proofs.Drained.{DrainedBelow}
use Rattle.qos_pipeline.proofs.ports.drain_all.Given as goal

-- the ports so far are drained
abbrev pub invariant-loop-egress : goal.invariant-loop-egress
invariant-loop-egress g l = DrainedBelow l.egress-index l.fn.egresses.items l.egress-items
