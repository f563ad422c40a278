use Rattle.std.proofs.Common.{◌≡◌, ◌-◌}
use Rattle.pkt_receive.specs.declared.limits.TheConstants.{MAX_RECORDS}
use Rattle.qos_pipeline.specs.Turns.{GoesOn}
use Rattle.qos_pipeline.proofs.ports.take_all.Given as goal

abbrev pub invariant-loop : goal.invariant-loop
invariant-loop g l = record {
  goes_on : GoesOn l.fn.p l.fn.input l.input l.fn.marker l.marker l.fn.egresses.items l.egresses.items;
  slots : l.slots.slot_bytes ≡ l.fn.p.pool.slot_bytes;
}

-- the records that may still be read
abbrev pub decreases-loop : goal.decreases-loop
decreases-loop g l = MAX_RECORDS - l.input.read
