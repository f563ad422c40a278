use Rattle.std.proofs.Common.{◌≡◌}
use Rattle.pkt_receive.specs.Marks.{IsMarking}
use Rattle.pkt_receive.specs.Receiver.{IsReading}
use Rattle.packet_tests.proofs.receive.receive_each.Given as goal

abbrev pub invariant-loop-index : goal.invariant-loop-index
invariant-loop-index g l = record {
  reading : IsReading g.S.Source l.rx;
  slots : l.slots.slot_bytes ≡ l.p.pool.slot_bytes;
  marking : IsMarking l.p l.rx.read l.marker;
}
