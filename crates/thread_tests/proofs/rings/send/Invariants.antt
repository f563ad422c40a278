use Rattle.std.proofs.Common.{◌≡◌, length}
use Rattle.stage_ring.specs.Ends.{outlet_ring, parcels_put}
use Rattle.thread_tests.proofs.rings.send.Given as goal

abbrev pub invariant-loop-index : goal.invariant-loop-index
invariant-loop-index g l = record {
  ring : outlet_ring l.outlet ≡ outlet_ring l.fn.outlet;
  count : length (parcels_put l.outlet) ≡ l.index;
}
