use Rattle.std.proofs.Common.{◌≡◌, ◌^◌, ◌<◌, length}
use Rattle.stage_ring.specs.Ends.{outlet_ring, parcels_put}
use Rattle.thread_tests.proofs.rings.put.Given as goal

abbrev pub invariant-loop : goal.invariant-loop
invariant-loop g l = record {
  ring : outlet_ring l.outlet ≡ outlet_ring l.fn.outlet;
  count : length (parcels_put l.outlet) ≡ length (parcels_put l.fn.outlet);
  room : length (parcels_put l.outlet) < 2 ^ 56;
}
