use Rattle.std.proofs.Common.{◌≡◌}
use Rattle.stage_ring.specs.Ends.{outlet_ring}
use Rattle.thread_tests.proofs.rings.end.Given as goal

abbrev pub invariant-loop : goal.invariant-loop
invariant-loop g l = outlet_ring l.outlet ≡ outlet_ring l.fn.outlet
