use Rattle.std.proofs.Common.{◌≡◌}
use Rattle.stage_ring.specs.Ends.{inlet_ring}
use Rattle.thread_tests.proofs.rings.receive.Given as goal

abbrev pub invariant-loop : goal.invariant-loop
invariant-loop g l = inlet_ring l.inlet ≡ inlet_ring l.fn.inlet
