use Rattle.std.proofs.Common.{◌≡◌}
use Rattle.crossbeam_queue.specs.Passes.{view, IsSamePass, IsPassOf}
use Rattle.stage_ring.specs.Line.{inlet_of}
use Rattle.stage_ring.proofs.make.announce.Given as goal

abbrev pub invariant-loop : goal.invariant-loop
invariant-loop l = record {
  own : IsPassOf l.line l.pass;
  same : IsSamePass l.fn.pass l.pass;
  knows : view l.pass ≡ inlet_of l.counter 0;
}
