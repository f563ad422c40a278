use Rattle.std.proofs.Common.{◌≤◌}
use Rattle.port_tests.proofs.paced.run_all.Given as goal

abbrev pub invariant-loop-at : goal.invariant-loop-at
invariant-loop-at g l = l.run.pacer.aim ≤ l.run.pacer.clock
