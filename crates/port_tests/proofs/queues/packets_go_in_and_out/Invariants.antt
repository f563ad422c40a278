use Rattle.std.proofs.Common.{◌≡◌, length}
use Rattle.port_tests.proofs.queues.packets_go_in_and_out.Given as goal

abbrev pub invariant-loop-row : goal.invariant-loop-row
invariant-loop-row g l = length l.store.lists ≡ 4
