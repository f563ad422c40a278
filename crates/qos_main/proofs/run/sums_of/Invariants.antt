use Rattle.std.proofs.Common.{◌≡◌, take}
use Rattle.qos_main.specs.Ended.{sums_over}
use Rattle.qos_main.proofs.run.sums_of.Given as goal

abbrev pub invariant-loop-port : goal.invariant-loop-port
invariant-loop-port l = l.sums ≡ sums_over (take l.port-index l.ports)
