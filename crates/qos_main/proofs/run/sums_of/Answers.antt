use Rattle.std.proofs.Common.{ap, arith}
use Rattle.run_journal.specs.declared.ended.PortEnd.{PortEnd}
use Rattle.qos_main.specs.declared.run.Sums.{Sums}
use Rattle.qos_main.proofs.Accounts.{part-fits}
use Rattle.qos_main.proofs.run.sums_of.Goals as goal

pub overflow_add-sums : goal.overflow_add-sums
overflow_add-sums c =
    part-fits (λ (end : PortEnd). end.counts.sent) (λ end. omega arith) c.args.ports.now c.loop-port.port-index
    c.port-item.result c.loop-port-test.true c.port-item.is c.requires c.loop-port.sums.sent
    (ap (λ (s : Sums). s.sent) c.loop-port.invariant)

pub overflow_add-sums-in-loop-port : goal.overflow_add-sums-in-loop-port
overflow_add-sums-in-loop-port c =
    part-fits (λ (end : PortEnd). end.counts.left) (λ end. omega arith) c.args.ports.now c.loop-port.port-index
    c.port-item.result c.loop-port-test.true c.port-item.is c.requires c.loop-port.sums.left
    (ap (λ (s : Sums). s.left) c.loop-port.invariant)

pub overflow_add-sums-in-loop-port-2 : goal.overflow_add-sums-in-loop-port-2
overflow_add-sums-in-loop-port-2 c =
    part-fits (λ (end : PortEnd). end.counts.tailfull) (λ end. omega arith) c.args.ports.now c.loop-port.port-index
    c.port-item.result c.loop-port-test.true c.port-item.is c.requires c.loop-port.sums.tailfull
    (ap (λ (s : Sums). s.tailfull) c.loop-port.invariant)

pub overflow_add-sums-in-loop-port-3 : goal.overflow_add-sums-in-loop-port-3
overflow_add-sums-in-loop-port-3 c =
    part-fits (λ (end : PortEnd). end.counts.unwritten) (λ end. omega arith) c.args.ports.now c.loop-port.port-index
    c.port-item.result c.loop-port-test.true c.port-item.is c.requires c.loop-port.sums.unwritten
    (ap (λ (s : Sums). s.unwritten) c.loop-port.invariant)
