use Rattle.qos_io.specs.contracts.mem_sink.MemSinkSink.TheImpl.{ghosts}
use Rattle.port_egress.specs.Egress.{IsReady}
use Rattle.packet_tests.proofs.egress.run.Given as goal

-- the next frame may arrive
abbrev pub invariant-loop-frame : goal.invariant-loop-frame
invariant-loop-frame g l = IsReady {G = ghosts} l.egress
