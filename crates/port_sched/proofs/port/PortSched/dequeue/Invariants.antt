use Rattle.port_sched.specs.Stage.{stage, course_of, GoesTo}
use Rattle.port_sched.proofs.PortTurns.{HaveTurned}
use Rattle.port_sched.proofs.port.PortSched.dequeue.Given as goal

-- the subports so far have had their turn
abbrev pub invariant-loop-ahead : goal.invariant-loop-ahead
invariant-loop-ahead g l = record {
  so_far : HaveTurned g.T.Parcel.packet (course_of l.first (stage l.initial.self l.room l.initial.out)) l.initial.steps l.ahead
      (course_of l.first (stage l.self l.left l.out)) l.steps;
  goes : GoesTo l.first (stage l.initial.self l.room l.initial.out) (stage l.self l.left l.out);
}
