use Rattle.std.proofs.Common.{◌≡◌}
use Rattle.std.specs.Prelude.{slice_get}
use Rattle.port_sched.specs.PortDequeue.{pipe_count}
use Rattle.port_sched.specs.Stage.{stage, course_of, GoesTo}
use Rattle.port_sched.proofs.PortTurns.{left_over, HaveVisited}
use Rattle.port_sched.proofs.port.PortSched.visits.Given as goal

-- what is left of the turn's visits goes on from here
abbrev pub invariant-loop-left : goal.invariant-loop-left
invariant-loop-left g l = record {
  so_far : HaveVisited g.T.Parcel.packet l.subport (pipe_count g.T.Parcel.packet (slice_get l.initial.self.subports l.subport))
      (course_of l.first (stage l.initial.self l.room l.initial.out)) l.initial.steps l.misses (course_of l.first (stage l.self l.left l.out)) l.steps;
  goes : GoesTo l.first (stage l.initial.self l.room l.initial.out) (stage l.self l.left l.out);
  pipes : pipe_count g.T.Parcel.packet (slice_get l.self.subports l.subport) ≡ pipe_count g.T.Parcel.packet
      (slice_get l.initial.self.subports l.subport);
}

abbrev pub decreases-loop-left : goal.decreases-loop-left
decreases-loop-left g l = left_over (pipe_count g.T.Parcel.packet (slice_get l.self.subports l.subport)) l.left l.misses
