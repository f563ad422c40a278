use Rattle.std.proofs.Common.{◌≡◌}
use Rattle.port_sched.specs.Classes.{best_effort_turn}
use Rattle.port_sched.specs.PortDequeue.{cost_with}
use Rattle.port_sched.specs.Standing.{standing, visit_at, IsOnward}
use Rattle.port_sched.proofs.serving.Serving.best_effort.Given as goal

-- what is left of the turn is to come
abbrev pub invariant-loop-self : goal.invariant-loop-self
invariant-loop-self g l = record {
  to_come : best_effort_turn (cost_with g.T.Parcel.packet l.initial.self.overhead) (visit_at (standing l.self l.level l.pipe l.out))
      ≡ best_effort_turn (cost_with g.T.Parcel.packet l.initial.self.overhead) (visit_at (standing l.initial.self l.initial.level l.initial.pipe l.initial.out));
  onward : IsOnward g.T.Parcel.packet (standing l.initial.self l.initial.level l.initial.pipe l.initial.out) (standing l.self l.level l.pipe l.out);
}

abbrev pub decreases-loop-self : goal.decreases-loop-self
decreases-loop-self g l = l.self.room
