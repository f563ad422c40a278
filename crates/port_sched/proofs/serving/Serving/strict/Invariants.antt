use Rattle.std.proofs.Common.{◌≡◌}
use Rattle.port_sched.specs.Classes.{strict_turn}
use Rattle.port_sched.specs.PortDequeue.{cost_with}
use Rattle.port_sched.specs.Standing.{standing, visit_at, IsOnward}
use Rattle.port_sched.proofs.serving.Serving.strict.Given as goal

-- what is left of the turn is to come
abbrev pub invariant-loop-self : goal.invariant-loop-self
invariant-loop-self g l = record {
  to_come : strict_turn (cost_with g.T.Parcel.packet l.initial.self.overhead) (visit_at (standing l.self l.level l.pipe l.out)) l.class
      ≡ strict_turn (cost_with g.T.Parcel.packet l.initial.self.overhead) (visit_at (standing l.initial.self l.initial.level l.initial.pipe l.initial.out)) l.class;
  onward : IsOnward g.T.Parcel.packet (standing l.initial.self l.initial.level l.initial.pipe l.initial.out) (standing l.self l.level l.pipe l.out);
}

abbrev pub decreases-loop-self : goal.decreases-loop-self
decreases-loop-self g l = l.self.room
