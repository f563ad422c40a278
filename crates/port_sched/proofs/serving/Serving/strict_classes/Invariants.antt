use Rattle.std.proofs.Common.{◌≡◌}
use Rattle.std.specs.List.{fold, range_with_len}
use Rattle.port_sched.specs.Classes.{strict_turn}
use Rattle.port_sched.specs.PortDequeue.{cost_with}
use Rattle.port_sched.specs.Standing.{standing, visit_at, IsOnward}
use Rattle.port_sched.proofs.serving.Serving.strict_classes.Given as goal

-- the classes below this one have sent
abbrev pub invariant-loop-class : goal.invariant-loop-class
invariant-loop-class g l = record {
  so_far : visit_at (standing l.self l.level l.pipe l.out)
      ≡ fold (strict_turn (cost_with g.T.Parcel.packet l.initial.self.overhead)) (visit_at (standing l.initial.self l.initial.level l.initial.pipe l.initial.out)) (range_with_len 0 l.class);
  onward : IsOnward g.T.Parcel.packet (standing l.initial.self l.initial.level l.initial.pipe l.initial.out) (standing l.self l.level l.pipe l.out);
}
