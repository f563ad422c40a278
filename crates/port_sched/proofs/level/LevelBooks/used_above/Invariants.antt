use Rattle.std.proofs.Common.{◌≡◌, ◌≤◌, ◌*◌, ◌^◌, sum, map}
use Rattle.std.specs.List.{range_with_len}
use Rattle.port_sched.specs.Level.{used}
use Rattle.port_sched.specs.Books.{level_of}
use Rattle.port_sched.proofs.level.LevelBooks.used_above.Given as goal

abbrev pub invariant-loop-class : goal.invariant-loop-class
invariant-loop-class l = record {
  exact : l.total ≡ sum (map (λ class. used class (level_of l.self)) (range_with_len 0 l.class));
  limit : l.total ≤ 2 ^ 40 * l.class;
}
