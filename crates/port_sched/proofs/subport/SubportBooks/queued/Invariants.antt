use Rattle.std.proofs.Common.{◌≡◌, ◌*◌, ◌^◌, ◌≤◌, length, take}
use Rattle.std.specs.List.{flat_map}
use Rattle.port_sched.specs.Port.{left_in}
use Rattle.port_sched.specs.Books.{pipe_of}
use Rattle.port_sched.proofs.subport.SubportBooks.queued.Given as goal

abbrev pub invariant-loop-pipe : goal.invariant-loop-pipe
invariant-loop-pipe g l = record {
  counted : l.total ≡ length (flat_map (λ p. left_in (pipe_of p)) (take l.pipe-index l.self.pipes.items));
  limit : l.total ≤ 2 ^ 36 * l.pipe-index;
}
