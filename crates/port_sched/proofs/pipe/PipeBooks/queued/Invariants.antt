use Rattle.std.proofs.Common.{◌≡◌, ◌*◌, ◌^◌, ◌≤◌, length, take}
use Rattle.std.specs.List.{flat_map}
use Rattle.port_sched.proofs.pipe.PipeBooks.queued.Given as goal

abbrev pub invariant-loop-queue : goal.invariant-loop-queue
invariant-loop-queue g l = record {
  counted : l.total ≡ length (flat_map (λ ts. ts) (take l.queue l.self.queues.lists));
  limit : l.total ≤ 2 ^ 32 * l.queue;
}
