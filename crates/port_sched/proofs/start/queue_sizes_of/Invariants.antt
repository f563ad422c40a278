use Rattle.std.proofs.Common.{◌≡◌, ℕ, ◌<◌, ◌≤◌, length, get_or}
use Rattle.port_sched.proofs.start.queue_sizes_of.Given as goal

abbrev pub invariant-loop-class : goal.invariant-loop-class
invariant-loop-class l = record {
  queues : length l.all ≡ 16;
  strict : (k : ℕ) → k < l.class → get_or l.all k 0 ≡ get_or l.sizes k 0;
  best_effort : (k : ℕ) → l.class ≤ k → k < 16 → get_or l.all k 0 ≡ get_or l.sizes 12 0;
}
