use Rattle.std.proofs.Common.{◌≡◌, ◌++◌, ◌≤◌, length, vec_capacity}
use Rattle.crossbeam_queue.specs.Passes.{view, IsPassOf}
use Rattle.mbuf_pool.specs.FreeList.{slots_of_pass}
use Rattle.mbuf_pool.proofs.free_list.drain.Given as goal

abbrev pub invariant-loop : goal.invariant-loop
invariant-loop g l = record {
  own : IsPassOf l.list l.pass;
  took : view l.pass ≡ slots_of_pass (view l.fn.pass).parts (view l.fn.pass).slots (view l.fn.pass).bytes ((view l.fn.pass).taken ++ l.free.items) (view l.fn.pass).given;
  count : length l.free.items ≡ l.counter;
  room : l.count ≤ vec_capacity l.free;
}
