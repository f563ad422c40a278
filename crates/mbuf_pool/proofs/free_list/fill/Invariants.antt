use Rattle.std.proofs.Common.{◌≡◌, [], cond, eqb}
use Rattle.crossbeam_queue.specs.Passes.{view, IsSamePass, IsPassOf}
use Rattle.mbuf_pool.specs.FreeList.{slots_of_pass}
use Rattle.mbuf_pool.proofs.free_list.fill.Given as goal

abbrev pub invariant-loop-slot : goal.invariant-loop-slot
invariant-loop-slot g l = record {
  own : IsPassOf l.list l.pass;
  same : IsSamePass l.fn.pass l.pass;
  made : view l.pass ≡ slots_of_pass 48 l.slot (cond (eqb l.slot 0) 0 l.bytes) [] [];
}
