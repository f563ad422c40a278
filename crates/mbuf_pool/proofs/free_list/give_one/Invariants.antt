use Rattle.std.proofs.Common.{◌≡◌, ◌<◌}
use Rattle.crossbeam_queue.specs.Passes.{view, IsSamePass, IsPassOf}
use Rattle.mbuf_pool.specs.FreeList.{IsSlot}
use Rattle.mbuf_pool.proofs.free_list.give_one.Given as goal

abbrev pub invariant-loop : goal.invariant-loop
invariant-loop g l = record {
  own : IsPassOf l.list l.pass;
  same : IsSamePass l.fn.pass l.pass;
  knows : view l.pass ≡ view l.fn.pass;
  slot_is : l.m ≡ l.fn.m;
  part : 0 < (view l.pass).parts;
  slot : IsSlot (view l.pass).slots (view l.pass).bytes l.m;
}
