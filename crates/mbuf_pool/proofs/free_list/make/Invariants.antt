use Rattle.std.proofs.Common.{◌≡◌, ◌<◌, [], length}
use Rattle.crossbeam_queue.specs.Passes.{view, IsSamePass, IsPassOf}
use Rattle.mbuf_pool.proofs.free_list.make.Given as goal

abbrev pub invariant-loop : goal.invariant-loop
invariant-loop g l = record {
  own : IsPassOf l.list l.pass;
  same : IsSamePass l.fn.pass l.pass;
  knows : view l.pass ≡ view l.fn.pass;
  slot_is : l.m ≡ l.fn.m;
  alone : ((view l.pass).parts ≡ 48) × ((view l.pass).taken ≡ []) × ((view l.pass).given ≡ []);
  next : l.m.slot ≡ (view l.pass).slots;
  bytes : 0 < (view l.pass).slots → (view l.pass).bytes ≡ length l.m.bytes.items;
}
