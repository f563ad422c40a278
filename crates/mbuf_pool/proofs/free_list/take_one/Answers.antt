use Rattle.mbuf_pool.proofs.Lists.{takes}
use Rattle.mbuf_pool.proofs.free_list.take_one.Goals as goal

pub try_pop_as-requires-clause-rule : goal.try_pop_as-requires-clause-rule
try_pop_as-requires-clause-rule g c = takes _ _ c.loop.invariant.part
