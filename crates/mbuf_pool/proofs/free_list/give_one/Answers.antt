use Rattle.mbuf_pool.proofs.Lists.{gives}
use Rattle.mbuf_pool.proofs.free_list.give_one.Goals as goal

pub try_push_as-requires-clause-rule : goal.try_push_as-requires-clause-rule
try_push_as-requires-clause-rule g c = gives _ _ _ _ c.loop.invariant.part c.loop.invariant.slot
