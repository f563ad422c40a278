use Rattle.mbuf_pool.proofs.Lists.{makes}
use Rattle.mbuf_pool.proofs.free_list.make.Goals as goal

pub try_push_as-requires-clause-rule : goal.try_push_as-requires-clause-rule
try_push_as-requires-clause-rule g c =
    let alone = c.loop.invariant.alone in
    makes _ _ _ _ alone.0 alone.1 alone.2 c.loop.invariant.next c.loop.invariant.bytes
