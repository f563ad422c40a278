use Rattle.std.proofs.Common.{rules, arith}
use Rattle.mbuf_pool.proofs.Counts.{raises}
use Rattle.mbuf_pool.proofs.count.raise.Goals as goal

pub fetch_add-requires : goal.fetch_add-requires
fetch_add-requires c = (search rules, omega arith, raises _ _ _ _ c.requires.slots c.requires.part c.requires.limit)
