use Rattle.std.proofs.Common.{rules, arith, ◌<◌}
use Rattle.mbuf_pool.proofs.Counts.{looks, lowers, looks_parts}
use Rattle.mbuf_pool.proofs.count.lower.Goals as goal

pub load-found-requires : goal.load-found-requires
load-found-requires g c = (search rules, omega arith, looks _ _ _ _ c.loop.invariant.part)

pub compare_exchange-requires : goal.compare_exchange-requires
compare_exchange-requires g c =
    let part : 0 < c.load-found.new.seat.me.0.parts = looks_parts c.load-found.result c.loop.seat.me.0 c.loop.seat.me.1 c.load-found.new.seat.me c.load-found.ensures.2 c.loop.invariant.part in
    (search rules, omega arith, lowers _ _ _ _ _ (omega arith) part)
