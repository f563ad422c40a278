use Rattle.std.proofs.Common.{rules, arith}
use Rattle.mbuf_pool.proofs.Lists.{merges}
use Rattle.mbuf_pool.proofs.Counts.{joins}
use Rattle.mbuf_pool.proofs.pool.Pool.join.Goals as goal

pub absorb-requires-clause-rule : goal.absorb-requires-clause-rule
absorb-requires-clause-rule c = merges _ _ _ _ c.args.pass.now.has_a_part

pub join_seat-requires : goal.join_seat-requires
join_seat-requires c = (search rules, search rules, search rules, search rules, joins _ _ _ _ _ (omega arith))
