use Rattle.std.proofs.Common.{rules, arith, ap, ◌∙◌, length}
use Rattle.mbuf_pool.proofs.Lists.{forks}
use Rattle.mbuf_pool.proofs.Counts.{splits}
use Rattle.mbuf_pool.proofs.pool.Pool.split.Goals as goal

pub another-requires-clause-rule : goal.another-requires-clause-rule
another-requires-clause-rule c = forks _ _ c.requires.parts

pub split_seat-requires : goal.split_seat-requires
split_seat-requires c = (search rules, search rules, splits _ _ _ (omega arith) (c.args.pass.now.one_raising_each ∙ ap length c.requires.fresh.given))
