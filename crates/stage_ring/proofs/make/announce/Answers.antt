use Rattle.std.proofs.Common.{ap}
use Rattle.stage_ring.specs.declared.line.Known.{Known}
use Rattle.stage_ring.proofs.Rings.{counts}
use Rattle.stage_ring.proofs.make.announce.Goals as goal

pub another-requires-clause-rule : goal.another-requires-clause-rule
another-requires-clause-rule c =
    let knows = c.loop.invariant.knows in
    counts _ _ (ap (λ (v : Known). v.takes) knows) (ap (λ (v : Known). v.made) knows)
