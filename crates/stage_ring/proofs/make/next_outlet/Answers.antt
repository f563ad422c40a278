use Rattle.std.proofs.Common.{ap, arith}
use Rattle.stage_ring.specs.declared.line.Known.{Known}
use Rattle.stage_ring.proofs.Rings.{makes}
use Rattle.stage_ring.proofs.make.next_outlet.Goals as goal

pub another-made-requires-clause-rule : goal.another-made-requires-clause-rule
another-made-requires-clause-rule c =
    let knows = c.requires.next in
    let made = ap (λ (v : Known). v.made) knows in
    let senders = ap (λ (v : Known). v.senders) knows in
    makes _ _ (ap (λ (v : Known). v.takes) knows) (ap (λ (v : Known). v.sends) knows) (omega (arith, c.requires.more))
