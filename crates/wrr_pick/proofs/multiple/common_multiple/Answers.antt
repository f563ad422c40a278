use Rattle.wrr_pick.proofs.Multiples.{multiple-of-four}
use Rattle.wrr_pick.proofs.multiple.common_multiple.Goals as goal

pub returns-clause-value : goal.returns-clause-value
returns-clause-value c =
    let a = c.multiple_of_both-multiple.ensures in
    let b = c.multiple_of_both-multiple-2.ensures in
    let n = c.multiple_of_both.ensures in
    multiple-of-four _ _ _ _ _ _ _ _ c.told-weights c.requires c.from-multiple.ensures c.from.ensures c.from-2.ensures c.from-3.ensures (record { first = a.first; second = a.second; least = a.least }) (record { first = b.first; second = b.second; least = b.least }) (record { first = n.first; second = n.second; least = n.least }) n.positive
