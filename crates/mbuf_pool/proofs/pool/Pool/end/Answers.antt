use Rattle.std.proofs.Common.{◌≡◌, ◌∙◌, ap, arith}
use Rattle.std.proofs.lemmas.List.Sorted.{sum_by-IsPermutation}
use Rattle.mbuf_pool.specs.FreeList.{weigh, first_slots}
use Rattle.mbuf_pool.proofs.Counts.{ends}
use Rattle.mbuf_pool.proofs.pool.Pool.end.Goals as goal

pub returns-clause-bags : goal.returns-clause-bags
returns-clause-bags g c h =
    let all = c.join_all-all.ensures in
    let sorted = sum_by-IsPermutation h c.drain-free.result.items c.sort_unstable.new.self.items c.sort_unstable.ensures.permutation in
    let slots = ap (λ n. weigh h (first_slots n)) all.pass.slots in
    omega (arith, c.drain-free.ensures h, all.taken h, all.given h)

pub returns-clause-turned_away : goal.returns-clause-turned_away
returns-clause-turned_away g c k d lt met =
    let all = c.join_all-all.ensures in
    let last = c.close_with.ensures.values.2 in
    let pass = c.join_all-all.result in
    let parts : pass.seat.me.0.parts ≡ 48 = pass.same_parts ∙ all.parts ∙ c.requires.all in
    let lowered = ends _ last.0 _ _ last.1.0 last.1.1 parts (all.met_zero k d lt met) in
    let each = pass.one_lowering_each in
    omega (arith, c.args.self.counted, all.count)
