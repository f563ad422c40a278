use Rattle.std.proofs.Common.{◌∙◌, ap, subst, arith}
use Rattle.crossbeam_queue.specs.Passes.{view}
use Rattle.mbuf_pool.specs.declared.pass.Slots.{Slots}
use Rattle.mbuf_pool.specs.FreeList.{Free}
use Rattle.mbuf_pool.proofs.Lists.{totals, drained}
use Rattle.mbuf_pool.proofs.free_list.drain.Goals as goal

pub len_as-count-requires-clause-rule : goal.len_as-count-requires-clause-rule
len_as-count-requires-clause-rule g c = totals _ _ c.requires.pass.1

pub learn_as-requires-clause-rule : goal.learn_as-requires-clause-rule
learn_as-requires-clause-rule g c = totals _ _ (ap (λ (v : Slots). v.parts) c.loop.invariant.took ∙ c.requires.pass.1)

pub returns : goal.returns
returns g c h =
    let held = c.len_as-count.ensures.rule.1 in
    let last = c.learn_as.ensures.rule in
    drained (view c.args.pass) held.0 last.0 c.loop.free.items held.2 (omega (arith, held.1)) (subst (λ v. Free v last.0) c.loop.invariant.took last.1) h
