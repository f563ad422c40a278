use Rattle.std.proofs.Common.{◌∙◌, sym, ap}
use Rattle.std.specs.List.{list_any}
use Rattle.qos_profile.specs.Facts.{overlaps}
use Rattle.qos_profile.proofs.Taken.{last-of, of-group, of-other, none-below}
use Rattle.qos_profile.proofs.section.Facts.any_overlaps.Goals as goal

pub returns-then-slot-fact : goal.returns-then-slot-fact
returns-then-slot-fact c =
    let last = last-of c.self.inside.taken c.args.fact.now _ _ c.in-Some.slot.now c.in-Some.last.now (c.range.ensures.in_range tt) c.in-Some.ensures.steps in
    of-group c.self.inside.taken c.self.inside.items.items c.args.fact.now _ _ c.self.invariant.1 last c.if-slot-fact.true
    ∙ ap (list_any (overlaps c.args.fact.now)) c.self.view_is

pub returns-else-slot-fact : goal.returns-else-slot-fact
returns-else-slot-fact c =
    let last = last-of c.self.inside.taken c.args.fact.now _ _ c.in-Some.slot.now c.in-Some.last.now (c.range.ensures.in_range tt) c.in-Some.ensures.steps in
    of-other c.self.inside.taken c.self.inside.items.items c.args.fact.now _ _ c.self.invariant.1 last c.if-slot-fact.false
    ∙ ap (list_any (overlaps c.args.fact.now)) c.self.view_is

pub returns-in-None : goal.returns-in-None
returns-in-None c =
    sym (none-below c.self.inside.taken c.self.inside.items.items c.args.fact.now c.self.invariant.1 (λ q up. (c.range.ensures.in_range tt).5 c.in-None.ensures.steps.0 q (tt, up)))
    ∙ ap (list_any (overlaps c.args.fact.now)) c.self.view_is
