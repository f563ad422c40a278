use Rattle.std.proofs.Common.{◌≡◌, ◌∙◌, ◌++◌, ap, subst, inr, true}
use Rattle.crossbeam_queue.specs.Passes.{view}
use Rattle.stage_ring.specs.declared.line.Known.{Known}
use Rattle.stage_ring.specs.History.{history, of}
use Rattle.stage_ring.specs.Line.{with_met}
use Rattle.stage_ring.proofs.Histories.{whole_history}
use Rattle.stage_ring.proofs.Rings.{tells, hears, learns, meets}
use Rattle.stage_ring.proofs.laws.meet.Goals as goal

pub another-told-requires-clause-rule : goal.another-told-requires-clause-rule
another-told-requires-clause-rule g c = tells _ _

pub absorb-requires-clause-rule : goal.absorb-requires-clause-rule
absorb-requires-clause-rule g c = hears _ _ _ _ c.args.inlet.now.takes (ap (λ (v : Known). v.done) c.another-told.ensures.rule.1 ∙ c.args.sent.done)

pub learn_as-requires-clause-rule : goal.learn_as-requires-clause-rule
learn_as-requires-clause-rule g c = learns _ _ (inr (ap (λ (v : Known). v.takes) c.absorb.ensures.rule ∙ c.args.inlet.now.takes))

pub returns-clause-first_part : goal.returns-clause-first_part
returns-clause-first_part g c =
    let last = c.learn_as.ensures.rule in
    let knows = c.absorb.ensures.rule ∙ ap (with_met (view c.args.inlet.now.pass)) c.another-told.ensures.rule.1 in
    let met = meets (view c.args.inlet.now.pass) (view c.args.sent.pass) _ last.0 c.args.inlet.now.takes c.args.sent.done knows last.1 in
    (of c.args.sent.sender last.0, subst (λ k. of k (view c.args.inlet.now.pass).taken ++ of k last.0 ≡ history k (view c.args.sent.pass).parcels true) c.args.sent.numbered met.1)

pub returns-clause-whole : goal.returns-clause-whole
returns-clause-whole g c ended =
    let last = c.learn_as.ensures.rule in
    let knows = c.absorb.ensures.rule ∙ ap (with_met (view c.args.inlet.now.pass)) c.another-told.ensures.rule.1 in
    let met = meets (view c.args.inlet.now.pass) (view c.args.sent.pass) _ last.0 c.args.inlet.now.takes c.args.sent.done knows last.1 in
    let whole = whole_history _ (view c.args.sent.pass).parcels _ _ met.1 (ended _ met.0) in
    subst (λ k. of k (view c.args.inlet.now.pass).taken ≡ history k (view c.args.sent.pass).parcels true) c.args.sent.numbered whole
