-- qos_profile/proofs/outline/Outline/begin/Answers.antt
use Rattle.std.proofs.Common.{◌≡◌, ◌++◌, ◌∷◌, [], false, ap, subst, ◌∙◌, Ok}
use Rattle.qos_profile.specs.Lookups.{is_there}
use Rattle.qos_profile.specs.Known.{Notes}
use Rattle.qos_profile.proofs.Knowing.{new-head}
use Rattle.qos_profile.proofs.outline.Outline.begin.Goals as goal

pub returns-in-Ok-true : goal.returns-in-Ok-true
returns-in-Ok-true c =
    let head = c.args.head in
    let notes = subst (λ b. Notes c.self.inside.heads c.note.new.heads head (Ok b)) c.in-Ok-true.field-0-test c.in-Ok-true.ensures in
    let view = c.self.view_is in
    (subst (λ ss. is_there ss head ≡ false) view (new-head c.self.inside.heads c.note.new.heads c.self.inside.sections.items head c.self.invariant notes), c.put.ensures ∙ ap (λ ss. ss ++ record { line = c.args.line; head = head; facts = c.new-facts.result } ∷ []) (c.reserve.ensures.items ∙ view) ∙ ap (λ fs. c.args.self.now ++ record { line = c.args.line; head = head; facts = fs } ∷ []) c.new-facts.ensures)
