-- qos_profile/proofs/outline/Outline/add_fact/Answers.antt
use Rattle.std.proofs.Common.{ap, ◌∙◌, ◌-◌, length}
use Rattle.std.proofs.lemmas.Result.{on_ok_weaker}
use Rattle.qos_profile.proofs.Knowing.{knows-set, pushes}
use Rattle.qos_profile.proofs.outline.Outline.add_fact.Goals as goal

pub invariant_of-self : goal.invariant_of-self
invariant_of-self c =
    knows-set c.self.inside.heads c.self.inside.sections.items _ c.index_mut-section.result.now c.push.new.self c.self.invariant c.index_mut-section.ensures.value

pub returns : goal.returns
returns c =
    on_ok_weaker c.push.result (pushes c.self.inside.sections.items c.args.self.now _ c.index_mut-section.result.now c.push.new.self c.args.fact c.self.view_is (ap (λ n. n - 1) c.len-place.ensures ∙ ap (λ n. n - 1) c.self.inside.sections.ok.0 ∙ ap (λ ss. length ss - 1) c.self.view_is) c.index_mut-section.ensures.value) c.push.ensures
