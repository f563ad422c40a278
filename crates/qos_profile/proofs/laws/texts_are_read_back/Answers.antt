use Rattle.qos_profile.proofs.PlanParts.{plan-words}
use Rattle.qos_profile.proofs.ReadBack.{clear-text, same-plan}
use Rattle.qos_profile.proofs.laws.texts_are_read_back.Goals as goal

pub returns-clause-fault : goal.returns-clause-fault
returns-clause-fault c = λ p lim form.
    clear-text p lim form (c.lines_are_read_back.ensures p (plan-words p lim form))

pub returns-clause-profile : goal.returns-clause-profile
returns-clause-profile c = λ p lim form.
    same-plan p lim form (c.lines_are_read_back.ensures p (plan-words p lim form))
