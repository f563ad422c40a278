-- qos_profile/proofs/checking/answer/Answers.antt
use Rattle.std.proofs.Common.{sym, ◌∙◌}
use Rattle.qos_profile.proofs.Answering.{clear-sound}
use Rattle.qos_profile.proofs.PlanLimits.{plan-limits, parts-fit}
use Rattle.qos_profile.proofs.checking.answer.Goals as goal

pub plan-requires-clause-limits : goal.plan-requires-clause-limits
plan-requires-clause-limits c =
    plan-limits c.args.sections.now (clear-sound c.args.sections.now c.requires.clear (sym c.fault_of_sections.ensures ∙ c.in-None.is))

pub plan-requires-clause-fits : goal.plan-requires-clause-fits
plan-requires-clause-fits c =
    parts-fit c.args.sections.now (clear-sound c.args.sections.now c.requires.clear (sym c.fault_of_sections.ensures ∙ c.in-None.is))
