-- qos_profile/proofs/laws/plans_keep_their_limits/Answers.antt
use Rattle.qos_profile.specs.Sections.{sections_of}
use Rattle.qos_profile.proofs.Sound.{lines-sound}
use Rattle.qos_profile.proofs.PlanLimits.{plan-limits}
use Rattle.qos_profile.proofs.laws.plans_keep_their_limits.Goals as goal

pub returns : goal.returns
returns c = λ lines clear whole. plan-limits (sections_of 1 lines) (lines-sound lines clear whole)
