-- qos_profile/proofs/build/rule/rules/Invariants.antt
use Rattle.std.proofs.Common.{◌≡◌, map}
use Rattle.qos_profile.specs.declared.head.Head.TheVariants.{Rule}
use Rattle.qos_profile.specs.Lookups.{facts_at}
use Rattle.qos_profile.specs.Planned.{rule_of, numbers_there}
use Rattle.qos_profile.proofs.build.rule.rules.Given as goal

abbrev pub invariant-loop-number : goal.invariant-loop-number
invariant-loop-number l =
    l.rules.items ≡ map (λ n. rule_of l.sections n (facts_at l.sections (Rule n))) (numbers_there l.sections Rule l.number)
