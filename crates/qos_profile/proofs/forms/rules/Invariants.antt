use Rattle.std.proofs.Common.{take}
use Rattle.std.specs.List.{All}
use Rattle.qos_profile.specs.Forms.{HasAddresses}
use Rattle.qos_profile.proofs.forms.rules.Given as goal

abbrev pub invariant-loop-rule : goal.invariant-loop-rule
invariant-loop-rule l = All HasAddresses (take l.rule-index l.rules)
