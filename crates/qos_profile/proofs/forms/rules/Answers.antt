use Rattle.std.proofs.Common.{All, arith, subst}
use Rattle.std.proofs.lemmas.List.{take_all}
use Rattle.std.proofs.lemmas.List.Elements.{All-more}
use Rattle.qos_profile.specs.Forms.{HasAddresses}
use Rattle.qos_profile.proofs.forms.rules.Goals as goal

pub loop-rule-preserved : goal.loop-rule-preserved
loop-rule-preserved c =
    All-more HasAddresses c.args.rules.now c.loop-rule.rule-index _ (omega arith) c.loop-rule.invariant c.addresses.ensures

pub returns : goal.returns
returns c = subst (All HasAddresses) (take_all c.loop-rule.rule-index c.args.rules.now (omega arith)) c.loop-rule.invariant
