use Rattle.std.proofs.Common.{All, arith, subst}
use Rattle.std.proofs.lemmas.List.{take_all}
use Rattle.std.proofs.lemmas.List.Elements.{All-more}
use Rattle.qos_profile.specs.Forms.{HasActions}
use Rattle.qos_profile.proofs.forms.meters.Goals as goal

pub loop-meter-preserved : goal.loop-meter-preserved
loop-meter-preserved c =
    let here = subst HasActions c.meter-item.is c.actions.ensures in
    All-more HasActions c.args.meters.now c.loop-meter.meter-index _ (omega arith) c.loop-meter.invariant here

pub returns : goal.returns
returns c = subst (All HasActions) (take_all c.loop-meter.meter-index c.args.meters.now (omega arith)) c.loop-meter.invariant
