use Rattle.std.proofs.Common.{◌≡◌, length, All, arith, subst}
use Rattle.std.proofs.lemmas.List.{take_all}
use Rattle.std.proofs.lemmas.List.Elements.{All-more}
use Rattle.profile_plan.specs.declared.port.SubportPlan.{SubportPlan}
use Rattle.qos_profile.proofs.forms.subports.Goals as goal

abbrev HasAll : SubportPlan → Type 0
HasAll s = length s.sizes ≡ 13

pub loop-subport-preserved : goal.loop-subport-preserved
loop-subport-preserved c =
    let here = subst HasAll c.subport-item.is c.sizes.ensures in
    All-more HasAll c.args.subports.now c.loop-subport.subport-index _ (omega arith) c.loop-subport.invariant here

pub returns : goal.returns
returns c = subst (All HasAll) (take_all c.loop-subport.subport-index c.args.subports.now (omega arith)) c.loop-subport.invariant
