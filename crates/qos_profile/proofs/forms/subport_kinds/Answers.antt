use Rattle.std.proofs.Common.{All, arith, subst}
use Rattle.std.proofs.lemmas.List.{take_all}
use Rattle.std.proofs.lemmas.List.Elements.{All-more}
use Rattle.qos_profile.specs.Forms.{HasClasses}
use Rattle.qos_profile.proofs.forms.subport_kinds.Goals as goal

pub loop-kind-preserved : goal.loop-kind-preserved
loop-kind-preserved c =
    All-more (λ k. HasClasses k.1) c.args.kinds.now c.loop-kind.kind-index _ (omega arith) c.loop-kind.invariant c.shaping.ensures

pub returns : goal.returns
returns c = subst (All (λ k. HasClasses k.1)) (take_all c.loop-kind.kind-index c.args.kinds.now (omega arith)) c.loop-kind.invariant
