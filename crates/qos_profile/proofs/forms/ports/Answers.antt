use Rattle.std.proofs.Common.{◌≡◌, length, All, arith, subst}
use Rattle.std.proofs.lemmas.List.{take_all}
use Rattle.std.proofs.lemmas.List.Elements.{All-more}
use Rattle.qos_profile.specs.Forms.{HasSizes}
use Rattle.qos_profile.proofs.forms.ports.Goals as goal

pub loop-port-preserved : goal.loop-port-preserved
loop-port-preserved c =
    let here = subst (All (λ s. length s.sizes ≡ 13)) c.as_slice.ensures c.subports.ensures in
    All-more HasSizes c.args.ports.now c.loop-port.port-index _ (omega arith) c.loop-port.invariant (subst HasSizes c.port-item.is here)

pub returns : goal.returns
returns c = subst (All HasSizes) (take_all c.loop-port.port-index c.args.ports.now (omega arith)) c.loop-port.invariant
