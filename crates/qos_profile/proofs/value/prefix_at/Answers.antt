use Rattle.std.proofs.Common.{◌∙◌}
use Rattle.qos_profile.proofs.Numbers.{prefix-parts}
use Rattle.qos_profile.proofs.value.prefix_at.Goals as goal

pub returns : goal.returns
returns c =
    c.prefix_from.ensures ∙ prefix-parts c.args.address.now c.args.bits.now _ _ _ _ _ _ c.cut.ensures.front c.cut.ensures.rest c.cut-2.ensures.front c.cut-2.ensures.rest c.cut-3.ensures.front c.cut-3.ensures.rest
