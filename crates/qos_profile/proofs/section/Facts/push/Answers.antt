use Rattle.std.proofs.Common.{◌≡◌, ◌∙◌, ◌++◌, ◌∷◌, [], sym, ap, subst}
use Rattle.qos_profile.specs.Facts.{mode_of}
use Rattle.qos_profile.specs.Taken.{AreTaken, IsFree}
use Rattle.qos_profile.proofs.Agreeing.{mode-push}
use Rattle.qos_profile.proofs.Taken.{taken-more, taken-same}
use Rattle.qos_profile.proofs.section.Facts.push.Goals as goal

pub invariant_of-self-in-Ok : goal.invariant_of-self-in-Ok
invariant_of-self-in-Ok c =
    let items = c.self.inside.items.items in
    let more = c.put.ensures ∙ ap (λ fs. fs ++ c.args.fact ∷ []) c.reserve.ensures.items in
    let free = subst (λ fs. IsFree fs c.args.fact) (sym c.self.view_is) c.requires in
    (mode-push items c.put.new.list.items c.args.fact c.self.inside.mode c.or-mode.result c.self.invariant.0 c.or-mode.ensures more, subst (AreTaken c.insert.new.self) (sym more) (taken-more c.self.inside.taken c.insert.new.self items c.args.fact c.self.invariant.1 free c.in-Ok.ensures.updates.0))

pub invariant_of-self-in-Err : goal.invariant_of-self-in-Err
invariant_of-self-in-Err c =
    subst (λ fs. (c.self.inside.mode ≡ mode_of fs) × AreTaken c.insert.new.self fs) (sym c.reserve.ensures.items) (c.self.invariant.0, taken-same c.self.inside.taken c.insert.new.self c.self.inside.items.items c.self.invariant.1 c.in-Err.ensures.err)
