use Rattle.std.proofs.Common.{◌<◌, length, take, set, true, sym, ap, subst, ◌∙◌}
use Rattle.active_bitmap.proofs.LevelLemmas.{set-sound, shown-set}
use Rattle.active_bitmap.proofs.bitmap.ActiveBitmap.set.Goals as goal

pub invariant_of-self : goal.invariant_of-self
invariant_of-self c =
    let f = c.self.inside in
    let within : c.args.bit < length (take f.size f.bits) = subst (λ bits. c.args.bit < length bits) (sym c.self.view_is) c.requires in
    rw (c.set.ensures, c.set-2.ensures) (set-sound f.size f.bits f.summary c.self.invariant c.args.bit within)

pub returns : goal.returns
returns c =
    let f = c.self.inside in
    let within : c.args.bit < length (take f.size f.bits) = subst (λ bits. c.args.bit < length bits) (sym c.self.view_is) c.requires in
    ap (take f.size) c.set.ensures ∙ shown-set f.size f.bits f.summary c.self.invariant c.args.bit true within ∙ ap (λ bits. set bits c.args.bit true) c.self.view_is
