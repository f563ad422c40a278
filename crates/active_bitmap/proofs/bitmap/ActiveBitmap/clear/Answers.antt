use Rattle.std.proofs.Common.{◌≡◌, ◌<◌, ◌/◌, length, take, set, true, false, sym, ap, subst, ◌∙◌}
use Rattle.active_bitmap.specs.Words.{has_set}
use Rattle.active_bitmap.proofs.LevelLemmas.{clear-sound-empty, clear-sound-left, shown-set}
use Rattle.active_bitmap.proofs.bitmap.ActiveBitmap.clear.Goals as goal

pub invariant_of-self : goal.invariant_of-self
invariant_of-self c =
    let f = c.self.inside in
    let within : c.args.bit < length (take f.size f.bits) = subst (λ bits. c.args.bit < length bits) (sym c.self.view_is) c.requires in
    let empty : has_set (set f.bits c.args.bit false) (c.args.bit / 64) ≡ false =
    ap (λ bits. has_set bits (c.args.bit / 64)) (sym c.clear.ensures.cleared) ∙ sym c.clear.ensures.left ∙ c.if-not-clear.true in
    rw (c.clear.ensures.cleared, c.clear-then-not-clear.ensures.cleared)
    (clear-sound-empty f.size f.bits f.summary c.self.invariant c.args.bit within empty)

pub invariant_of-self-else-not-clear : goal.invariant_of-self-else-not-clear
invariant_of-self-else-not-clear c =
    let f = c.self.inside in
    let within : c.args.bit < length (take f.size f.bits) = subst (λ bits. c.args.bit < length bits) (sym c.self.view_is) c.requires in
    let left : has_set (set f.bits c.args.bit false) (c.args.bit / 64) ≡ true =
    ap (λ bits. has_set bits (c.args.bit / 64)) (sym c.clear.ensures.cleared) ∙ sym c.clear.ensures.left ∙ c.if-not-clear.false in
    rw c.clear.ensures.cleared (clear-sound-left f.size f.bits f.summary c.self.invariant c.args.bit within left)

pub returns-then-not-clear : goal.returns-then-not-clear
returns-then-not-clear c =
    let f = c.self.inside in
    let within : c.args.bit < length (take f.size f.bits) = subst (λ bits. c.args.bit < length bits) (sym c.self.view_is) c.requires in
    ap (take f.size) c.clear.ensures.cleared ∙ shown-set f.size f.bits f.summary c.self.invariant c.args.bit false within ∙ ap (λ bits. set bits c.args.bit false) c.self.view_is

pub returns-else-not-clear : goal.returns-else-not-clear
returns-else-not-clear c =
    let f = c.self.inside in
    let within : c.args.bit < length (take f.size f.bits) = subst (λ bits. c.args.bit < length bits) (sym c.self.view_is) c.requires in
    ap (take f.size) c.clear.ensures.cleared ∙ shown-set f.size f.bits f.summary c.self.invariant c.args.bit false within ∙ ap (λ bits. set bits c.args.bit false) c.self.view_is
