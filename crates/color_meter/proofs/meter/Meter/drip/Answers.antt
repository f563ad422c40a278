use Rattle.std.proofs.Common.{subst, sym, ap, ◌∙◌}
use Rattle.color_meter.specs.Kept.{state_of, IsKept}
use Rattle.color_meter.specs.Meter.{drip}
use Rattle.color_meter.proofs.Brought.{brought-parts, brought-state, brought-kept}
use Rattle.color_meter.proofs.meter.Meter.drip.Goals as goal

pub invariant_of-self : goal.invariant_of-self
invariant_of-self c =
    let cir = c.tick-committed.ensures in
    let other = c.tick-rest.ensures in
    let m = c.self.inside in
    let parts = brought-parts m c.args.at _ _ _ _ _ cir.exact other.exact cir.tokens other.tokens c.filled-self-inside.ensures in
    subst IsKept (sym parts) (brought-kept m c.args.at c.self.invariant c.if-at-self.false c.requires)

pub returns : goal.returns
returns c =
    let cir = c.tick-committed.ensures in
    let other = c.tick-rest.ensures in
    let m = c.self.inside in
    let parts = brought-parts m c.args.at _ _ _ _ _ cir.exact other.exact cir.tokens other.tokens c.filled-self-inside.ensures in
    ap state_of parts
    ∙ brought-state m c.args.at c.self.invariant c.if-at-self.false
    ∙ ap (λ m. drip c.args.at m) c.self.view_is
