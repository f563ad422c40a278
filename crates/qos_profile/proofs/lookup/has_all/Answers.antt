use Rattle.std.proofs.Common.{sym, ◌∙◌, arith}
use Rattle.qos_profile.specs.Lookups.{has}
use Rattle.qos_profile.proofs.Ranges.{all-below, one-fails}
use Rattle.qos_profile.proofs.lookup.has_all.Goals as goal

pub returns-then-not-has : goal.returns-then-not-has
returns-then-not-has c =
    sym (one-fails (has c.args.facts.now c.args.group) c.args.count c.loop-slot.slot c.loop-slot-test.true (sym c.has.ensures ∙ c.if-not-has.true))

pub returns : goal.returns
returns c = sym (all-below (has c.args.facts.now c.args.group) c.args.count (λ k below. c.loop-slot.invariant k (omega arith)))
