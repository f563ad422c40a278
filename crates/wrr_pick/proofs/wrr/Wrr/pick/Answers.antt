use Rattle.std.proofs.Common.{◌≡◌, ℕ, ◌-◌, ◌∙◌, arith}
use Rattle.wrr_pick.proofs.Picks.{IsWithin-lowered, lowered-filled}
use Rattle.wrr_pick.proofs.wrr.Wrr.pick.Goals as goal

pub invariant_of-self : goal.invariant_of-self
invariant_of-self c =
    let e = c.lower.ensures in
    rw e (IsWithin-lowered (record { factors = c.self.inside.factors; tokens = c.self.inside.tokens }) _ _ (omega arith) c.self.invariant)

pub returns-clause-ready : goal.returns-clause-ready
returns-clause-ready c =
    let e = c.lower.ensures in
    let nothing : (n : ℕ) → n - n ≡ 0 = λ (n : ℕ). omega arith in
    rw e (lowered-filled c.self.inside.tokens c.args.filled _ _ (omega arith) c.fewest-queue.ensures.filled ∙ nothing _)

pub returns-clause-within : goal.returns-clause-within
returns-clause-within c =
    let e = c.lower.ensures in
    rw e (IsWithin-lowered (record { factors = c.self.inside.factors; tokens = c.self.inside.tokens }) _ _ (omega arith) c.self.invariant)
