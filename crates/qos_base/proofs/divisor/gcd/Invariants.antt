use Rattle.std.proofs.Common.{ℕ}
use Rattle.std.specs.Int.{IsGcd}
use Rattle.qos_base.proofs.divisor.gcd.Given as goal

abbrev pub invariant-loop-divisor : goal.invariant-loop-divisor
invariant-loop-divisor l = (g : ℕ) → IsGcd l.divided l.divisor g → IsGcd l.fn.a l.fn.b g

abbrev pub decreases-loop-divisor : goal.decreases-loop-divisor
decreases-loop-divisor l = l.divisor
