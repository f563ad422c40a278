use Rattle.std.proofs.Common.{sym, arith}
use Rattle.std.proofs.lemmas.Nat.Gcd.{IsGcd-from_mod, IsGcd-from_zero}
use Rattle.qos_base.proofs.Divisors.{gcd_of-is}
use Rattle.qos_base.proofs.divisor.gcd.Goals as goal

pub loop-divisor-preserved : goal.loop-divisor-preserved
loop-divisor-preserved c = λ g h. c.loop-divisor.invariant g (IsGcd-from_mod _ _ g h)

pub returns-clause-value : goal.returns-clause-value
returns-clause-value c =
    sym (gcd_of-is _ _ _ (c.loop-divisor.invariant _ (IsGcd-from_zero _ _ (omega arith))))

pub returns-clause-divisor : goal.returns-clause-divisor
returns-clause-divisor c = c.loop-divisor.invariant _ (IsGcd-from_zero _ _ (omega arith))
