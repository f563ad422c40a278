use Rattle.std.proofs.Common.{arith}
use Rattle.profile_plan.proofs.Quotients.{divisor-positive}
use Rattle.profile_plan.proofs.meter.MeterRate.periods.Goals as goal

pub nonzero_div-result : goal.nonzero_div-result
nonzero_div-result c = divisor-positive _ _ (omega arith) c.gcd-divisor.ensures.divisor.1

pub nonzero_div-result-in-PerSecond : goal.nonzero_div-result-in-PerSecond
nonzero_div-result-in-PerSecond c = divisor-positive _ _ (omega arith) c.gcd-divisor.ensures.divisor.1
