use Rattle.std.proofs.Common.{arith}
use Rattle.profile_plan.proofs.Quotients.{divisor-positive, quotient-bounds, bytes_in-bound, bytes_in-some}
use Rattle.profile_plan.proofs.shaping.whole_at.Goals as goal

pub nonzero_div-result : goal.nonzero_div-result
nonzero_div-result c = divisor-positive _ _ c.requires.rates.tb_rate.0 c.gcd-divisor.ensures.divisor.0

pub nonzero_div-result-2 : goal.nonzero_div-result-2
nonzero_div-result-2 c = divisor-positive _ _ c.requires.rates.tb_rate.0 c.gcd-divisor.ensures.divisor.0

pub returns-clause-limits : goal.returns-clause-limits
returns-clause-limits c =
    let credits = quotient-bounds _ _ c.requires.rates.tb_rate.0 c.gcd-divisor.ensures.divisor.0 in
    let period = quotient-bounds _ _ (omega arith) c.gcd-divisor.ensures.divisor.1 in
    let ms = c.requires.rates.tc_period_ms in
    record {
      tb_credits = (credits.0, omega arith);
      tb_period = (period.0, omega arith);
      tb_size = c.requires.rates.tb_size;
      tc_credits = c.bytes_of_all.ensures.limits;
      tc_period = (bytes_in-some _ _ c.requires.line.0 ms.0, bytes_in-bound _ _ c.requires.line.1 ms.1);
    }
