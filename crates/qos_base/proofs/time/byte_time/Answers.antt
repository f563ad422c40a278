use Rattle.std.proofs.Common.{sym, arith}
use Rattle.qos_base.proofs.Scaling.{mul-div}
use Rattle.qos_base.proofs.time.byte_time.Goals as goal

pub returns : goal.returns
returns c = sym (mul-div c.args.ns c.args.line 1000000000 (omega arith))
