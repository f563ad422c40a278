use Rattle.std.proofs.Common.{arith}
use Rattle.std.proofs.lemmas.Grind.{common_steps}
use Rattle.qos_base.proofs.Scaling.{mul-div}
use Rattle.qos_base.proofs.time.send_stamp.Goals as goal

pub returns : goal.returns
returns c =
    let parts = mul-div c.args.time 1000000000 c.args.line (omega arith) in
    grind (arith, common_steps, parts)
