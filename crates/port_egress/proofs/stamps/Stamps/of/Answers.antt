use Rattle.port_egress.proofs.Words.{arith}
use Rattle.std.proofs.lemmas.Grind.{common_steps}
use Rattle.port_egress.proofs.Guesses.{mul-div}
use Rattle.port_egress.proofs.stamps.Stamps.of.Goals as goal

pub returns : goal.returns
returns c =
    let parts = mul-div c.args.time 1000000000 c.args.self.now.line (omega arith) in
    grind (arith, common_steps, parts)
