use Rattle.std.proofs.Common.{◌≡◌, ◌+◌, ◌-◌, ◌*◌, ◌/◌, ap, arith}
use Rattle.std.proofs.Math.Nat.{div-eq_of_lt}
use Rattle.std.proofs.lemmas.Grind.{common_steps}
use Rattle.color_meter.specs.declared.clock.Clock.{Clock}
use Rattle.color_meter.proofs.clock.Clock.tick.Goals as goal

pub returns-then-ahead-self-clause-exact : goal.returns-then-ahead-self-clause-exact
returns-then-ahead-self-clause-exact c =
    let clock = c.args.self.now in
    let none = div-eq_of_lt c.if-ahead-self.true in
    let time : clock.time ≡ clock.time + (c.args.at - clock.time) / clock.period * clock.period = rw none (grind arith) in
    let same = ap (λ t. let x : Clock = record clock { time = t } in x) time in
    grind (arith, common_steps)
