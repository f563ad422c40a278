use Rattle.port_egress.specs.Run.{Setup}
use Rattle.packet_tests.proofs.egress.begun.Goals as goal

pub begin-requires : goal.begin-requires
begin-requires g c =
    let new = rw c.expect-egress.ensures at c.new.ensures in
    let unbegun = new c.port-plan.result.now c.port-plan.ensures.value in
    record { unbegun = unbegun.sender }

pub returns : goal.returns
returns g c =
    let new = rw c.expect-egress.ensures at c.new.ensures in
    let unbegun = new c.port-plan.result.now c.port-plan.ensures.value in
    let setup : Setup = record { profile = c.args.p.now; plan = c.port-plan.result.now; origin = 100000000000 } in
    c.begin.ensures.ready setup unbegun
