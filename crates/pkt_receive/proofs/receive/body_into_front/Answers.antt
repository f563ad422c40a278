use Rattle.std.proofs.Common.{◌≡◌, ℕ, List, length, length-take, drop, arith}
use Rattle.std.proofs.lemmas.List.{take_at}
use Rattle.pkt_receive.proofs.receive.body_into_front.Goals as goal

pub returns-clause-body : goal.returns-clause-body
returns-clause-body g c =
    let body : List ℕ = c.body_into.new.buf in
    let long : length body ≡ c.args.cap = omega (arith, c.body_into.auto.buf, length-take c.args.cap c.args.slot.now, c.requires.fits) in
    rw (take_at body (drop c.args.cap c.args.slot.now) c.args.cap long) c.body_into.ensures.body
