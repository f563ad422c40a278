use Rattle.port_egress.proofs.Words.{◌*◌, ◌+◌, ◌/◌, ◌^◌, arith}
use Rattle.port_egress.proofs.Guesses.{guess-least, guess-most, quotient}
use Rattle.port_egress.proofs.stamps.Stamps.nanoseconds.Goals as goal

pub overflow_sub-rest : goal.overflow_sub-rest
overflow_sub-rest c =
    let s = c.args.self.now in
    guess-least s.line s.scale c.args.bytes (omega arith) (omega arith) s.scaled c.requires

pub returns-then-rest-self : goal.returns-then-rest-self
returns-then-rest-self c =
    let s = c.args.self.now in
    let least = guess-least s.line s.scale c.args.bytes (omega arith) (omega arith) s.scaled c.requires in
    quotient (c.args.bytes * 1000000000) (c.args.bytes * s.scale / 2 ^ 34) s.line least (omega (arith, least))

pub returns-else-rest-self : goal.returns-else-rest-self
returns-else-rest-self c =
    let s = c.args.self.now in
    let least = guess-least s.line s.scale c.args.bytes (omega arith) (omega arith) s.scaled c.requires in
    let most = guess-most s.line s.scale c.args.bytes (omega arith) (omega arith) s.scaled c.requires in
    quotient (c.args.bytes * 1000000000) (c.args.bytes * s.scale / 2 ^ 34 + 1) s.line (omega (arith, least)) (omega (arith, least, most))
