use Rattle.port_egress.proofs.Words.{◌≡◌, None, IsSome, rules, seen}
use Rattle.port_egress.proofs.Senders.{send-whole, send-cut, send-not}
use Rattle.port_egress.proofs.send.Sender.send.Goals as goal

pub returns-then-is_some-clause-written : goal.returns-then-is_some-clause-written
returns-then-is_some-clause-written g c = λ body sends is written.
    let fails : IsSome c.args.self.now.fault = search rules in
    send-not g.K.Sink body sends (seen c.args.departure.now) c.args.self.now written fails

pub returns-in-Ok-clause-written : goal.returns-in-Ok-clause-written
returns-in-Ok-clause-written g c = λ body sends is written.
    let fine : c.args.self.now.fault ≡ None = search rules in
    send-whole g.K.Sink body sends (seen c.args.departure.now) c.args.self.now written c.in-Some.sink c.put_send.new.out c.in-Some.is
    fine (c.in-Ok.ensures.added body is)

pub returns-in-Err-clause-written : goal.returns-in-Err-clause-written
returns-in-Err-clause-written g c = λ body sends is written.
    let fine : c.args.self.now.fault ≡ None = search rules in
    send-cut g.K.Sink body sends (seen c.args.departure.now) c.args.self.now written c.in-Some.sink c.put_send.new.out c.in-Some.is fine
    c.in-Err.fault
    (c.in-Err.ensures.refused body is)
