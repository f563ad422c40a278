use Rattle.port_egress.proofs.Words.{◌∙◌, seen, target_by}
use Rattle.port_egress.proofs.Outputs.{record_text-send}
use Rattle.port_egress.proofs.send.put_send.Goals as goal

pub returns-clause-added : goal.returns-clause-added
returns-clause-added g c = λ body is.
    let text = record_text-send (target_by c.args.stamps.now body)
    (seen c.args.departure.now) c.of.result c.frame.result.now c.of.ensures (c.frame.ensures.value ∙ is) in
    rw text at c.put_record.ensures.added

pub returns-clause-refused : goal.returns-clause-refused
returns-clause-refused g c = λ body is.
    let text = record_text-send (target_by c.args.stamps.now body)
    (seen c.args.departure.now) c.of.result c.frame.result.now c.of.ensures (c.frame.ensures.value ∙ is) in
    rw text at c.put_record.ensures.refused
