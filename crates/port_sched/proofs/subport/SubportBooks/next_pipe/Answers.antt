use Rattle.std.proofs.Common.{sym, ap, ◌∙◌}
use Rattle.active_bitmap.specs.NextActive.{next_active}
use Rattle.port_sched.proofs.Places.{knows-active}
use Rattle.port_sched.proofs.subport.SubportBooks.next_pipe.Goals as goal

pub returns-clause-next : goal.returns-clause-next
returns-clause-next g c = λ moment.
    let s = c.args.self.now in
    c.next_from.ensures.next ∙ ap (next_active s.cursor) (c.requires.active ∙ sym (knows-active moment s.pipes.items))
