use Rattle.std.proofs.lemmas.List.{append_assoc}
use Rattle.profile_print.specs.Text.{subport_block}
use Rattle.profile_print.proofs.subport.write_subport.Goals as goal

pub returns : goal.returns
unfolding subport_block
returns c =
    rw (c.in_ok-write_queues.ensures, c.in_ok-number-2.ensures, c.in_ok-number.ensures, c.in_ok-head.ensures, c.from.ensures, c.as_slice-pipes.ensures)
    (simp append_assoc)
