use Rattle.std.proofs.lemmas.List.{append-nil, append_assoc}
use Rattle.profile_print.specs.Text.{port_block}
use Rattle.profile_print.proofs.port.write_port.Goals as goal

pub returns : goal.returns
unfolding port_block
returns c =
    rw (c.in_ok-write_drain.ensures, c.in_ok-write_sizes.ensures, c.in_ok-number-2.ensures, c.in_ok-number.ensures, c.in_ok-head.ensures, c.as_slice.ensures)
    (simp (append_assoc, append-nil))
