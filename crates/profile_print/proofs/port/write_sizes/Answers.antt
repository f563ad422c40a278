use Rattle.std.proofs.lemmas.List.{append-nil, append_assoc}
use Rattle.profile_print.proofs.port.write_sizes.Goals as goal

pub returns : goal.returns
returns c =
    rw (c.in_ok-number-4.ensures, c.in_ok-number-3.ensures, c.in_ok-number-2.ensures, c.in_ok-number.ensures, c.from.ensures, c.from-2.ensures, c.from-3.ensures)
    (simp (append_assoc, append-nil))
