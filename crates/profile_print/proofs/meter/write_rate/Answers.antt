use Rattle.std.proofs.lemmas.List.{append-nil, append_assoc}
use Rattle.profile_print.proofs.meter.write_rate.Goals as goal

pub returns-in_ok-number-in-Periods-2 : goal.returns-in_ok-number-in-Periods-2
returns-in_ok-number-in-Periods-2 c =
    rw (c.in_ok-number-in-Periods-2.ensures, c.in_ok-number-in-Periods.ensures, c.in-Periods.is)
    (simp (append_assoc, append-nil))
