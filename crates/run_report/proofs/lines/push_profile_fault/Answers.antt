use Rattle.std.proofs.lemmas.List.{append_assoc}
use Rattle.run_report.specs.Report.{profile_fault_line}
use Rattle.run_report.proofs.lines.push_profile_fault.Goals as goal

pub returns : goal.returns
unfolding profile_fault_line
returns c =
    rw (c.in_ok-push_pair.ensures, c.kind_number.ensures, c.from.ensures, append_assoc) at c.end_with_pairs.ensures
