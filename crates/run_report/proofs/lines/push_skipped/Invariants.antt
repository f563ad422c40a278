use Rattle.std.proofs.Common.{◌≡◌, ◌++◌, drop}
use Rattle.std.specs.List.{flat_map}
use Rattle.run_report.specs.Report.{skipped_line}
use Rattle.run_report.proofs.lines.push_skipped.Given as goal

abbrev pub invariant-loop-line : goal.invariant-loop-line
invariant-loop-line l =
    l.text ++ flat_map skipped_line (drop l.line-index l.lines) ≡ l.initial.text ++ flat_map skipped_line l.lines
