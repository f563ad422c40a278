use Rattle.std.proofs.Common.{◌≡◌, ◌++◌, drop}
use Rattle.run_report.specs.Line.{lines_from}
use Rattle.run_report.specs.Report.{input_lines}
use Rattle.run_report.proofs.input.push_inputs.Given as goal

abbrev pub invariant-loop-n : goal.invariant-loop-n
invariant-loop-n l =
    l.text ++ lines_from input_lines l.n (drop l.n l.inputs) ≡ l.initial.text ++ lines_from input_lines 0 l.inputs
