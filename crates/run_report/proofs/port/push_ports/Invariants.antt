use Rattle.std.proofs.Common.{◌≡◌, ◌++◌, drop}
use Rattle.run_report.specs.Line.{lines_from}
use Rattle.run_report.specs.Report.{port_lines}
use Rattle.run_report.proofs.port.push_ports.Given as goal

abbrev pub invariant-loop-n : goal.invariant-loop-n
invariant-loop-n l =
    l.text ++ lines_from (port_lines l.write_faults) l.n (drop l.n l.ports)
    ≡ l.initial.text ++ lines_from (port_lines l.write_faults) 0 l.ports
