use Rattle.std.proofs.Common.{◌≡◌, ◌++◌, drop}
use Rattle.std.specs.List.{flat_map}
use Rattle.run_report.specs.Report.{meter_line}
use Rattle.run_report.proofs.meter.push_meters.Given as goal

abbrev pub invariant-loop-log : goal.invariant-loop-log
invariant-loop-log l =
    l.text ++ flat_map (meter_line l.p) (drop l.log-index l.logs) ≡ l.initial.text ++ flat_map (meter_line l.p) l.logs
