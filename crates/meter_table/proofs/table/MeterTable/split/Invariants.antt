use Rattle.std.proofs.Common.{◌≤◌, length, vec_capacity}
use Rattle.meter_table.proofs.Dealt.{Splitting}
use Rattle.meter_table.proofs.table.MeterTable.split.Given as goal

abbrev pub invariant-loop-i : goal.invariant-loop-i
invariant-loop-i l = record {
  split : Splitting l.self l.fn.seat l.seat l.i l.passes.items;
  room : length l.self.cells.items ≤ vec_capacity l.passes;
}
