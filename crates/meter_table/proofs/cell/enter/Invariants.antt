use Rattle.std.proofs.Common.{◌≡◌}
use Rattle.crossbeam_utils.specs.Seq.{cell_view}
use Rattle.meter_table.specs.declared.rule.View.{View}
use Rattle.meter_table.proofs.cell.enter.Given as goal

abbrev pub invariant-loop : goal.invariant-loop
invariant-loop g l = record {
  cell : l.pass.table_id ≡ l.fn.pass.table_id;
  view : cell_view {V = View} l.pass ≡ cell_view l.fn.pass;
}
