use Rattle.std.proofs.Common.{◌≡◌, ◌≤◌, length, map, take, vec_len, vec_capacity}
use Rattle.color_meter.specs.Meter.{full}
use Rattle.color_meter.specs.Setting.{setting_of}
use Rattle.meter_table.proofs.Dealt.{IsSet}
use Rattle.meter_table.proofs.deal.set_up.Given as goal

abbrev pub invariant-loop-i : goal.invariant-loop-i
invariant-loop-i g l = record {
  meters : l.meters.items ≡ map (λ plan. full (setting_of plan)) (take l.i l.plans);
  cells : map (λ pass. pass.table_id) l.passes.items ≡ map (λ cell. cell.table.shared.table_id) l.cells.items;
  set : IsSet l.meters.items l.passes.items;
  meter_count : vec_len l.meters ≡ l.i;
  cell_count : vec_len l.cells ≡ l.i;
  pass_count : vec_len l.passes ≡ l.i;
  meter_room : length l.plans ≤ vec_capacity l.meters;
  cell_room : length l.plans ≤ vec_capacity l.cells;
  pass_room : length l.plans ≤ vec_capacity l.passes;
}
