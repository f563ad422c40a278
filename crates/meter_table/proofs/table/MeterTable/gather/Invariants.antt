use Rattle.std.proofs.Common.{◌≡◌, ℕ, ◌≤◌, Some, length, slice_get, vec_len, vec_capacity}
use Rattle.color_meter.specs.Setting.{Setting}
use Rattle.meter_table.specs.declared.mark.MeterLog.{MeterLog}
use Rattle.meter_table.specs.Logs.{IsLogOf}
use Rattle.meter_table.specs.Seats.{settings_of}
use Rattle.meter_table.proofs.Ended.{IsWhole}
use Rattle.meter_table.proofs.table.MeterTable.gather.Given as goal

abbrev pub invariant-loop-n : goal.invariant-loop-n
invariant-loop-n g l = record {
  whole : IsWhole l.self l.fn.seats.items l.all;
  count : vec_len l.logs ≡ l.n;
  logs : (k : ℕ) (setting : Setting) (log : MeterLog) → slice_get (settings_of l.self) k ≡ Some setting → slice_get l.logs.items k ≡ Some log → IsLogOf k setting l.fn.seats.items log;
  room : length l.self.cells.items ≤ vec_capacity l.logs;
}
