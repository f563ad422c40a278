-- The logs of the meters of a run.
use Rattle.std.specs.Prelude.{◌≡◌, ℕ, List, length, Some, slice_get}
use Rattle.color_meter.specs.Setting.{Setting}
use Rattle.meter_table.specs.declared.mark.Mark.{Mark}
use Rattle.meter_table.specs.declared.mark.MeterLog.{MeterLog}
use Rattle.meter_table.specs.declared.table.MeterTable.{MeterTable}
use Rattle.meter_table.specs.Log.{IsLegalLog}
use Rattle.meter_table.specs.Seats.{settings_of}
use Rattle.pkt_receive.specs.Colours.{marks_at}

-- the log of a meter of which these marks are all, in their order
pub record IsLogOf (meter : ℕ) (setting : Setting) (marks : List Mark) (log : MeterLog) : Type 0 where
  pub meter_is : log.meter ≡ meter
  pub legal : IsLegalLog meter setting log.marks
  pub marks_are : log.marks ≡ marks_at meter marks

-- the logs of a table's meters
pub record AreLogsOf (t : MeterTable) (marks : List Mark) (logs : List MeterLog) : Type 0 where
  pub count : length logs ≡ length (settings_of t)
  pub each : (meter : ℕ) (setting : Setting) (log : MeterLog) → slice_get (settings_of t) meter ≡ Some setting → slice_get logs meter ≡ Some log
      → IsLogOf meter setting marks log
