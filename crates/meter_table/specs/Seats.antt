-- What contracts see of a table and of its seats.
use Rattle.std.specs.Prelude.{◌≡◌, ◌<◌, ℕ, List, [], length, map, Some, slice_get, All}
use Rattle.std.specs.List.{sum_by}
use Rattle.std.specs.List.Sorted.{IsStrictlyIncreasing}
use Rattle.std.specs.Option.{option_map_or}
use Rattle.crossbeam_utils.specs.Seq.{cell_view}
use Rattle.color_meter.specs.Setting.{Setting}
use Rattle.meter_table.specs.declared.mark.Mark.{Mark}
use Rattle.meter_table.specs.declared.rule.View.{View}
use Rattle.meter_table.specs.Kept.{Knows, spent}
use Rattle.meter_table.specs.declared.seat.MeterSeat.{MeterSeat}
use Rattle.meter_table.specs.declared.table.MeterTable.{MeterTable}

-- what each meter of a table is set to, by number
abbrev pub settings_of : MeterTable → List Setting
settings_of t = map (λ m. m.setting) t.meters.items

-- the marks that a seat made by a meter, oldest first
abbrev pub marks_by : ℕ → MeterSeat → List Mark
marks_by meter seat = option_map_or (λ pass. (cell_view {V = View} pass).marks) (slice_get seat.passes.items meter) []

-- a seat's parts of a meter's cell
abbrev pub parts_at : ℕ → MeterSeat → ℕ
parts_at meter seat = option_map_or (λ pass. (cell_view {V = View} pass).parts) (slice_get seat.passes.items meter) 0

-- what a seat knows of a meter
abbrev pub view_at : ℕ → MeterSeat → View
view_at meter seat = option_map_or (λ pass. cell_view {V = View} pass) (slice_get seat.passes.items meter) spent

-- a seat has a pass for the cell of each meter, and knows what each is set to
pub record HasPasses (t : MeterTable) (seat : MeterSeat) : Type 0 where
  pub cells : map (λ pass. pass.table_id) seat.passes.items ≡ map (λ cell. cell.table.shared.table_id) t.cells.items
  pub knows : (meter : ℕ) (setting : Setting) → slice_get (settings_of t) meter ≡ Some setting → Knows meter setting (view_at meter seat)

-- a seat of this table: it has a pass for the cell of each meter, and the turns of its marks of a meter rise
pub record IsSeatOf (t : MeterTable) (seat : MeterSeat) : Type 0 where
  pub passes : HasPasses t seat
  pub order : (meter : ℕ) → IsStrictlyIncreasing (map (λ mark. mark.turn) (marks_by meter seat))

-- a seat of this table that has made no mark
pub record IsFresh (t : MeterTable) (seat : MeterSeat) : Type 0 where
  pub seat_is : IsSeatOf t seat
  pub none : (meter : ℕ) → marks_by meter seat ≡ []

-- a seat has so many parts of each cell
abbrev pub HasParts : MeterTable → ℕ → MeterSeat → Type 0
HasParts t parts seat = (meter : ℕ) → meter < length t.cells.items → parts_at meter seat ≡ parts

-- these are all seats of a table: all parts of each cell are theirs
pub record AreAllSeats (t : MeterTable) (seats : List MeterSeat) : Type 0 where
  pub each : All (IsSeatOf t) seats
  pub parts : (meter : ℕ) → meter < length t.cells.items → sum_by (parts_at meter) seats ≡ 48
