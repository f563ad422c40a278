-- What a table and its seats have at the number of a meter.
use Rattle.std.proofs.Common.{◌≡◌, ℕ, ◌<◌, Some, length, get_or, slice_get, ap, sym, ◌∙◌, subst, arith}
use Rattle.std.specs.Option.{option_map}
use Rattle.std.proofs.lemmas.Option.{slice_get-map}
use Rattle.std.proofs.lemmas.List.{length-map}
use Rattle.crossbeam_utils.specs.Seq.{cell_view}
use Rattle.color_meter.specs.Meter.{MeterState}
use Rattle.meter_table.specs.declared.seat.MeterSeat.{MeterSeat}
use Rattle.meter_table.specs.declared.table.MeterTable.{MeterTable}
use Rattle.meter_table.specs.Kept.{Knows}
use Rattle.meter_table.specs.Seats.{settings_of, HasPasses}
use Rattle.meter_table.proofs.Passes.{APass, read, there, view_is}

-- a table has a setting for each of its meters, and a cell
pub count_is : (t : MeterTable) → length (settings_of t) ≡ length t.cells.items
count_is t = length-map t.meters.items (λ (m : MeterState). m.setting) ∙ sym t.same

pub setting_at : (t : MeterTable) (n : ℕ) (m : MeterState) → slice_get t.meters.items n ≡ Some m → slice_get (settings_of t) n ≡ Some m.setting
setting_at t n m at = slice_get-map (λ (s : MeterState). s.setting) t.meters.items n ∙ ap (option_map (λ (s : MeterState). s.setting)) at

module _ (t : MeterTable) (seat : MeterSeat) (has : HasPasses t seat) where
  -- a seat has as many passes as the table has cells
  pub passes_count : length seat.passes.items ≡ length t.cells.items
  passes_count =
      sym (length-map seat.passes.items (λ (p : APass). p.table_id)) ∙ ap length has.cells ∙ length-map t.cells.items (λ c. c.table.shared.table_id)

  -- a pass that was read by its meter's number
  pub pass_read : (n : ℕ) (p : APass) → n < length t.cells.items → p ≡ get_or seat.passes.items n p → slice_get seat.passes.items n ≡ Some p
  pass_read n p lt is = read seat.passes.items n p (let count = passes_count in omega arith) is

  pub pass_knows : (n : ℕ) (m : MeterState) (p : APass) → slice_get t.meters.items n ≡ Some m → slice_get seat.passes.items n ≡ Some p → Knows n m.setting (cell_view p)
  pass_knows n m p at at' = subst (Knows n m.setting) (view_is n seat p at') (has.knows n m.setting (setting_at t n m at))

  -- what it knows, where the meter isn't at hand
  pub pass_meter : (n : ℕ) (p : APass) → n < length t.cells.items → slice_get seat.passes.items n ≡ Some p → (m : MeterState) × (slice_get t.meters.items n ≡ Some m) × Knows n m.setting (cell_view p)
  pass_meter n p lt at = let m = there t.meters.items n (omega (arith, t.same)) in (m.0, m.1, pass_knows n m.0 p m.1 at)
