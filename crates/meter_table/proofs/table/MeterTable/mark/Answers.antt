use Rattle.std.proofs.Common.{◌≡◌, List, length, rules, arith, refl, ap, ◌∙◌}
use Rattle.crossbeam_utils.specs.Seq.{cell_view}
use Rattle.meter_table.specs.declared.mark.Mark.{Mark}
use Rattle.meter_table.specs.declared.rule.View.{View}
use Rattle.meter_table.specs.Seats.{marks_by}
use Rattle.meter_table.proofs.Passes.{APass, read, alike_at, marks_is, view_is, one_more}
use Rattle.meter_table.proofs.Tables.{count_is, passes_count, pass_knows}
use Rattle.meter_table.proofs.table.MeterTable.mark.Goals as goal

pub enter-requires : goal.enter-requires
enter-requires g c =
    let t = c.args.self.now in
    let seat = c.args.seat.now in
    let n = c.args.meter in
    let p : APass = c.index_mut.result.now in
    let has = c.requires.seat.passes in
    let count = count_is t in
    let passes = passes_count t seat has in
    let pass = read seat.passes.items n p (omega arith) c.index_mut.ensures.value in
    let cell = read t.cells.items n c.index.result.now (omega arith) c.index.ensures in
    let start = read t.meters.items n c.index-2.result.now (omega arith) c.index-2.ensures in
    let same : marks_by n seat ≡ (cell_view {V = View} p).marks = marks_is n seat ∙ ap (λ (v : View). v.marks) (view_is n seat p pass) in
    let lengths = ap (λ (l : List Mark). length l) same in
    record {
      cell = alike_at (λ (q : APass). q.table_id) (λ x. x.table.shared.table_id) seat.passes.items t.cells.items n p c.index.result.now has.cells pass cell;
      knows = pass_knows t seat has n c.index-2.result.now p start pass;
      start = search rules;
      at = c.requires.at;
      few = omega (arith, c.requires.few);
    }

pub returns : goal.returns
returns g c =
    let t = c.args.self.now in
    let seat = c.args.seat.now in
    let n = c.args.meter in
    let p : APass = c.index_mut.result.now in
    let count = count_is t in
    let passes = passes_count t seat c.requires.seat.passes in
    let more = one_more t seat _ n p c.enter.new.pass c.enter.result c.requires.seat
    (record { items = refl; was = read seat.passes.items n p (omega arith) c.index_mut.ensures.value; cell = c.enter.ensures.cell }) c.enter.ensures.view c.enter.ensures.turn in
    record {
      asked = c.enter.ensures.asked;
      seat = more.is_seat;
      parts = more.parts;
      made = more.made;
      others = more.rest;
      turn = more.turn;
    }
