use Rattle.std.proofs.Common.{◌≡◌, rules, arith, refl, ap, sym, ◌∙◌}
use Rattle.crossbeam_utils.specs.Seq.{cell_view}
use Rattle.meter_table.specs.declared.rule.View.{View}
use Rattle.meter_table.specs.declared.seat.MeterSeat.{MeterSeat}
use Rattle.meter_table.specs.Seats.{marks_by, parts_at}
use Rattle.meter_table.proofs.Dealt.{split_next, split_fresh, split_parts}
use Rattle.meter_table.proofs.Passes.{APass, read, alike_at, marks_is, parts_is, view_is}
use Rattle.meter_table.proofs.Tables.{pass_read, pass_meter}
use Rattle.meter_table.proofs.table.MeterTable.split.Goals as goal

pub split-requires : goal.split-requires
split-requires c =
    let t = c.args.self.now in
    let seat = c.loop-i.seat in
    let i = c.loop-i.i in
    let p : APass = c.index_mut.result.now in
    let s = c.loop-i.invariant.split in
    let pass = pass_read t seat s.has i p (omega arith) c.index_mut.ensures.value in
    let cell = read t.cells.items i c.index.result.now (omega arith) c.index.ensures in
    let known = pass_meter t seat s.has i p (omega arith) pass in
    let parts : parts_at i seat ≡ (cell_view {V = View} p).parts = parts_is i seat ∙ ap (λ (v : View). v.parts) (view_is i seat p pass) in
    let marks : marks_by i seat ≡ (cell_view {V = View} p).marks = marks_is i seat ∙ ap (λ (v : View). v.marks) (view_is i seat p pass) in
    let was = s.rest i (omega arith) in
    let more = c.requires.parts i (omega arith) in
    record {
      cell = alike_at (λ (q : APass). q.table_id) (λ x. x.table.shared.table_id) seat.passes.items t.cells.items i p c.index.result.now s.has.cells pass cell;
      knows = (i, known.0.setting, known.2);
      parts = omega arith;
      unused = sym marks ∙ s.none i;
    }

pub loop-i-preserved : goal.loop-i-preserved
loop-i-preserved c =
    let t = c.args.self.now in
    let seat = c.loop-i.seat in
    let i = c.loop-i.i in
    let p : APass = c.index_mut.result.now in
    let s = c.loop-i.invariant.split in
    let pass = pass_read t seat s.has i p (omega arith) c.index_mut.ensures.value in
    let known = pass_meter t seat s.has i p (omega arith) pass in
    let parts : parts_at i seat ≡ (cell_view {V = View} p).parts = parts_is i seat ∙ ap (λ (v : View). v.parts) (view_is i seat p pass) in
    let was = s.rest i (omega arith) in
    let more = c.requires.parts i (omega arith) in
    record {
      split = split_next t c.args.seat.now seat _ i c.loop-i.passes.items c.push_reserved.new.self.items known.0 p c.split.new.pass c.split.result s
          (record { items = refl; was = pass; cell = c.split.ensures.cell.0 }) known.1 (omega arith) c.split.ensures.kept c.split.ensures.given c.split.ensures.cell.1
          c.push_reserved.ensures.items;
      room = search rules;
    }

pub returns-clause-fresh : goal.returns-clause-fresh
returns-clause-fresh c =
    let after : MeterSeat = record { passes = c.loop-i.passes } in
    split_fresh c.args.self.now c.args.seat.now c.loop-i.seat after c.loop-i.i c.loop-i.invariant.split (omega arith)

pub returns-clause-parts : goal.returns-clause-parts
returns-clause-parts c =
    let after : MeterSeat = record { passes = c.loop-i.passes } in
    split_parts c.args.self.now c.args.seat.now c.loop-i.seat after c.loop-i.i c.loop-i.invariant.split (omega arith)
