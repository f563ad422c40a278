use Rattle.std.proofs.Common.{◌≡◌, ◌<◌, Some, length, slice_get, slice_set, arith, ap, sym, ◌∙◌}
use Rattle.std.proofs.lemmas.Option.{slice_get_within}
use Rattle.meter_table.proofs.Joined.{join_at, join_next}
use Rattle.meter_table.proofs.Passes.{APass, read, alike_at}
use Rattle.meter_table.proofs.Tables.{passes_count, pass_read, pass_meter, pass_knows}
use Rattle.meter_table.proofs.table.MeterTable.join.Goals as goal

pub join-requires : goal.join-requires
join-requires c =
    let t = c.args.self.now in
    let seat = c.loop-pass.seat in
    let other = c.args.other in
    let j = c.loop-pass.invariant in
    let n = c.len-n.result in
    let rest = c.pop.new.self.items in
    let p : APass = c.index_mut.result.now in
    let r : APass = c.in-Some.pass in
    let count : n ≡ length rest = omega (arith, c.len-n.ensures) in
    let at : slice_get other.passes.items n ≡ Some r = ap (λ k. slice_get other.passes.items k) count ∙ join_at t c.args.seat.now other seat c.loop-pass.passes.items rest r j c.in-Some.ensures.items in
    let short = slice_get_within other.passes.items n r at in
    let counts = passes_count t other c.requires.other in
    let within : n < length t.cells.items = omega arith in
    let pass = pass_read t seat j.has n p within c.index_mut.ensures.value in
    let cell = read t.cells.items n c.index.result.now within c.index.ensures in
    let known = pass_meter t seat j.has n p within pass in
    record {
      cell = alike_at (λ (q : APass). q.table_id) (λ x. x.table.shared.table_id) seat.passes.items t.cells.items n p c.index.result.now j.has.cells pass cell;
      other = alike_at (λ (q : APass). q.table_id) (λ x. x.table.shared.table_id) other.passes.items t.cells.items n r c.index.result.now c.requires.other.cells at cell;
      knows = (n, known.0.setting, known.2, pass_knows t other c.requires.other n known.0 r known.1 at);
    }

pub loop-pass-preserved : goal.loop-pass-preserved
loop-pass-preserved c =
    let t = c.args.self.now in
    let seat = c.loop-pass.seat in
    let other = c.args.other in
    let j = c.loop-pass.invariant in
    let rest = c.pop.new.self.items in
    let p : APass = c.index_mut.result.now in
    let r : APass = c.in-Some.pass in
    let n = c.len-n.result in
    let count : n ≡ length rest = omega (arith, c.len-n.ensures) in
    let at : slice_get other.passes.items n ≡ Some r = ap (λ k. slice_get other.passes.items k) count ∙ join_at t c.args.seat.now other seat c.loop-pass.passes.items rest r j c.in-Some.ensures.items in
    let short = slice_get_within other.passes.items n r at in
    let counts = passes_count t other c.requires.other in
    let pass = pass_read t seat j.has n p (omega arith) c.index_mut.ensures.value in
    join_next t c.args.seat.now other seat _ c.loop-pass.passes.items rest p c.join.new.pass r j c.in-Some.ensures.items
    (record {
      items = ap (λ k. slice_set seat.passes.items k c.join.new.pass) count;
      was = ap (λ k. slice_get seat.passes.items k) (sym count) ∙ pass;
      cell = c.join.ensures.cell;
    }) c.join.ensures.view
