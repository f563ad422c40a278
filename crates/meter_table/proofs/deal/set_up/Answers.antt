use Rattle.std.proofs.Common.{◌≡◌, ◌+◌, ◌∷◌, [], ◌++◌, length, map, take, rules, arith, refl, ap, sym, ◌∙◌, subst}
use Rattle.std.proofs.lemmas.List.{map-append, take_all}
use Rattle.std.proofs.lemmas.List.Elements.{All-map, All-same}
use Rattle.color_meter.specs.Meter.{MeterState, full}
use Rattle.atomic_table.specs.Seated.{TableId}
use Rattle.crossbeam_utils.specs.Seq.{cell_view}
use Rattle.color_meter.specs.Setting.{Setting, setting_of}
use Rattle.profile_plan.specs.declared.meter.MeterPlan.{MeterPlan}
use Rattle.meter_table.specs.declared.rule.View.{View}
use Rattle.meter_table.specs.declared.seat.MeterSeat.{MeterSeat}
use Rattle.meter_table.specs.declared.table.MeterTable.{MeterTable}
use Rattle.meter_table.specs.Kept.{set_view}
use Rattle.meter_table.proofs.Dealt.{IsSet, alike_push, map_twice, take_next, set_push, set_parts, set_fresh}
use Rattle.meter_table.proofs.Passes.{APass, read}
use Rattle.meter_table.proofs.deal.set_up.Goals as goal

pub loop-i-preserved : goal.loop-i-preserved
loop-i-preserved g c =
    let was = c.loop-i.invariant in
    let plans = c.args.plans.now in
    let i = c.loop-i.i in
    let plan : MeterPlan = c.index-plans-i.result in
    let m : MeterState = c.new.result in
    let p : APass = c.in_ok-cell.pass in
    let began : MeterPlan → MeterState = λ x. full (setting_of x) in
    let next : take (i + 1) plans ≡ take i plans ++ plan ∷ [] = take_next plans i plan (read plans i plan (omega arith) c.index-plans-i.is) in
    let meters : c.loop-i.meters.items ++ m ∷ [] ≡ map began (take (i + 1) plans) =
    ap (λ l. l ++ m ∷ []) was.meters ∙ ap (λ x. map began (take i plans) ++ x ∷ []) c.new.ensures ∙ sym (map-append began (take i plans) (plan ∷ [])) ∙ ap (map began) (sym next) in
    let id_of : APass → TableId = λ x. x.table_id in
    let cells_now = c.push_reserved-in-loop-i.ensures.items in
    let passes_now = c.push_reserved-in-loop-i-2.ensures.items in
    let number : i ≡ length c.loop-i.meters.items = omega arith in
    let view : cell_view {V = View} p ≡ set_view (length c.loop-i.meters.items) m.setting = c.in_ok-cell.ensures.view ∙ ap (λ n. set_view n (setting_of plan)) number ∙ ap (λ (s : MeterState). set_view (length c.loop-i.meters.items) s.setting) (sym c.new.ensures) in
    record {
      meters = c.push_reserved.ensures.items ∙ meters;
      cells = ap (map id_of) passes_now ∙ alike_push id_of (λ x. x.table.shared.table_id) c.loop-i.passes.items c.loop-i.cells.items p c.in_ok-cell.cell was.cells c.in_ok-cell.ensures.cell ∙ ap (λ l. map (λ x. x.table.shared.table_id) l) (sym cells_now);
      set = subst (λ ms. IsSet ms c.push_reserved-in-loop-i-2.new.self.items) (sym c.push_reserved.ensures.items)
          (subst (λ ps. IsSet (c.loop-i.meters.items ++ m ∷ []) ps) (sym passes_now) (set_push c.loop-i.meters.items c.loop-i.passes.items m p (omega arith) was.set view));
      meter_count = search rules;
      cell_count = search rules;
      pass_count = search rules;
      meter_room = search rules;
      cell_room = search rules;
      pass_room = search rules;
    }

pub invariant_of-table : goal.invariant_of-table
invariant_of-table g c =
    let was = c.loop-i.invariant in
    let began : MeterPlan → MeterState = λ x. full (setting_of x) in
    let IsFull : MeterState → Type 0 = λ m. m ≡ full m.setting in
    record {
      few = omega (arith, was.meter_count);
      same = omega (arith, was.meter_count, was.cell_count);
      begins_full = All-same IsFull _ _ was.meters (All-map IsFull began (take c.loop-i.i c.args.plans.now) (λ k d lt. refl));
    }

pub returns : goal.returns
returns g c =
    let was = c.loop-i.invariant in
    let plans = c.args.plans.now in
    let setting : MeterState → Setting = λ m. m.setting in
    let began : MeterPlan → MeterState = λ x. full (setting_of x) in
    let IsFull : MeterState → Type 0 = λ m. m ≡ full m.setting in
    let end : take c.loop-i.i plans ≡ plans = take_all c.loop-i.i plans (omega arith) in
    let table : MeterTable = record {
      meters = c.loop-i.meters;
      cells = c.loop-i.cells;
      alloc = c.args.alloc;
      few = omega (arith, was.meter_count);
      same = omega (arith, was.meter_count, was.cell_count);
      begins_full = All-same IsFull _ _ was.meters (All-map IsFull began (take c.loop-i.i plans) (λ k d lt. refl));
    } in
    let seat : MeterSeat = record { passes = c.loop-i.passes } in
    record {
      settings = ap (map setting) was.meters ∙ map_twice setting began (take c.loop-i.i plans) ∙ ap (map setting_of) end;
      fresh = set_fresh _ seat was.cells was.set;
      parts = set_parts table seat was.cells was.set;
    }
