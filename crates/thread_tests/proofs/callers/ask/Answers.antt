use Rattle.std.proofs.Common.{◌≡◌, ℕ, ◌++◌, ◌∷◌, [], List, if◌then◌else◌, ap, sym, subst, ◌∙◌}
use Rattle.std.specs.Result.{is_ok}
use Rattle.meter_table.specs.declared.mark.Mark.{Mark}
use Rattle.meter_table.specs.declared.seat.MeterSeat.{MeterSeat}
use Rattle.meter_table.specs.Laws.{HasMarked}
use Rattle.meter_table.specs.Logs.{AreAllMarks}
use Rattle.meter_table.specs.Seats.{marks_by}
use Rattle.thread_tests.proofs.callers.ask.Goals as goal

pub returns-clause-its : goal.returns-clause-its
returns-clause-its g c =
    let m = c.mark-mark.ensures in
    let mark : Mark = c.mark-mark.result in
    let before : MeterSeat = c.args.caller.seat in
    let after : MeterSeat = c.mark-mark.new.seat in
    let number : mark.meter ≡ c.args.meter = ap (λ r. r.meter) m.asked in
    let Made : ℕ → Type 0 = λ meter. marks_by meter after ≡ marks_by meter before ++ mark ∷ [] in
    let has : HasMarked before after mark = record {
      made = subst Made (sym number) m.made;
      others = λ meter not. m.others meter (λ is. not (is ∙ sym number));
    } in
    let old : List Mark = c.args.caller.marks.items in
    let new : List Mark = old ++ mark ∷ [] in
    let items : c.push.new.self.items ≡ new = c.push.ensures.items ∙ ap (λ r. if is_ok r then new else old) c.expect.ensures in
    let Its : List Mark → Type 0 = λ l. AreAllMarks (after ∷ []) l in
    subst Its (sym items) (c.one_more_made.ensures before after mark old c.requires.its has)
