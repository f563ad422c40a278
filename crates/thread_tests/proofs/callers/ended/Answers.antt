use Rattle.std.proofs.Common.{◌≡◌, ◌++◌, ◌∷◌, [], List, if◌then◌else◌, ap, sym, subst, ◌∙◌}
use Rattle.std.proofs.lemmas.Result.{IfOk-at_ok}
use Rattle.std.specs.Result.{is_ok}
use Rattle.meter_table.specs.declared.mark.Mark.{Mark}
use Rattle.meter_table.specs.declared.seat.MeterSeat.{MeterSeat}
use Rattle.meter_table.specs.Logs.{AreAllMarks}
use Rattle.thread_tests.proofs.callers.ended.Goals as goal

pub gather-requires-clause-marks : goal.gather-requires-clause-marks
gather-requires-clause-marks g c =
    let first : List Mark = c.args.first.marks.items in
    let second : List Mark = c.args.second.marks.items in
    let both = c.together_made.ensures (c.args.first.seat ∷ []) (c.args.second.seat ∷ []) first second c.requires.its.0 c.requires.its.1 in
    let pair : List MeterSeat = c.args.first.seat ∷ c.args.second.seat ∷ [] in
    let seats : c.expect-seats.result.items ≡ pair = IfOk-at_ok (λ v. v.items ≡ pair) c.expect-seats.ensures c.vec.ensures.items in
    let all : List Mark = first ++ second in
    let given : c.extend_from_slice.new.self.items ≡ all =
    c.extend_from_slice.ensures.items
    ∙ ap (λ r. if is_ok r then (first ++ c.as_slice.result.now) else first) c.expect.ensures
    ∙ ap (λ l. first ++ l) c.as_slice.ensures.value in
    let Of : List MeterSeat → Type 0 = λ l. AreAllMarks l all in
    let Are : List Mark → Type 0 = λ l. AreAllMarks c.expect-seats.result.items l in
    subst Are (sym given) (subst Of (sym seats) both)
