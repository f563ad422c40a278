use Rattle.std.proofs.Common.{◌++◌, ◌∷◌, [], ap, ◌∙◌, subst, sym}
use Rattle.meter_table.specs.Logs.{AreAllMarks}
use Rattle.qos_pipeline.proofs.Logged.{all-marks, logs-of, ok-so}
use Rattle.qos_pipeline.proofs.logs.gather_one.Goals as goal

pub gather-requires-clause-marks : goal.gather-requires-clause-marks
gather-requires-clause-marks g c =
    let seats = c.push_reserved.ensures.items ∙ ap (λ seats. seats ++ c.args.seat ∷ []) c.requires.room.0 in
    subst (λ seats. AreAllMarks seats c.args.marks.items) (sym seats) (all-marks c.args.seat c.args.marks.items c.requires.kept)

pub returns : goal.returns
returns g c =
    let seats = c.push_reserved.ensures.items ∙ ap (λ seats. seats ++ c.args.seat ∷ []) c.requires.room.0 in
    ok-so c.gather.result (rw seats at c.gather.ensures) (λ logs are.
    logs-of c.args.seat c.args.marks.items c.requires.kept c.one_seats_log.ensures c.args.table logs.items are)
