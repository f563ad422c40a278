use Rattle.std.proofs.Common.{◌∙◌, [], ◌∷◌, ◌++◌, sym, arith, subst, Err}
use Rattle.std.proofs.lemmas.Bool.{eqb-true}
use Rattle.profile_lines.specs.Lines.{line_of}
use Rattle.qos_profile.specs.Steps.{ReadsSections, lines_of}
use Rattle.qos_profile.proofs.Courses.{IsAt, at-start, at-next, at-stop, at-end, at-few}
use Rattle.qos_profile.proofs.reading.take_lines.Goals as goal

pub loop-rest-init : goal.loop-rest-init
loop-rest-init c = ([], subst (λ s. IsAt [] c.args.text.now c.args.text.now 0 s) (sym c.requires.none) (at-start c.args.text.now))

pub returns-in-Err-clause-fault : goal.returns-in-Err-clause-fault
returns-in-Err-clause-fault c =
    subst (λ e. ReadsSections (lines_of c.args.text.now) (Err e)) (sym c.error_of.ensures) (at-stop c.loop-rest.invariant.0 c.args.text.now c.loop-rest.rest.now c.split_line.result.0.now c.split_line.result.1.now c.loop-rest.number c.loop-rest.sections c.take_line.new.sections c.in-Err.stop c.loop-rest.invariant.1 c.split_line.ensures.lines c.in-Err.ensures)

pub loop-rest-preserved : goal.loop-rest-preserved
loop-rest-preserved c = (
  c.loop-rest.invariant.0 ++ line_of c.split_line.result.0.now ∷ [],
  at-next c.loop-rest.invariant.0 c.args.text.now c.loop-rest.rest.now c.split_line.result.0.now c.split_line.result.1.now c.loop-rest.number c.loop-rest.sections c.take_line.new.sections c.loop-rest.invariant.1 c.split_line.ensures.lines c.split_line.ensures.shorter c.in-Ok.ensures.0 c.in-Ok.ensures.1,
)

pub returns-clause-taken : goal.returns-clause-taken
returns-clause-taken c =
    at-end c.loop-rest.invariant.0 c.args.text.now c.loop-rest.rest.now c.loop-rest.number c.loop-rest.sections c.loop-rest.invariant.1 (eqb-true _ _ (sym c.is_empty.ensures ∙ c.loop-rest-test.false))

pub returns-clause-few : goal.returns-clause-few
returns-clause-few c =
    omega (arith, at-few c.loop-rest.invariant.0 c.args.text.now c.loop-rest.rest.now c.loop-rest.number c.loop-rest.sections c.loop-rest.invariant.1)
