-- qos_profile/proofs/checking/read_profile/Answers.antt
use Rattle.std.proofs.Common.{◌≡◌, sym, ap, ◌∙◌, Some, subst}
use Rattle.std.specs.Prelude.{IfOk}
use Rattle.qos_profile.specs.Steps.{lines_of}
use Rattle.qos_profile.specs.Faults.{fault_of_sections, Answers}
use Rattle.qos_profile.specs.Planned.{plan_of}
use Rattle.qos_profile.proofs.Answering.{text-long, error-answers, sections-answer, sections-plan}
use Rattle.qos_profile.proofs.checking.read_profile.Goals as goal

pub returns-then-text-gt-MAX_TEXT-clause-fault : goal.returns-then-text-gt-MAX_TEXT-clause-fault
returns-then-text-gt-MAX_TEXT-clause-fault c =
    text-long c.args.text.now c.if-text-gt-MAX_TEXT.true ∙ ap Some (sym c.with_total.ensures)

pub answer-said-requires-clause-clear : goal.answer-said-requires-clause-clear
answer-said-requires-clause-clear c =
    (lines_of c.args.text.now, c.in-Ok.ensures.sections.0, c.as_slice.ensures ∙ c.in-Ok.ensures.sections.1)

pub returns-in-Ok : goal.returns-in-Ok
returns-in-Ok c =
    let items = c.as_slice.ensures in
    record {
      fault = sections-answer c.args.text.now c.in-Ok.sections c.answer-said.result c.if-text-gt-MAX_TEXT.false c.in-Ok.ensures.sections (subst (λ s. Answers c.answer-said.result (fault_of_sections s)) items c.answer-said.ensures.fault);
      profile = sections-plan c.args.text.now c.in-Ok.sections c.answer-said.result c.in-Ok.ensures.sections (subst (λ s. IfOk c.answer-said.result (λ p. p ≡ plan_of s)) items c.answer-said.ensures.profile);
    }

pub returns-in-Err-clause-fault : goal.returns-in-Err-clause-fault
returns-in-Err-clause-fault c =
    error-answers (Unit {0}) c.args.text.now c.in-Err.error c.if-text-gt-MAX_TEXT.false c.in-Err.ensures.sections
