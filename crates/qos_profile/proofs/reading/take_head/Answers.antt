-- qos_profile/proofs/reading/take_head/Answers.antt
use Rattle.std.proofs.Common.{◌∙◌, sym, ap, subst, cond, Some, None, Ok}
use Rattle.qos_profile.specs.declared.fault.FaultKind.TheVariants.{Twice}
use Rattle.qos_profile.specs.Sections.{fault_of_head}
use Rattle.qos_profile.specs.Known.{Begins, begun}
use Rattle.qos_profile.proofs.reading.take_head.Goals as goal

pub returns-in-Ok-false : goal.returns-in-Ok-false
returns-in-Ok-false c =
    let head = sym c.read_head.ensures ∙ c.in-Ok.is in
    let s = begun c.args.number c.in-Ok.head in
    let test = subst (λ b. Begins c.args.sections.now c.begin.new.self s (Ok b)) c.in-Ok-false.field-0-test c.in-Ok-false.ensures in
    ap (fault_of_head c.args.sections.now) head ∙ ap (λ t. cond t (Some Twice) None) test
