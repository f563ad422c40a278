use Rattle.std.proofs.Common.{◌∙◌, sym, ap, subst, map}
use Rattle.std.specs.Option.{option_copied, IfSome}
use Rattle.qos_profile.specs.Taken.{IsFree}
use Rattle.qos_profile.proofs.Growing.{red-stays, red-fault, no-fault, pushed}
use Rattle.qos_profile.proofs.Free.{fact-free}
use Rattle.qos_profile.proofs.reading.take_entry.Goals as goal

pub returns-then-is_red : goal.returns-then-is_red
returns-then-is_red c =
    let last = sym (sym (ap option_copied c.in-Some.is) ∙ c.last.ensures) in
    let red = sym c.is_red.ensures ∙ c.if-is_red.true in
    (red-fault c.args.sections.now c.in-Some.section.now _ _ _ last red, red-stays c.args.sections.now c.in-Some.section.now _ _ _ last red)

pub returns-in-Ok-add_fact : goal.returns-in-Ok-add_fact
returns-in-Ok-add_fact c =
    let s = c.in-Some.section.now in
    let words = map (λ w. w.now) c.args.words.now in
    let value = map (λ w. w.now) c.args.value.now in
    let last = sym (sym (ap option_copied c.in-Some.is) ∙ c.last.ensures) in
    let red = sym c.is_red.ensures ∙ c.if-is_red.false in
    let given_fact = sym c.read_fact.ensures ∙ c.in-Ok.is in
    (no-fault c.args.sections.now s _ words value _ last red given_fact, pushed c.args.sections.now _ s _ words value _ last given_fact (c.in-Ok-add_fact.ensures s last))

pub add_fact-requires-clause-free : goal.add_fact-requires-clause-free
add_fact-requires-clause-free c =
    let s = c.in-Some.section.now in
    let words = map (λ w. w.now) c.args.words.now in
    let value = map (λ w. w.now) c.args.value.now in
    let last = sym (sym (ap option_copied c.in-Some.is) ∙ c.last.ensures) in
    let given_fact = sym c.read_fact.ensures ∙ c.in-Ok.is in
    subst (λ o. IfSome o (λ t. IsFree t.facts c.in-Ok.fact)) (sym last) (fact-free s.head s.facts _ words value _ given_fact)
