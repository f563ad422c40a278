-- qos_profile/proofs/build/rule/rules/Answers.antt
use Rattle.std.proofs.Common.{sym, ap, ◌∙◌, arith, map, ◌≡◌}
use Rattle.qos_profile.specs.declared.head.Head.TheVariants.{Rule}
use Rattle.qos_profile.specs.Lookups.{is_there, facts_at}
use Rattle.qos_profile.specs.Planned.{rule_of, numbers_there}
use Rattle.qos_profile.proofs.Building.{made-push, made-skip}
use Rattle.qos_profile.proofs.build.rule.rules.Goals.{then-is_there+in_ok-add, else-is_there}
use Rattle.qos_profile.proofs.build.rule.rules.Goals as goal

pub loop-number-preserved : goal.loop-number-preserved
loop-number-preserved c =
    let ss = c.args.sections.now in
    elim c.if-is_there.branch [
      | then-is_there+in_ok-add w ↦ rw w.rules-is (made-push (λ n. rule_of ss n (facts_at ss (Rule n))) (λ n. is_there ss (Rule n)) c.loop-number.number c.loop-number.rules.items w.add.new.list.items w.rule.result c.loop-number.invariant (sym c.is_there.ensures ∙ w.if-is_there.true) w.rule.ensures w.in_ok-add.ensures.added)
      | else-is_there w ↦ rw w.rules-is (made-skip (λ n. rule_of ss n (facts_at ss (Rule n))) (λ n. is_there ss (Rule n)) c.loop-number.number c.loop-number.rules.items c.loop-number.invariant (sym c.is_there.ensures ∙ w.if-is_there.false))
    ]

pub returns : goal.returns
returns c =
    let ss = c.args.sections.now in
    c.of.ensures ∙ c.loop-number.invariant ∙ ap (λ k. map (λ n. rule_of ss n (facts_at ss (Rule n))) (numbers_there ss Rule k)) (let e : c.loop-number.number ≡ 256 = omega arith in e)
