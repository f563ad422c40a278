-- qos_profile/proofs/build/kind/subport_kinds/Answers.antt
use Rattle.std.proofs.Common.{sym, ap, ◌∙◌, arith, map, ◌≡◌}
use Rattle.qos_profile.specs.declared.head.Head.TheVariants.{SubportKind}
use Rattle.qos_profile.specs.Lookups.{is_there, facts_at}
use Rattle.qos_profile.specs.Planned.{shaping_of, numbers_there}
use Rattle.qos_profile.proofs.Building.{made-push, made-skip}
use Rattle.qos_profile.proofs.build.kind.subport_kinds.Goals.{then-is_there+in_ok-add, else-is_there}
use Rattle.qos_profile.proofs.build.kind.subport_kinds.Goals as goal

pub loop-number-preserved : goal.loop-number-preserved
loop-number-preserved c =
    let ss = c.args.sections.now in
    elim c.if-is_there.branch [
      | then-is_there+in_ok-add w ↦ rw w.kinds-is (made-push (λ n. (n, shaping_of (facts_at ss (SubportKind n)))) (λ n. is_there ss (SubportKind n)) c.loop-number.number c.loop-number.kinds.items w.add.new.list.items w.subport_kind.result c.loop-number.invariant (sym c.is_there.ensures ∙ w.if-is_there.true) w.subport_kind.ensures w.in_ok-add.ensures.added)
      | else-is_there w ↦ rw w.kinds-is (made-skip (λ n. (n, shaping_of (facts_at ss (SubportKind n)))) (λ n. is_there ss (SubportKind n)) c.loop-number.number c.loop-number.kinds.items c.loop-number.invariant (sym c.is_there.ensures ∙ w.if-is_there.false))
    ]

pub returns : goal.returns
returns c =
    let ss = c.args.sections.now in
    c.of.ensures ∙ c.loop-number.invariant ∙ ap (λ k. map (λ n. (n, shaping_of (facts_at ss (SubportKind n)))) (numbers_there ss SubportKind k)) (let e : c.loop-number.number ≡ 64 = omega arith in e)
