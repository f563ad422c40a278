-- qos_profile/proofs/build/kind/pipe_kinds/Answers.antt
use Rattle.std.proofs.Common.{sym, ap, ◌∙◌, arith, map, ◌≡◌}
use Rattle.qos_profile.specs.declared.head.Head.TheVariants.{PipeKind}
use Rattle.qos_profile.specs.Lookups.{is_there, facts_at}
use Rattle.qos_profile.specs.Planned.{pipe_kind_of, numbers_there}
use Rattle.qos_profile.proofs.Building.{made-push, made-skip}
use Rattle.qos_profile.proofs.build.kind.pipe_kinds.Goals.{then-is_there+in_ok-add, else-is_there}
use Rattle.qos_profile.proofs.build.kind.pipe_kinds.Goals as goal

pub loop-number-preserved : goal.loop-number-preserved
loop-number-preserved c =
    let ss = c.args.sections.now in
    elim c.if-is_there.branch [
      | then-is_there+in_ok-add w ↦ rw w.kinds-is (made-push (λ n. pipe_kind_of n (facts_at ss (PipeKind n))) (λ n. is_there ss (PipeKind n)) c.loop-number.number c.loop-number.kinds.items w.add.new.list.items w.pipe_kind.result c.loop-number.invariant (sym c.is_there.ensures ∙ w.if-is_there.true) w.pipe_kind.ensures w.in_ok-add.ensures.added)
      | else-is_there w ↦ rw w.kinds-is (made-skip (λ n. pipe_kind_of n (facts_at ss (PipeKind n))) (λ n. is_there ss (PipeKind n)) c.loop-number.number c.loop-number.kinds.items c.loop-number.invariant (sym c.is_there.ensures ∙ w.if-is_there.false))
    ]

pub returns : goal.returns
returns c =
    let ss = c.args.sections.now in
    c.of.ensures ∙ c.loop-number.invariant ∙ ap (λ k. map (λ n. pipe_kind_of n (facts_at ss (PipeKind n))) (numbers_there ss PipeKind k)) (let e : c.loop-number.number ≡ 256 = omega arith in e)
