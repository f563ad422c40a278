-- qos_profile/proofs/build/port/subports/Answers.antt
use Rattle.std.proofs.Common.{ap, ◌∙◌}
use Rattle.qos_profile.specs.declared.head.Head.TheVariants.{Subport}
use Rattle.qos_profile.specs.Lookups.{facts_at}
use Rattle.qos_profile.specs.Planned.{subport_of}
use Rattle.qos_profile.proofs.Building.{each-push}
use Rattle.qos_profile.proofs.build.port.subports.Goals as goal

pub loop-number-preserved : goal.loop-number-preserved
loop-number-preserved c =
    each-push (λ n. subport_of (facts_at c.args.sections.now (Subport c.args.port n))) c.loop-number.number c.loop-number.subports.items c.add.new.list.items c.in_ok-next.next c.loop-number.invariant (c.in_ok-next.ensures ∙ ap subport_of c.facts_at.ensures) c.in_ok-add.ensures.added
