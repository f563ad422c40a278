-- qos_profile/proofs/build/port/ports/Answers.antt
use Rattle.std.proofs.Common.{ap, ◌∙◌}
use Rattle.qos_profile.specs.declared.head.Head.TheVariants.{Port}
use Rattle.qos_profile.specs.Lookups.{facts_at}
use Rattle.qos_profile.specs.Planned.{port_of}
use Rattle.qos_profile.proofs.Building.{each-push}
use Rattle.qos_profile.proofs.build.port.ports.Goals as goal

pub loop-number-preserved : goal.loop-number-preserved
loop-number-preserved c =
    let ss = c.args.sections.now in
    each-push (λ n. port_of ss n (facts_at ss (Port n))) c.loop-number.number c.loop-number.ports.items c.add.new.list.items c.in_ok-next.next c.loop-number.invariant (c.in_ok-next.ensures ∙ ap (port_of ss c.loop-number.number) c.facts_at-facts.ensures) c.in_ok-add.ensures.added
