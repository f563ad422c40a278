-- qos_profile/proofs/build/meter/name_in/Answers.antt
use Rattle.std.proofs.Common.{◌∙◌, sym, ap}
use Rattle.qos_profile.specs.Planned.{name_in}
use Rattle.qos_profile.proofs.build.meter.name_in.Goals as goal

pub returns-in-Ok : goal.returns-in-Ok
returns-in-Ok c =
    c.of.ensures ∙ c.in-Ok.ensures.items_if_clones_equal (λ x y h. h) ∙ c.front.ensures ∙ ap name_in (sym c.in-Meter.is)
