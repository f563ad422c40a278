use Rattle.std.proofs.Common.{◌+◌, ◌++◌, ◌∷◌, [], Vec, Global, map, filter, drop, sym, ap, ◌∙◌}
use Rattle.profile_plan.specs.declared.meter.MeterPlan.{MeterPlan}
use Rattle.qos_profile.specs.declared.section.Section.{Section}
use Rattle.qos_profile.specs.Planned.{is_meter, meter_of}
use Rattle.qos_profile.proofs.Picked.{next-picked, next-passed}
use Rattle.qos_profile.proofs.build.meter.meters.Goals.{then-is_meter+in_ok-next+in_ok-add, else-is_meter}
use Rattle.qos_profile.proofs.build.meter.meters.Goals as goal

pub loop-section-preserved : goal.loop-section-preserved
loop-section-preserved c =
    let sections = c.args.sections.now in
    let index = c.loop-section.section-index in
    let rest = map (λ (s : Section). meter_of s.head s.facts) (filter (λ (s : Section). is_meter s.head) (drop (index + 1) sections)) in
    let meters = c.loop-section.meters.items in
    elim c.if-is_meter.branch [
      | then-is_meter+in_ok-next+in_ok-add w ↦
          ap (λ (v : Vec MeterPlan Global). v.items ++ rest) w.meters-is
          ∙ ap (λ items. items ++ rest) (w.in_ok-add.ensures.added ∙ ap (λ m. meters ++ m ∷ []) (w.in_ok-next.ensures ∙ ap (meter_of c.section-item.result.head) w.as_slice.ensures))
          ∙ next-picked (λ (s : Section). is_meter s.head) (λ (s : Section). meter_of s.head s.facts) sections index c.section-item.result meters c.loop-section-test.true c.section-item.is (sym c.is_meter.ensures ∙ w.if-is_meter.true)
          ∙ c.loop-section.invariant
      | else-is_meter w ↦
          ap (λ (v : Vec MeterPlan Global). v.items ++ rest) w.meters-is
          ∙ next-passed (λ (s : Section). is_meter s.head) (λ (s : Section). meter_of s.head s.facts) sections index c.section-item.result meters c.loop-section-test.true c.section-item.is (sym c.is_meter.ensures ∙ w.if-is_meter.false)
          ∙ c.loop-section.invariant
    ]
