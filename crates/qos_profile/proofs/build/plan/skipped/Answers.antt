use Rattle.std.proofs.Common.{ℕ, ◌+◌, ◌++◌, Vec, Global, map, filter, drop, sym, ap, ◌∙◌}
use Rattle.qos_profile.specs.declared.section.Section.{Section}
use Rattle.qos_profile.specs.Sections.{is_red}
use Rattle.qos_profile.proofs.Picked.{next-picked, next-passed}
use Rattle.qos_profile.proofs.build.plan.skipped.Goals.{then-is_red+in_ok-add, else-is_red}
use Rattle.qos_profile.proofs.build.plan.skipped.Goals as goal

pub loop-section-preserved : goal.loop-section-preserved
loop-section-preserved c =
    let sections = c.args.sections.now in
    let index = c.loop-section.section-index in
    let rest = map (λ (s : Section). s.line) (filter (λ (s : Section). is_red s.head) (drop (index + 1) sections)) in
    let lines = c.loop-section.lines.items in
    elim c.if-is_red.branch [
      | then-is_red+in_ok-add w ↦
          ap (λ (v : Vec ℕ Global). v.items ++ rest) w.lines-is ∙ ap (λ items. items ++ rest) w.in_ok-add.ensures.added
          ∙ next-picked (λ (s : Section). is_red s.head) (λ (s : Section). s.line) sections index c.section-item.result lines c.loop-section-test.true c.section-item.is (sym c.is_red.ensures ∙ w.if-is_red.true)
          ∙ c.loop-section.invariant
      | else-is_red w ↦
          ap (λ (v : Vec ℕ Global). v.items ++ rest) w.lines-is
          ∙ next-passed (λ (s : Section). is_red s.head) (λ (s : Section). s.line) sections index c.section-item.result lines c.loop-section-test.true c.section-item.is (sym c.is_red.ensures ∙ w.if-is_red.false)
          ∙ c.loop-section.invariant
    ]
