-- qos_profile/proofs/build/rule/meter_number/Invariants.antt
use Rattle.std.proofs.Common.{◌≡◌, ◌+◌, ◌≤◌, drop, filter}
use Rattle.std.specs.List.{position_or_len}
use Rattle.qos_profile.specs.declared.head.Head.TheVariants.{Meter}
use Rattle.qos_profile.specs.Sections.{same_head}
use Rattle.qos_profile.specs.Planned.{is_meter}
use Rattle.qos_profile.proofs.build.rule.meter_number.Given as goal

abbrev pub invariant-loop-section : goal.invariant-loop-section
invariant-loop-section l = record {
  place : l.number + position_or_len (λ s. same_head s.head (Meter l.name)) (filter (λ s. is_meter s.head) (drop l.section-index l.sections)) ≡ position_or_len (λ s. same_head s.head (Meter l.name)) (filter (λ s. is_meter s.head) l.sections);
  few : l.number ≤ l.section-index;
}
