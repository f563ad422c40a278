use Rattle.std.proofs.Common.{◌≡◌, drop}
use Rattle.qos_profile.specs.Lookups.{facts_at}
use Rattle.qos_profile.proofs.lookup.facts_at.Given as goal

abbrev pub invariant-loop-section : goal.invariant-loop-section
invariant-loop-section l = facts_at (drop l.section-index l.sections) l.head ≡ facts_at l.sections l.head
