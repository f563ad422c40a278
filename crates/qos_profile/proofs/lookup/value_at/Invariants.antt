use Rattle.std.proofs.Common.{◌≡◌, drop}
use Rattle.qos_profile.specs.Lookups.{value_at}
use Rattle.qos_profile.proofs.lookup.value_at.Given as goal

abbrev pub invariant-loop-fact : goal.invariant-loop-fact
invariant-loop-fact l = value_at (drop l.fact-index l.facts) l.group l.slot ≡ value_at l.facts l.group l.slot
