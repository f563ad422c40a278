use Rattle.std.proofs.Common.{◌≡◌, ℕ, ◌<◌, true}
use Rattle.qos_profile.specs.Lookups.{has}
use Rattle.qos_profile.proofs.lookup.has_all.Given as goal

abbrev pub invariant-loop-slot : goal.invariant-loop-slot
invariant-loop-slot l = (k : ℕ) → k < l.slot → has l.facts l.group k ≡ true
