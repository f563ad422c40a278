use Rattle.std.proofs.Common.{◌≡◌, ℕ, ◌<◌, true}
use Rattle.qos_profile.specs.declared.head.Head.TheVariants.{Subport}
use Rattle.qos_profile.specs.Lookups.{is_there}
use Rattle.qos_profile.proofs.missing.are_subports.Given as goal

abbrev pub invariant-loop-subport : goal.invariant-loop-subport
invariant-loop-subport l = (k : ℕ) → k < l.subport → is_there l.sections (Subport l.port k) ≡ true
