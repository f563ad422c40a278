use Rattle.std.proofs.Common.{◌≡◌, ℕ, ◌<◌, true}
use Rattle.qos_profile.specs.declared.head.Head.TheVariants.{Port}
use Rattle.qos_profile.specs.Lookups.{is_there}
use Rattle.qos_profile.proofs.missing.has_ports.Given as goal

abbrev pub invariant-loop-n : goal.invariant-loop-n
invariant-loop-n l = (k : ℕ) → k < l.n → is_there l.sections (Port k) ≡ true
