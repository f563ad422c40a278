use Rattle.std.proofs.Common.{◌≡◌, drop}
use Rattle.qos_profile.specs.Facts.{mode_of}
use Rattle.qos_profile.proofs.fact.mode_of.Given as goal

abbrev pub invariant-loop-fact : goal.invariant-loop-fact
invariant-loop-fact l = mode_of (drop l.fact-index l.facts) ≡ mode_of l.facts
