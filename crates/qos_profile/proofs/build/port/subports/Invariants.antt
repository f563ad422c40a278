-- qos_profile/proofs/build/port/subports/Invariants.antt
use Rattle.std.proofs.Common.{◌≡◌}
use Rattle.qos_profile.specs.Planned.{subports_of}
use Rattle.qos_profile.proofs.build.port.subports.Given as goal

abbrev pub invariant-loop-number : goal.invariant-loop-number
invariant-loop-number l = l.subports.items ≡ subports_of l.sections l.port l.number
