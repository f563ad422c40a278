use Rattle.std.proofs.Common.{◌≡◌, drop}
use Rattle.qos_profile.specs.Naming.{unnamed_among}
use Rattle.qos_profile.proofs.naming.unnamed_line.Given as goal

abbrev pub invariant-loop-section : goal.invariant-loop-section
invariant-loop-section l = unnamed_among l.sections (drop l.section-index l.sections) ≡ unnamed_among l.sections l.sections
