use Rattle.std.proofs.Common.{List, length}
use Rattle.profile_lines.specs.Lines.{Line}
use Rattle.qos_profile.proofs.Courses.{IsAt}
use Rattle.qos_profile.proofs.reading.take_lines.Given as goal

abbrev pub invariant-loop-rest : goal.invariant-loop-rest
invariant-loop-rest l = (before : List Line) × IsAt before l.text l.rest l.number l.sections

abbrev pub decreases-loop-rest : goal.decreases-loop-rest
decreases-loop-rest l = length l.rest
