use Rattle.meter_table.proofs.Joined.{Joining}
use Rattle.meter_table.proofs.table.MeterTable.join.Given as goal

abbrev pub invariant-loop-pass : goal.invariant-loop-pass
invariant-loop-pass l = Joining l.self l.fn.seat l.fn.other l.seat l.passes.items

abbrev pub decreases-loop-pass : goal.decreases-loop-pass
decreases-loop-pass l = goal.left-loop-pass l
