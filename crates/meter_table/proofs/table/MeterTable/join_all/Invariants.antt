use Rattle.std.proofs.Common.{◌≡◌, ℕ, ◌+◌, List}
use Rattle.std.specs.List.{sum_by, All}
use Rattle.meter_table.specs.declared.mark.Mark.{Mark}
use Rattle.meter_table.specs.Kept.{StandsIn}
use Rattle.meter_table.specs.Log.{made_at}
use Rattle.meter_table.specs.Seats.{HasPasses, marks_by, parts_at}
use Rattle.meter_table.proofs.table.MeterTable.join_all.Given as goal

abbrev pub invariant-loop-seat : goal.invariant-loop-seat
invariant-loop-seat l = record {
  rest : All (HasPasses l.self) l.seats.items;
  all : HasPasses l.self l.all;
  parts : (n : ℕ) → sum_by (parts_at n) l.seats.items + parts_at n l.all ≡ sum_by (parts_at n) l.fn.seats.items + parts_at n l.fn.first;
  made : (n turn : ℕ) → sum_by (λ s. made_at turn (marks_by n s)) l.seats.items + made_at turn (marks_by n l.all) ≡ sum_by (λ s. made_at turn (marks_by n s)) l.fn.seats.items + made_at turn (marks_by n l.fn.first);
  stand : (n : ℕ) (log : List Mark) → All (StandsIn log) (marks_by n l.all) → All (λ s. All (StandsIn log) (marks_by n s)) l.seats.items
      → All (λ s. All (StandsIn log) (marks_by n s)) l.fn.seats.items × All (StandsIn log) (marks_by n l.fn.first);
}

abbrev pub decreases-loop-seat : goal.decreases-loop-seat
decreases-loop-seat l = goal.left-loop-seat l
