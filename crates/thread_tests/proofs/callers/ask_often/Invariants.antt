use Rattle.std.proofs.Common.{◌≡◌, ℕ, [], ◌∷◌, vec_len}
use Rattle.meter_table.specs.Logs.{AreAllMarks}
use Rattle.meter_table.specs.Seats.{IsSeatOf, parts_at}
use Rattle.thread_tests.proofs.callers.ask_often.Given as goal

abbrev pub invariant-loop-index : goal.invariant-loop-index
invariant-loop-index g l = record {
  seat : IsSeatOf l.table l.caller.seat;
  parts : (n : ℕ) → parts_at n l.caller.seat ≡ parts_at n l.fn.first.seat;
  its : AreAllMarks (l.caller.seat ∷ []) l.caller.marks.items;
  count : vec_len l.caller.marks ≡ l.index;
}
