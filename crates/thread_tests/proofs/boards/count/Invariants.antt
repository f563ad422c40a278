use Rattle.std.proofs.Common.{◌≡◌}
use Rattle.count_board.specs.Tally.{sum_of}
use Rattle.count_board.specs.Seats.{IsSeatOf, parts_of, added_by}
use Rattle.thread_tests.proofs.boards.count.Given as goal

abbrev pub invariant-loop : goal.invariant-loop
invariant-loop l = record {
  seat : IsSeatOf l.board l.seat;
  parts : parts_of l.seat ≡ parts_of l.fn.seat;
  added : sum_of (added_by l.seat) ≡ l.counter;
}
