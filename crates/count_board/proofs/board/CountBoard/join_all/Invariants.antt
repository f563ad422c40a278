use Rattle.std.proofs.Common.{◌≡◌, ℕ, ◌+◌, List}
use Rattle.std.specs.List.{sum_by, All}
use Rattle.count_board.specs.Tally.{sum_in, IsSeen}
use Rattle.count_board.specs.Seats.{IsSeatOf, parts_of, added_by, seen_by}
use Rattle.count_board.proofs.board.CountBoard.join_all.Given as goal

abbrev pub invariant-loop-seat : goal.invariant-loop-seat
invariant-loop-seat l = record {
  mine : All (λ s. IsSeatOf l.self s) l.seats.items;
  seat : IsSeatOf l.self l.all;
  parts : sum_by parts_of l.seats.items + parts_of l.all ≡ sum_by parts_of l.fn.seats.items;
  added : (word : ℕ) → sum_by (λ s. sum_in word (added_by s)) l.seats.items + sum_in word (added_by l.all) ≡ sum_by (λ s. sum_in word (added_by s)) l.fn.seats.items;
  seen : (words : List ℕ) → IsSeen words (seen_by l.all) → All (λ s. IsSeen words (seen_by s)) l.seats.items → All (λ s. IsSeen words (seen_by s)) l.fn.seats.items;
}

abbrev pub decreases-loop-seat : goal.decreases-loop-seat
decreases-loop-seat l = goal.left-loop-seat l
