use Rattle.std.proofs.Common.{◌≡◌, ◌≤◌, take, vec_capacity}
use Rattle.std.specs.Slots.{slots_items}
use Rattle.count_board.proofs.board.read_words.Given as goal

abbrev pub invariant-loop-word : goal.invariant-loop-word
invariant-loop-word l = record {
  so_far : l.sums.items ≡ take l.word (slots_items l.closed.words);
  room : l.count ≤ vec_capacity l.sums;
}
