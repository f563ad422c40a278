-- What contracts see of a board and of its seats.
use Rattle.std.specs.Prelude.{◌≡◌, ℕ, List, []}
use Rattle.std.specs.List.{sum_by}
use Rattle.count_board.specs.declared.seat.BoardSeat.{BoardSeat}
use Rattle.count_board.specs.declared.board.CountBoard.{CountBoard}
use Rattle.count_board.specs.Tally.{sum_in}

-- how many words the board has
abbrev pub words_of : CountBoard → ℕ
words_of b = b.table.shared.table_id.words

-- it is a seat of this board
abbrev pub IsSeatOf : CountBoard → BoardSeat → Type 0
IsSeatOf b s = s.seat.table_id ≡ b.table.shared.table_id

-- a seat's parts of its board
abbrev pub parts_of : BoardSeat → ℕ
parts_of s = s.seat.me.0.parts

-- what a seat added, each number with its word, oldest first
abbrev pub added_by : BoardSeat → List (ℕ × ℕ)
added_by s = s.seat.me.0.added

-- what a seat saw, each number with its word, oldest first
abbrev pub seen_by : BoardSeat → List (ℕ × ℕ)
seen_by s = s.seat.me.0.seen

-- a seat of this board that has added nothing and seen nothing
abbrev pub IsFresh : CountBoard → BoardSeat → Type 0
IsFresh b s = IsSeatOf b s × (added_by s ≡ []) × (seen_by s ≡ [])

-- what these seats added to a word, in all
abbrev pub added_in_all : ℕ → List BoardSeat → ℕ
added_in_all word seats = sum_by (λ s. sum_in word (added_by s)) seats
