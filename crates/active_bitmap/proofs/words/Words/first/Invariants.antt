use Rattle.std.proofs.Common.{◌≡◌, ◌+◌, ◌-◌, ◌*◌, ◌/◌}
use Rattle.active_bitmap.specs.Words.{AllClear}
use Rattle.active_bitmap.proofs.words.Words.first.Given as goal

abbrev pub invariant-loop-word : goal.invariant-loop-word
invariant-loop-word g l = AllClear l.self l.from (64 * l.word) × (l.steps ≡ l.fn.steps + (l.word - l.from / 64))
