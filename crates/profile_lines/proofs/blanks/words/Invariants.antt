use Rattle.std.proofs.Common.{◌≡◌, ◌==◌, not, map, filter, length}
use Rattle.profile_lines.proofs.blanks.words.Given as goal

abbrev pub invariant-loop-piece : goal.invariant-loop-piece
invariant-loop-piece l = map (λ w. w.now) l.words.items ≡ filter (λ piece. not (length piece == 0)) (map (λ w. w.now) l.yielded)
