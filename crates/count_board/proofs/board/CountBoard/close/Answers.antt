use Rattle.std.proofs.Common.{◌∙◌, ap, get_or, sym}
use Rattle.count_board.proofs.Moves.{ends}
use Rattle.count_board.proofs.board.CountBoard.close.Goals as goal

pub returns-clause-sums : goal.returns-clause-sums
returns-clause-sums c word lt =
    let last = c.close_with-closed.ensures.values.2 in
    let s = last.0 in
    let kept = last.1.0 in
    let at = last.1.1 in
    let all = c.join_all-all.ensures.parts ∙ c.requires.all in
    let sum = ends _ s _ _ kept at all word in
    let words = c.read_words.ensures ∙ sym last.2 in
    ap (λ ws. get_or ws word 0) words ∙ sum ∙ c.join_all-all.ensures.added word
