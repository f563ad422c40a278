use Rattle.std.proofs.Common.{rules, ◌∙◌, ap, sym, ◌++◌, ◌∷◌, []}
use Rattle.std.specs.Slots.{slots_items}
use Rattle.count_board.proofs.Sums.{take_at}
use Rattle.count_board.proofs.board.read_words.Goals as goal

pub loop-word-preserved : goal.loop-word-preserved
loop-word-preserved c = record {
  so_far = c.push_reserved.ensures.items ∙ ap (λ l. l ++ c.word.result ∷ []) c.loop-word.invariant.so_far ∙ sym (take_at (slots_items c.args.closed.now.words) _ _ c.word.ensures);
  room = search rules;
}
