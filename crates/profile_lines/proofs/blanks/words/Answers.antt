use Rattle.std.proofs.Common.{◌==◌, not, filter, length, ap, ◌∙◌, rules}
use Rattle.std.proofs.lemmas.Iterator.Consumers.{YieldsList-end}
use Rattle.std.proofs.lemmas.Iterator.Splits.{YieldsList-from_slice_split}
use Rattle.std.proofs.lemmas.Bool.Decides.{nat_tests as tests}
use Rattle.profile_lines.specs.Lines.{is_blank, words_of}
use Rattle.profile_lines.proofs.blanks.words.Goals as goal

pub returns : goal.returns
unfolding words_of
returns c =
    let t = YieldsList-end (YieldsList-from_slice_split _ is_blank c.args.bytes.now (cc) (cc) c.split-piece-items.ensures.closure (λ x r q k. search (rules, tests))) c.loop-piece.yielded _ c.loop-piece.yielded_by _ _ c.in-None.is c.next.ensures.steps in
    c.loop-piece.invariant ∙ ap (filter (λ piece. not (length piece == 0))) t.0
