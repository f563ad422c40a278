use Rattle.std.proofs.Common.{◌∙◌, ap, arith, take, drop, ◌+◌}
use Rattle.std.proofs.lemmas.List.{drop_all}
use Rattle.std.specs.Str.Lines.{strip_carriage_return}
use Rattle.profile_lines.proofs.Parts.{lines-last, lines-first, rest-is}
use Rattle.profile_lines.proofs.split.split_line.Goals as goal

pub returns-then-end-text-clause-lines : goal.returns-then-end-text-clause-lines
returns-then-end-text-clause-lines c =
    lines-last c.args.text.now _ (omega arith) (omega (arith, c.first_place-end.ensures.place)) (rest-is c.args.text.now _ ∙ drop_all _ c.args.text.now (omega arith))

pub returns-clause-lines : goal.returns-clause-lines
returns-clause-lines c =
    lines-first c.args.text.now _ _ (omega (arith, c.first_place-end.ensures.place)) (c.without_return.ensures ∙ ap (λ n. strip_carriage_return (take n c.args.text.now)) c.first_place-end.ensures.place) (rest-is c.args.text.now _ ∙ ap (λ n. drop (n + 1) c.args.text.now) c.first_place-end.ensures.place)
