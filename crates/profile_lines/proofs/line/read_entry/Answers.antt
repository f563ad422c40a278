use Rattle.std.proofs.Common.{◌==◌, ◌∙◌, sym, ap, arith, map}
use Rattle.std.specs.List.{before_first}
use Rattle.profile_lines.specs.Lines.{Entry, words_of}
use Rattle.profile_lines.proofs.Parts.{split-there, there, not-there}
use Rattle.profile_lines.proofs.Entries.{entry-none, entry-some}
use Rattle.profile_lines.proofs.line.read_entry.Goals as goal

pub returns-then-divide-code : goal.returns-then-divide-code
returns-then-divide-code c =
    sym (entry-none c.args.code.now (not-there c.args.code.now 61 (omega (arith, c.first_place-divide.ensures.place))))

pub returns : goal.returns
returns c =
    let parts = split-there c.args.code.now 61 _ c.first_place-divide.ensures.place in
    let key = c.in_ok-key.ensures ∙ ap words_of parts.0 in
    let value = c.in_ok-value.ensures ∙ ap words_of parts.1 in
    ap (λ k. Entry k (map (λ w. w.now) c.in_ok-value.value.items)) key ∙ ap (λ v. Entry (words_of (before_first (λ b. b == 61) c.args.code.now)) v) value ∙ sym (entry-some c.args.code.now (there c.args.code.now 61 (omega (arith, c.first_place-divide.ensures.place))))
