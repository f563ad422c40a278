use Rattle.std.proofs.Common.{◌==◌, ◌∙◌, sym, ap, arith}
use Rattle.std.specs.List.{before_first}
use Rattle.profile_lines.specs.Numbers.{number_of, both}
use Rattle.profile_lines.proofs.Parts.{split-there, there, not-there}
use Rattle.profile_lines.proofs.Entries.{range-none, range-some}
use Rattle.profile_lines.proofs.number.read_range.Goals as goal

pub returns-then-dash-word : goal.returns-then-dash-word
returns-then-dash-word c =
    c.both.ensures ∙ ap (λ n. both n n) c.read_number-only.ensures ∙ sym (range-none c.args.word.now (not-there c.args.word.now 45 (omega (arith, c.first_place-dash.ensures.place))))

pub returns : goal.returns
returns c =
    let parts = split-there c.args.word.now 45 _ c.first_place-dash.ensures.place in
    let first = c.read_number.ensures ∙ ap number_of parts.0 in
    let last = c.read_number-2.ensures ∙ ap number_of parts.1 in
    c.both-2.ensures ∙ ap (λ n. both n c.read_number-2.result) first ∙ ap (λ n. both (number_of (before_first (λ b. b == 45) c.args.word.now)) n) last ∙ sym (range-some c.args.word.now (there c.args.word.now 45 (omega (arith, c.first_place-dash.ensures.place))))
