use Rattle.std.proofs.Common.{◌&&◌, map, length, is_some, sym, ap, ◌∙◌, arith}
use Rattle.std.specs.List.{list_all}
use Rattle.std.proofs.lemmas.List.{length-map}
use Rattle.std.proofs.lemmas.List.Folds.{list_all-map}
use Rattle.std.proofs.lemmas.Bool.{eq-eqb}
use Rattle.profile_lines.specs.Numbers.{number_of}
use Rattle.qos_profile.proofs.value.are_numbers.Goals as goal

pub returns-then-words-count : goal.returns-then-words-count
returns-then-words-count c =
    let words = map (λ w. w.now) c.args.words.now in
    let test = list_all-map (λ w. is_some (number_of w)) (λ w. w.now) c.args.words.now in
    c.all_numbers.ensures ∙ sym test ∙ sym (ap (λ t. t && list_all (λ w. is_some (number_of w)) words) (eq-eqb (length words) c.args.count (omega (arith, length-map c.args.words.now (λ w. w.now)))))
