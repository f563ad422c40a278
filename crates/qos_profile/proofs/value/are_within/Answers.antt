use Rattle.std.proofs.Common.{sym, ◌∙◌}
use Rattle.std.proofs.lemmas.List.Folds.{list_all-map}
use Rattle.qos_profile.specs.Values.{is_within, number_or_zero}
use Rattle.qos_profile.proofs.value.are_within.Goals as goal

pub returns : goal.returns
returns c =
    c.all_within.ensures ∙ sym (list_all-map (λ w. is_within c.args.least c.args.most (number_or_zero w)) (λ w. w.now) c.args.words.now)
