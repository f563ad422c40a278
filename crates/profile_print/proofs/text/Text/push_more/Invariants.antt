use Rattle.std.proofs.Common.{◌≡◌, ◌∷◌, ◌++◌, drop, map}
use Rattle.std.specs.List.{flat_map}
use Rattle.profile_print.specs.View.{word_of}
use Rattle.profile_print.proofs.text.Text.push_more.Given as goal

abbrev pub invariant-loop-word : goal.invariant-loop-word
invariant-loop-word l = l.self ++ flat_map (λ w. 32 ∷ w) (map word_of (drop l.word-index l.words)) ≡ l.initial.self ++ flat_map (λ w. 32 ∷ w) (map word_of l.words)
