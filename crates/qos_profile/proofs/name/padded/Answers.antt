use Rattle.std.proofs.Common.{ap, ◌∙◌, ◌++◌, length, drop, replicate}
use Rattle.std.proofs.lemmas.List.{drop-replicate}
use Rattle.qos_profile.proofs.name.padded.Goals as goal

pub returns : goal.returns
returns c =
    ap (λ xs. xs ++ drop (length c.args.word.now) (replicate 32 0)) c.copy_from_slice.ensures.after ∙ ap (λ xs. c.args.word.now ++ xs) (drop-replicate (length c.args.word.now) 32 0)
