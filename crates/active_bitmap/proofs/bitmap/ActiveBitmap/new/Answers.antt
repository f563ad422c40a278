use Rattle.std.proofs.Common.{◌≤◌, ◌*◌, take, false, ap, ◌∙◌, arith}
use Rattle.std.proofs.lemmas.List.{take-replicate}
use Rattle.active_bitmap.proofs.LevelLemmas.{new-sound}
use Rattle.active_bitmap.proofs.bitmap.ActiveBitmap.new.Goals as goal

pub invariant_of-result : goal.invariant_of-result
invariant_of-result c =
    rw (c.in_ok-new.ensures, c.in_ok-new-2.ensures, c.div_ceil.ensures, c.div_ceil-words.ensures) (new-sound c.args.bits c.requires.some c.requires.limit)

pub returns : goal.returns
returns c =
    let enough : c.args.bits ≤ 64 * c.div_ceil-words.result = omega (arith, c.div_ceil-words.ensures) in
    ap (take c.args.bits) c.in_ok-new.ensures ∙ take-replicate c.args.bits (64 * c.div_ceil-words.result) false enough
