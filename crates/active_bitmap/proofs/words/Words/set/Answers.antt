use Rattle.std.proofs.Common.{◌≡◌, ◌*◌, ◌/◌, ◌<◌, length, get_or, set, true, ap, ◌∙◌, arith}
use Rattle.std.proofs.lemmas.List.{get_or_default}
use Rattle.active_bitmap.proofs.WordLemmas.{length-bits_of, set_in_word}
use Rattle.active_bitmap.proofs.words.Words.set.Goals as goal

pub index_mut-requires : goal.index_mut-requires
index_mut-requires c =
    omega (arith, c.self.inside.words.ok, length-bits_of c.self.inside.words.items, ap length c.self.view_is)

pub returns : goal.returns
returns c =
    let words = c.self.inside.words.items in
    let within : c.args.bit < 64 * length words = omega (arith, length-bits_of words, ap length c.self.view_is) in
    let read : c.index_mut.result.now ≡ get_or words (c.args.bit / 64) 0 = c.index_mut.ensures.value ∙ get_or_default words (c.args.bit / 64) c.index_mut.result.now 0 (omega arith) in
    rw read (set_in_word words c.args.bit within ∙ ap (λ bits. set bits c.args.bit true) c.self.view_is)
