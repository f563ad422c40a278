use Rattle.std.proofs.Common.{◌≡◌, ◌*◌, ◌/◌, ◌%◌, ◌-◌, ◌^◌, ◌<◌, length, get_or, set, bit_and, false, sym, ap, ◌∙◌, arith, rules}
use Rattle.std.proofs.lemmas.List.{get_or_default, get_or-set_same}
use Rattle.std.proofs.lemmas.Nat.{and_le_l}
use Rattle.active_bitmap.proofs.WordLemmas.{length-bits_of, clear_in_word, has_set-word}
use Rattle.active_bitmap.proofs.words.Words.clear.Goals as goal

pub index_mut-word-requires : goal.index_mut-word-requires
index_mut-word-requires c =
    omega (arith, c.self.inside.words.ok, length-bits_of c.self.inside.words.items, ap length c.self.view_is)

pub returns-clause-cleared : goal.returns-clause-cleared
returns-clause-cleared c =
    let words = c.self.inside.words.items in
    let within : c.args.bit < 64 * length words = omega (arith, length-bits_of words, ap length c.self.view_is) in
    let read : c.index_mut-word.result.now ≡ get_or words (c.args.bit / 64) 0 = c.index_mut-word.ensures.value ∙ get_or_default words (c.args.bit / 64) c.index_mut-word.result.now 0 (omega arith) in
    rw read (clear_in_word words c.args.bit within ∙ ap (λ bits. set bits c.args.bit false) c.self.view_is)

pub returns-clause-left : goal.returns-clause-left
returns-clause-left c =
    let words = c.self.inside.words.items in
    let word = bit_and c.index_mut-word.result.now (2 ^ 64 - 1 - 1 * 2 ^ (c.args.bit % 64) % 2 ^ 64) in
    let at : c.args.bit / 64 < length words = omega (arith, length-bits_of words, ap length c.self.view_is) in
    let fits : c.index_mut-word.result.now < 2 ^ 64 = search rules in
    let here : get_or (set words (c.args.bit / 64) word) (c.args.bit / 64) 0 ≡ word = get_or-set_same words (c.args.bit / 64) word 0 at in
    let small : get_or (set words (c.args.bit / 64) word) (c.args.bit / 64) 0 < 2 ^ 64 =
    rw here (omega (arith, and_le_l c.index_mut-word.result.now (2 ^ 64 - 1 - 1 * 2 ^ (c.args.bit % 64) % 2 ^ 64))) in
    sym (rw here at (has_set-word (set words (c.args.bit / 64) word) (c.args.bit / 64) small))
