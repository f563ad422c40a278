use Rattle.std.proofs.Common.{◌+◌, ◌<◌, ◌*◌, ◌/◌, length, take, sym, subst, arith, ◌∙◌}
use Rattle.active_bitmap.proofs.LevelLemmas.{found-here, found-there, found-none, not_empty, word_within}
use Rattle.active_bitmap.proofs.bitmap.ActiveBitmap.next_from.Goals as goal

pub returns-in-Some-clause-nearest : goal.returns-in-Some-clause-nearest
returns-in-Some-clause-nearest g c =
    let f = c.self.inside in
    let within : c.args.pos < length (take f.size f.bits) = subst (λ bits. c.args.pos < length bits) (sym c.self.view_is) c.requires in
    rw (← c.self.view_is) (sym (found-here f.size f.bits f.summary c.self.invariant c.args.pos (64 * (c.args.pos / 64) + 64) c.in-Some.bit within c.in-Some.ensures.first))

pub returns-in_err-word-clause-nearest : goal.returns-in_err-word-clause-nearest
returns-in_err-word-clause-nearest g c =
    let f = c.self.inside in
    let within : c.args.pos < length (take f.size f.bits) = subst (λ bits. c.args.pos < length bits) (sym c.self.view_is) c.requires in
    rw (← c.self.view_is)
    (c.from_residual.ensures ∙ sym (found-none f.size f.bits f.summary c.self.invariant c.args.pos within c.in_err-word.ensures.next))

pub probe-requires-2 : goal.probe-requires-2
probe-requires-2 g c =
    word_within c.self.inside.size c.self.inside.bits c.self.inside.summary c.self.invariant c.in_ok-word.word c.in_ok-word.ensures.next.1

pub returns-in_err-bit-clause-nearest : goal.returns-in_err-bit-clause-nearest
returns-in_err-bit-clause-nearest g c =
    let f = c.self.inside in
    let word = c.in_ok-word.word in
    absurd (not_empty f.size f.bits f.summary c.self.invariant word (64 * (64 * word / 64) + 64) c.in_ok-word.ensures.next.1 (omega arith) c.in_err-bit.ensures.first)

pub returns-clause-nearest : goal.returns-clause-nearest
returns-clause-nearest g c =
    let f = c.self.inside in
    let within : c.args.pos < length (take f.size f.bits) = subst (λ bits. c.args.pos < length bits) (sym c.self.view_is) c.requires in
    let word = c.in_ok-word.word in
    rw (← c.self.view_is)
    (sym (found-there f.size f.bits f.summary c.self.invariant c.args.pos word (64 * (64 * word / 64) + 64) c.in_ok-bit.bit within c.in_default.ensures.first c.in_ok-word.ensures.next c.in_ok-bit.ensures.first))
