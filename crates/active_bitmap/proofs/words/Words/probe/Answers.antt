use Rattle.std.proofs.Common.{◌≡◌, ◌<◌, ◌/◌, ◌^◌, length, get_or, ap, ◌∙◌, arith, rules}
use Rattle.std.proofs.lemmas.List.{get_or_default}
use Rattle.active_bitmap.proofs.WordLemmas.{length-bits_of, probe-none, probe-some}
use Rattle.active_bitmap.proofs.words.Words.probe.Goals as goal

pub index-requires : goal.index-requires
index-requires g c =
    omega (arith, c.self.inside.words.ok, length-bits_of c.self.inside.words.items, ap length c.self.view_is)

pub returns-then-left-eq0-clause-first : goal.returns-then-left-eq0-clause-first
returns-then-left-eq0-clause-first g c =
    let words = c.self.inside.words.items in
    let at : c.args.from / 64 < length words = omega (arith, length-bits_of words, ap length c.self.view_is) in
    let read : c.index.result.now ≡ get_or words (c.args.from / 64) 0 = c.index.ensures ∙ get_or_default words (c.args.from / 64) c.index.result.now 0 at in
    let fits : c.index.result.now < 2 ^ 64 = search rules in
    let none = rw read at c.if-left-eq0.true in
    rw (← c.self.view_is) (probe-none words c.args.from (rw read at fits) none)

pub returns-clause-first : goal.returns-clause-first
returns-clause-first g c =
    let words = c.self.inside.words.items in
    let at : c.args.from / 64 < length words = omega (arith, length-bits_of words, ap length c.self.view_is) in
    let read : c.index.result.now ≡ get_or words (c.args.from / 64) 0 = c.index.ensures ∙ get_or_default words (c.args.from / 64) c.index.result.now 0 at in
    let fits : c.index.result.now < 2 ^ 64 = search rules in
    let some = rw read at c.if-left-eq0.false in
    rw (← c.self.view_is, read) (probe-some words c.args.from (rw read at fits) some)
