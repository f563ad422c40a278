use Rattle.std.proofs.Common.{◌≡◌, length, subst, sym, ap, ◌∙◌, arith}
use Rattle.crossbeam_utils.specs.Seq.{cell_view}
use Rattle.meter_table.specs.declared.rule.View.{View}
use Rattle.meter_table.specs.Kept.{Knows}
use Rattle.meter_table.proofs.cell.enter.Goals as goal

pub next_words-requires-clause-words : goal.next_words-requires-clause-words
next_words-requires-clause-words g c =
    let knows = subst (Knows c.args.ask.now.meter c.args.start.now.setting) (sym c.loop.invariant.view) c.requires.knows in
    let seen = c.look-seen.ensures.seen _ _ knows in
    (seen.log, seen.cell)

pub next_words-requires-clause-few : goal.next_words-requires-clause-few
next_words-requires-clause-few g c =
    let knows = subst (Knows c.args.ask.now.meter c.args.start.now.setting) (sym c.loop.invariant.view) c.requires.knows in
    let seen = c.look-seen.ensures.seen _ _ knows in
    omega (arith, seen.few, seen.cell.count)

pub put-requires-clause-next : goal.put-requires-clause-next
put-requires-clause-next g c =
    let same : cell_view {V = View} c.look-seen.new.pass ≡ cell_view c.args.pass.now = c.look-seen.ensures.view ∙ c.loop.invariant.view in
    let knows = subst (Knows c.args.ask.now.meter c.args.start.now.setting) (sym same) c.requires.knows in
    (c.args.ask.now.meter, c.args.start.now.setting, knows, c.next_words.ensures.next)

pub put-requires-clause-few : goal.put-requires-clause-few
put-requires-clause-few g c =
    let same : cell_view {V = View} c.look-seen.new.pass ≡ cell_view c.args.pass.now = c.look-seen.ensures.view ∙ c.loop.invariant.view in
    let lengths = ap (λ (v : View). length v.marks) same in
    omega arith
