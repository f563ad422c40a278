use Rattle.std.proofs.Common.{ℕ, List, rules, subst, sym}
use Rattle.crossbeam_utils.specs.Register.{Turns}
use Rattle.crossbeam_utils.specs.Seq.{cell_view}
use Rattle.meter_table.specs.declared.rule.View.{View}
use Rattle.meter_table.specs.Kept.{IsKept, Settles}
use Rattle.meter_table.proofs.Moves.{settles}
use Rattle.meter_table.proofs.cell.settle.Goals as goal

pub swap_as-requires : goal.swap_as-requires
swap_as-requires g c =
    let words = c.settled_words-words.ensures in
    let v : View = cell_view c.args.pass.now in
    let Turned : List ℕ → Type 0 = λ ws. Turns IsKept c.args.pass.now.id v (λ _. ws) Settles in
    (search rules, (search rules, (search rules, subst Turned (sym words.exact) (settles _ _ _ v c.requires.view words.sound))))
