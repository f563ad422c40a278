use Rattle.std.proofs.Common.{ap, sym, subst, ◌∙◌, Option}
use Rattle.std.specs.Option.{unwrap_or}
use Rattle.qos_words.specs.Words.{Asked}
use Rattle.qos_main.specs.Command.{CommandEnds}
use Rattle.qos_main.proofs.Earlier.{numbered}
use Rattle.qos_main.proofs.top.run_words.Goals as goal

pub returns-in-Some-clause-ends : goal.returns-in-Some-clause-ends
returns-in-Some-clause-ends g c command asks number =
    let done = c.run_command.result in
    subst (λ (a : Asked). CommandEnds g.H.Shelf a c.args.shelf.now c.run_command.new.shelf done.profile done.status
    (numbered done.ended number))
    (ap (λ (o : Option Asked). unwrap_or o command) (sym c.in-Some.is ∙ c.read_words.ensures.exact ∙ asks))
    (c.run_command.ensures.ends number)
