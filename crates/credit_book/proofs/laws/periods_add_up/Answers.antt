use Rattle.credit_book.proofs.LawLemmas.{after_periods-add}
use Rattle.credit_book.proofs.laws.periods_add_up.Goals as goal

pub returns : goal.returns
returns _ = after_periods-add
