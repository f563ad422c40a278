use Rattle.credit_book.proofs.LawLemmas.{multiples-add}
use Rattle.credit_book.proofs.laws.multiples_add_up.Goals as goal

pub returns : goal.returns
returns _ = multiples-add
