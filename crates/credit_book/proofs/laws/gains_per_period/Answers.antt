use Rattle.credit_book.proofs.LawLemmas.{bucket_at-gain}
use Rattle.credit_book.proofs.laws.gains_per_period.Goals as goal

pub returns : goal.returns
returns _ = bucket_at-gain
