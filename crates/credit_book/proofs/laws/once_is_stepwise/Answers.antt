use Rattle.credit_book.proofs.BucketLemmas.{bucket_at-credits}
use Rattle.credit_book.proofs.laws.once_is_stepwise.Goals as goal

pub returns : goal.returns
returns _ = bucket_at-credits
