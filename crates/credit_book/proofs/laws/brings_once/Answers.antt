use Rattle.credit_book.proofs.LawLemmas.{bucket_at-bucket_at}
use Rattle.credit_book.proofs.laws.brings_once.Goals as goal

pub returns : goal.returns
returns _ = bucket_at-bucket_at
