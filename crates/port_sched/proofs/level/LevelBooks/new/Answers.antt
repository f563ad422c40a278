use Rattle.std.proofs.Common.{ap, ◌∙◌}
use Rattle.credit_book.specs.Bucket.{TokenBucket}
use Rattle.port_sched.specs.declared.level.LevelBooks.{LevelBooks}
use Rattle.port_sched.specs.Books.{level_of}
use Rattle.port_sched.proofs.Buckets.{up_to-start}
use Rattle.port_sched.proofs.level.LevelBooks.new.Goals as goal

pub returns-clause-start : goal.returns-clause-start
returns-clause-start c =
    let made : LevelBooks = record { bucket = c.new.result; classes = c.new-2.result } in
    up_to-start made (ap (λ (b : TokenBucket). b.time) c.new.ensures)
    ∙ (λ i. let is : LevelBooks = record { bucket = c.new.ensures i; classes = c.new-2.ensures i } in level_of is)
