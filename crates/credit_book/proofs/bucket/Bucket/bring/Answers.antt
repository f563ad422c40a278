use Rattle.std.proofs.Common.{◌≡◌, ◌≤◌, ◌<◌, ◌+◌, ◌-◌, ◌*◌, ◌/◌, min, subst, sym, arith, ap, ◌∙◌}
use Rattle.std.proofs.lemmas.Grind.{common_steps}
use Rattle.credit_book.specs.Bucket.{TokenBucket, IsTokenBucket}
use Rattle.credit_book.proofs.BucketLemmas.{bucket_at-credits, bucket_at-time, bucket_at-same, bucket_at-ok}
use Rattle.credit_book.proofs.bucket.Bucket.bring.Goals as goal

pub invariant_of-self : goal.invariant_of-self
invariant_of-self g c =
    let f = c.self.inside in
    let b : TokenBucket = record { size = f.size; per_period = f.per_period; period = f.period; time = f.time; credits = f.credits } in
    let later : f.time ≤ c.args.time = subst (λ (x : TokenBucket). x.time ≤ c.args.time) (sym c.self.view_is) c.requires.not_past in
    let credits : c.min-self-inside.result ≡ min f.size (f.credits + (c.args.time - f.time) / f.period * f.per_period) = grind (arith, common_steps) in
    let periods : c.periods_in-periods.result ≡ (c.args.time - f.time) / f.period = grind (arith, common_steps) in
    rw credits (rw periods (bucket_at-ok b c.args.time c.self.invariant later c.requires.time))

pub returns-then-ahead-self-clause-stepwise : goal.returns-then-ahead-self-clause-stepwise
returns-then-ahead-self-clause-stepwise g c =
    let ok : IsTokenBucket c.args.self.now = subst IsTokenBucket c.self.view_is c.self.invariant in
    let credits = bucket_at-credits c.args.self.now c.args.time ok c.requires.not_past in
    grind (arith, common_steps, credits)

pub returns-then-ahead-self-clause-time : goal.returns-then-ahead-self-clause-time
returns-then-ahead-self-clause-time g c =
    let ok : IsTokenBucket c.args.self.now = subst IsTokenBucket c.self.view_is c.self.invariant in
    let time = bucket_at-time c.args.self.now c.args.time ok c.requires.not_past in
    grind (arith, common_steps, time)

pub returns-else-ahead-self-clause-exact : goal.returns-else-ahead-self-clause-exact
returns-else-ahead-self-clause-exact g c =
    let ok : IsTokenBucket c.args.self.now = subst IsTokenBucket c.self.view_is c.self.invariant in
    let early = subst (λ (b : TokenBucket). c.args.time - b.time < b.period) c.self.view_is (omega arith) in
    bucket_at-same c.args.self.now c.args.time ok early

pub returns-else-ahead-self-clause-stepwise : goal.returns-else-ahead-self-clause-stepwise
returns-else-ahead-self-clause-stepwise g c =
    let ok : IsTokenBucket c.args.self.now = subst IsTokenBucket c.self.view_is c.self.invariant in
    let credits = bucket_at-credits c.args.self.now c.args.time ok c.requires.not_past in
    let early = subst (λ (b : TokenBucket). c.args.time - b.time < b.period) c.self.view_is (omega arith) in
    ap (λ b. b.credits) (bucket_at-same c.args.self.now c.args.time ok early) ∙ credits
