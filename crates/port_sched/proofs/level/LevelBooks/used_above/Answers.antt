use Rattle.std.proofs.Common.{◌≡◌, ℕ, sum, map, ap, ◌∙◌, arith}
use Rattle.std.specs.List.{range_with_len}
use Rattle.std.proofs.lemmas.List.FromFn.{sum_by-map-range_with_len_more}
use Rattle.port_sched.specs.Level.{Level, used}
use Rattle.port_sched.specs.Books.{level_of}
use Rattle.port_sched.proofs.level.LevelBooks.used_above.Goals as goal

abbrev used_below : Level → ℕ → ℕ
used_below l n = sum (map (λ class. used class l) (range_with_len 0 n))

pub loop-class-preserved : goal.loop-class-preserved
loop-class-preserved c =
    let l = level_of c.args.self.now in
    let n = c.loop-class.class in
    let more = sum_by-map-range_with_len_more (λ x. x) (λ class. used class l) 0 n n (omega arith) in
    record { exact = omega (arith, more, c.loop-class.invariant.exact, c.used-total.ensures.exact); limit = omega (arith, c.loop-class.invariant.limit, c.used-total.ensures.limit) }

pub returns-clause-exact : goal.returns-clause-exact
returns-clause-exact c =
    let all : c.loop-class.class ≡ 12 = omega arith in
    c.loop-class.invariant.exact ∙ ap (used_below (level_of c.args.self.now)) all
