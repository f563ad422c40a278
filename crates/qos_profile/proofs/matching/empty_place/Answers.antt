use Rattle.std.proofs.Common.{◌==◌, map, length, [], sym, ap, ◌∙◌, arith}
use Rattle.std.proofs.lemmas.List.{get_or-map, length-map}
use Rattle.std.proofs.lemmas.List.Sums.{position_or_len_is}
use borrow.Author.Count.{below_more}
use Rattle.qos_profile.proofs.matching.empty_place.Goals as goal

pub returns-then-is_empty : goal.returns-then-is_empty
returns-then-is_empty c =
    sym (position_or_len_is (λ p. length p == 0) (map (λ p. p.now) c.args.pattern.now) c.loop-place.place [] (omega (arith, length-map c.args.pattern.now (λ p. p.now))) c.loop-place.invariant (λ _. ap (λ q. length q == 0) (get_or-map (λ p. p.now) c.args.pattern.now c.loop-place.place _ [] c.loop-place-test.true) ∙ sym c.is_empty.ensures ∙ c.if-is_empty.true))

pub loop-place-preserved : goal.loop-place-preserved
loop-place-preserved c =
    below_more _ _ c.loop-place.invariant (ap (λ q. length q == 0) (get_or-map (λ p. p.now) c.args.pattern.now c.loop-place.place _ [] c.loop-place-test.true) ∙ sym c.is_empty.ensures ∙ c.if-is_empty.false)

pub returns : goal.returns
returns c =
    sym (position_or_len_is (λ p. length p == 0) (map (λ p. p.now) c.args.pattern.now) (length c.args.pattern.now) [] (omega (arith, length-map c.args.pattern.now (λ p. p.now))) (λ k below. c.loop-place.invariant k (omega arith)) (λ h. absurd (omega (arith, h, length-map c.args.pattern.now (λ p. p.now)))))
