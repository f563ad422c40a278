use Rattle.std.proofs.Common.{map, arith, ap, ◌∙◌}
use Rattle.std.proofs.lemmas.List.{length-set, length-map}
use Rattle.qos_profile.specs.Values.{number_or_zero}
use Rattle.qos_profile.proofs.Numbers.{filled, filled-more}
use Rattle.qos_profile.proofs.value.sizes.Goals as goal

pub loop-place-preserved : goal.loop-place-preserved
loop-place-preserved c = record {
  count = omega (arith, length-set c.loop-place.sizes c.loop-place.place c.number_or_zero.result, c.loop-place.invariant.count);
  written = filled-more c.loop-place.sizes (map (λ w. w.now) c.args.words.now) c.loop-place.place _ (omega (arith, c.loop-place.invariant.count)) (c.number_or_zero.ensures ∙ ap number_or_zero c.word_at.ensures) c.loop-place.invariant.written;
}

pub returns : goal.returns
returns c =
    filled c.loop-place.sizes (map (λ w. w.now) c.args.words.now) (omega (arith, c.loop-place.invariant.count, length-map c.args.words.now (λ w. w.now))) (λ k below. c.loop-place.invariant.written k (omega (arith, length-map c.args.words.now (λ w. w.now))))
