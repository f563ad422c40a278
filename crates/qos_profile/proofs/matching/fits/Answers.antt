use Rattle.std.proofs.Common.{map, sym, arith, ◌∙◌}
use Rattle.std.proofs.lemmas.List.{length-map}
use Rattle.qos_profile.proofs.Patterns.{fits-length, fits-word}
use Rattle.qos_profile.proofs.matching.fits.Goals as goal

pub returns-then-pattern-words-clause-value : goal.returns-then-pattern-words-clause-value
returns-then-pattern-words-clause-value c =
    sym (fits-length (map (λ p. p.now) c.args.pattern.now) (map (λ w. w.now) c.args.words.now) (λ e. omega (arith, e, length-map c.args.pattern.now (λ p. p.now), length-map c.args.words.now (λ w. w.now))))

pub returns-then-not-fits_word-clause-value : goal.returns-then-not-fits_word-clause-value
returns-then-not-fits_word-clause-value c =
    sym (fits-word c.args.pattern.now c.args.words.now c.loop-place.place _ _ _ _ (omega arith) (omega arith) c.fits_word.ensures c.if-not-fits_word.true) ∙ c.loop-place.invariant

pub loop-place-preserved : goal.loop-place-preserved
loop-place-preserved c =
    sym (fits-word c.args.pattern.now c.args.words.now c.loop-place.place _ _ _ _ (omega arith) (omega arith) c.fits_word.ensures c.if-not-fits_word.false) ∙ c.loop-place.invariant
