use Rattle.std.proofs.Common.{◌<◌, ◌∙◌, get_or, length, arith, sym}
use Rattle.std.proofs.lemmas.List.{ext_get_or, get_or-map, get_or_default, length-map, length-set}
use Rattle.std.proofs.lemmas.List.Edits.{fill_by_more}
use Rattle.profile_plan.specs.Whole.{bytes_in}
use Rattle.profile_plan.proofs.Quotients.{bytes_in-bound}
use Rattle.profile_plan.proofs.shaping.bytes_of_all.Goals as goal

pub loop-class-preserved : goal.loop-class-preserved
loop-class-preserved c = record {
  classes = omega (arith, length-set c.loop-class.bytes c.loop-class.class (bytes_in (get_or c.args.rates.now c.loop-class.class 0) c.args.ms));
  written = fill_by_more (λ k. bytes_in (get_or c.args.rates.now k 0) c.args.ms) c.loop-class.bytes c.loop-class.class 0 (omega arith) c.loop-class.invariant.written;
}

pub returns-clause-value : goal.returns-clause-value
returns-clause-value c =
    ext_get_or 0 _ _ (omega (arith, length-map c.args.rates.now (λ rate. bytes_in rate c.args.ms)))
    (λ k below.
    let within : k < length c.args.rates.now = omega arith in
    c.loop-class.invariant.written k (omega arith) ∙ sym (get_or-map (λ rate. bytes_in rate c.args.ms) c.args.rates.now k 0 0 within))

pub returns-clause-limits : goal.returns-clause-limits
returns-clause-limits c = λ k d below.
    let value = c.loop-class.invariant.written k (omega arith) in
    let bound = bytes_in-bound (get_or c.args.rates.now k 0) c.args.ms (c.requires.rates k 0 (omega arith)) c.requires.ms in
    omega (arith, value, bound, get_or_default c.loop-class.bytes k d 0 below)
