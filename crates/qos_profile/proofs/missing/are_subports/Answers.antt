use Rattle.std.proofs.Common.{sym, ◌∙◌, arith}
use Rattle.qos_profile.specs.declared.head.Head.TheVariants.{Subport}
use Rattle.qos_profile.specs.Lookups.{is_there}
use Rattle.qos_profile.proofs.Ranges.{all-below, one-fails}
use Rattle.qos_profile.proofs.missing.are_subports.Goals as goal

pub returns-then-not-is_there : goal.returns-then-not-is_there
returns-then-not-is_there c =
    sym (one-fails (λ k. is_there c.args.sections.now (Subport c.args.port k)) c.args.count c.loop-subport.subport c.loop-subport-test.true (sym c.is_there.ensures ∙ c.if-not-is_there.true))

pub returns : goal.returns
returns c =
    sym (all-below (λ k. is_there c.args.sections.now (Subport c.args.port k)) c.args.count (λ k below. c.loop-subport.invariant k (omega arith)))
