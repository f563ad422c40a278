use Rattle.std.proofs.Common.{sym, ◌∙◌, arith}
use Rattle.qos_profile.specs.declared.head.Head.TheVariants.{Port}
use Rattle.qos_profile.specs.Lookups.{is_there}
use Rattle.qos_profile.proofs.Ranges.{all-below, one-fails}
use Rattle.qos_profile.proofs.missing.has_ports.Goals as goal

pub returns-then-not-is_there : goal.returns-then-not-is_there
returns-then-not-is_there c =
    sym (one-fails (λ n. is_there c.args.sections.now (Port n)) c.args.count c.loop-n.n c.loop-n-test.true (sym c.is_there.ensures ∙ c.if-not-is_there.true))

pub returns : goal.returns
returns c =
    sym (all-below (λ n. is_there c.args.sections.now (Port n)) c.args.count (λ k below. c.loop-n.invariant k (omega arith)))
