-- qos_profile/proofs/build/plan/plan/Answers.antt
use Rattle.std.proofs.Common.{ap, subst, sym, ◌∙◌}
use Rattle.profile_plan.specs.Limits.{IsPool}
use Rattle.qos_profile.specs.Fits.{FitCodes}
use Rattle.qos_profile.specs.Planned.{pool_of, codes_of, plan_of}
use Rattle.qos_profile.proofs.build.plan.plan.Goals as goal

pub pool-requires : goal.pool-requires
pool-requires c = subst IsPool (ap pool_of (sym c.facts_at.ensures)) c.requires.fits.pool

pub codes-requires : goal.codes-requires
codes-requires c = subst FitCodes (sym c.facts_at-2.ensures) c.requires.fits.codes

pub returns : goal.returns
unfolding plan_of
returns c = λ i. record {
  pool = (c.pool.ensures ∙ ap pool_of c.facts_at.ensures) i;
  ports = c.in_ok-ports.ensures i;
  subport_kinds = c.in_ok-subport_kinds.ensures i;
  pipe_kinds = c.in_ok-pipe_kinds.ensures i;
  codes = (c.codes.ensures ∙ ap codes_of c.facts_at-2.ensures) i;
  meters = c.in_ok-meters.ensures i;
  rules = c.in_ok-rules.ensures i;
  skipped = c.in_ok-skipped.ensures i;
}
