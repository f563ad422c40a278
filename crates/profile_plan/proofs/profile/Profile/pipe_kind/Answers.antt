use Rattle.std.proofs.Common.{All, subst, sym}
use Rattle.profile_plan.proofs.Finding.{find-holds}
use Rattle.profile_plan.specs.Limits.{IsPipeKind}
use Rattle.profile_plan.proofs.profile.Profile.pipe_kind.Goals as goal

pub returns-clause-limits : goal.returns-clause-limits
returns-clause-limits c =
    find-holds IsPipeKind _ _ _ (subst (λ kinds. All IsPipeKind kinds) (sym c.as_slice.ensures) c.self.invariant.pipe_kinds) c.pipe_kind_among.ensures
