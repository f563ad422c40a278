use Rattle.std.proofs.Common.{ℕ, ◌≤◌, All, subst, sym}
use Rattle.profile_plan.proofs.Finding.{find-holds}
use Rattle.profile_plan.specs.Limits.{IsShaping}
use Rattle.profile_plan.specs.declared.shaping.Shaping.{Shaping}
use Rattle.profile_plan.proofs.profile.Profile.subport_kind.Goals as goal

IsKind : ℕ × Shaping → Type 0
IsKind kind = (kind.0 ≤ 63) × IsShaping kind.1

pub returns-clause-limits : goal.returns-clause-limits
unfolding IsKind
returns-clause-limits c =
    (find-holds IsKind _ _ _ (subst (λ kinds. All IsKind kinds) (sym c.as_slice.ensures) c.self.invariant.subport_kinds) c.subport_kind_among.ensures).1
