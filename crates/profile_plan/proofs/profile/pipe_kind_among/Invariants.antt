use Rattle.std.proofs.Common.{◌≡◌, ◌==◌, drop, find}
use Rattle.profile_plan.proofs.profile.pipe_kind_among.Given as goal

abbrev pub invariant-loop-kind : goal.invariant-loop-kind
invariant-loop-kind l = find (λ k. k.number == l.number) (drop l.kind-index l.kinds) ≡ find (λ k. k.number == l.number) l.kinds
