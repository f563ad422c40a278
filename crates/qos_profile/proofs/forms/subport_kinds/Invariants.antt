use Rattle.std.proofs.Common.{take}
use Rattle.std.specs.List.{All}
use Rattle.qos_profile.specs.Forms.{HasClasses}
use Rattle.qos_profile.proofs.forms.subport_kinds.Given as goal

abbrev pub invariant-loop-kind : goal.invariant-loop-kind
invariant-loop-kind l = All (λ k. HasClasses k.1) (take l.kind-index l.kinds)
