use Rattle.std.proofs.Common.{take}
use Rattle.std.specs.List.{All}
use Rattle.qos_profile.specs.Forms.{HasWeights}
use Rattle.qos_profile.proofs.forms.pipe_kinds.Given as goal

abbrev pub invariant-loop-kind : goal.invariant-loop-kind
invariant-loop-kind l = All HasWeights (take l.kind-index l.kinds)
