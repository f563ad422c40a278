use Rattle.std.proofs.Common.{take}
use Rattle.std.specs.List.{All}
use Rattle.qos_profile.specs.Forms.{HasActions}
use Rattle.qos_profile.proofs.forms.meters.Given as goal

abbrev pub invariant-loop-meter : goal.invariant-loop-meter
invariant-loop-meter l = All HasActions (take l.meter-index l.meters)
