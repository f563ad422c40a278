use Rattle.std.proofs.Common.{take}
use Rattle.std.specs.List.{All}
use Rattle.qos_profile.specs.Forms.{HasSizes}
use Rattle.qos_profile.proofs.forms.ports.Given as goal

abbrev pub invariant-loop-port : goal.invariant-loop-port
invariant-loop-port l = All HasSizes (take l.port-index l.ports)
