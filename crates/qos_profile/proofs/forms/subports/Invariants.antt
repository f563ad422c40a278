use Rattle.std.proofs.Common.{◌≡◌, length, take}
use Rattle.std.specs.List.{All}
use Rattle.qos_profile.proofs.forms.subports.Given as goal

abbrev pub invariant-loop-subport : goal.invariant-loop-subport
invariant-loop-subport l = All (λ s. length s.sizes ≡ 13) (take l.subport-index l.subports)
