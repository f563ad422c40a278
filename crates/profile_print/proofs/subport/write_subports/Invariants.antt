use Rattle.std.proofs.Common.{◌≡◌, ◌++◌, drop}
use Rattle.std.specs.List.{flat_map}
use Rattle.profile_print.specs.Written.{block_text}
use Rattle.profile_print.specs.Text.{subport_blocks}
use Rattle.profile_print.proofs.subport.write_subports.Given as goal

abbrev pub invariant-loop-number : goal.invariant-loop-number
invariant-loop-number l = l.text ++ flat_map block_text (subport_blocks l.number (drop l.number l.ports)) ≡ l.initial.text ++ flat_map block_text (subport_blocks 0 l.ports)
