use Rattle.std.proofs.Common.{◌≡◌, ◌++◌, drop}
use Rattle.std.specs.List.{flat_map}
use Rattle.profile_print.specs.Written.{block_text, each_from}
use Rattle.profile_print.specs.Text.{port_block}
use Rattle.profile_print.proofs.port.write_ports.Given as goal

abbrev pub invariant-loop-number : goal.invariant-loop-number
invariant-loop-number l = l.text ++ flat_map block_text (each_from port_block l.number (drop l.number l.ports)) ≡ l.initial.text ++ flat_map block_text (each_from port_block 0 l.ports)
