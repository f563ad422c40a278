use Rattle.std.proofs.Common.{◌≡◌, ◌++◌, drop}
use Rattle.std.specs.List.{flat_map}
use Rattle.profile_print.specs.Written.{block_text, each_from}
use Rattle.profile_print.specs.Text.{subport_block}
use Rattle.profile_print.proofs.subport.write_subports_of.Given as goal

abbrev pub invariant-loop-number : goal.invariant-loop-number
invariant-loop-number l = l.text ++ flat_map block_text (each_from (subport_block l.port) l.number (drop l.number l.subports)) ≡ l.initial.text ++ flat_map block_text (each_from (subport_block l.port) 0 l.subports)
