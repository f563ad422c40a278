use Rattle.std.proofs.Common.{◌≡◌, ◌++◌, drop, map}
use Rattle.std.specs.List.{flat_map}
use Rattle.profile_print.specs.Written.{block_text}
use Rattle.profile_print.specs.Text.{subport_kind_block}
use Rattle.profile_print.proofs.shaping.write_subport_kinds.Given as goal

abbrev pub invariant-loop-kind : goal.invariant-loop-kind
invariant-loop-kind l = l.text ++ flat_map block_text (map subport_kind_block (drop l.kind-index l.kinds)) ≡ l.initial.text ++ flat_map block_text (map subport_kind_block l.kinds)
