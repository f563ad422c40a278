use Rattle.std.proofs.Common.{◌≡◌, ◌++◌, drop, map}
use Rattle.std.specs.List.{flat_map}
use Rattle.profile_print.specs.Written.{block_text}
use Rattle.profile_print.specs.Text.{meter_block}
use Rattle.profile_print.proofs.meter.write_meters.Given as goal

abbrev pub invariant-loop-meter : goal.invariant-loop-meter
invariant-loop-meter l = l.text ++ flat_map block_text (map meter_block (drop l.meter-index l.meters)) ≡ l.initial.text ++ flat_map block_text (map meter_block l.meters)
