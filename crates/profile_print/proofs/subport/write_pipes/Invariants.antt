use Rattle.std.proofs.Common.{◌≡◌, ◌++◌, drop}
use Rattle.std.specs.List.{flat_map}
use Rattle.profile_print.specs.Written.{key_text, each_from}
use Rattle.profile_print.specs.Text.{pipe_key}
use Rattle.profile_print.proofs.subport.write_pipes.Given as goal

abbrev pub invariant-loop-pipe : goal.invariant-loop-pipe
invariant-loop-pipe l = l.text ++ flat_map key_text (each_from pipe_key l.pipe (drop l.pipe l.kinds)) ≡ l.initial.text ++ flat_map key_text (each_from pipe_key 0 l.kinds)
