use Rattle.std.proofs.Common.{◌≡◌, ◌++◌, drop}
use Rattle.std.specs.List.{flat_map}
use Rattle.profile_print.specs.Written.{key_text, each_from}
use Rattle.profile_print.specs.Text.{code_key}
use Rattle.profile_print.proofs.codes.write_codes.Given as goal

abbrev pub invariant-loop-code : goal.invariant-loop-code
invariant-loop-code l = l.text ++ flat_map key_text (each_from code_key l.code (drop l.code l.table)) ≡ l.initial.text ++ flat_map key_text (each_from code_key 0 l.table)
