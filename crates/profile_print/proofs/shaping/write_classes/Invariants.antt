use Rattle.std.proofs.Common.{◌≡◌, ◌++◌, drop}
use Rattle.std.specs.List.{flat_map}
use Rattle.profile_print.specs.Written.{key_text, each_from}
use Rattle.profile_print.specs.Text.{class_key}
use Rattle.profile_print.proofs.shaping.write_classes.Given as goal

abbrev pub invariant-loop-class : goal.invariant-loop-class
invariant-loop-class l = l.text ++ flat_map key_text (each_from (class_key l.what) l.class (drop l.class l.numbers)) ≡ l.initial.text ++ flat_map key_text (each_from (class_key l.what) 0 l.numbers)
