use Rattle.std.proofs.Common.{◌≡◌, ◌++◌, drop, map}
use Rattle.std.specs.List.{flat_map}
use Rattle.profile_print.specs.Written.{block_text}
use Rattle.profile_print.specs.Text.{rule_block}
use Rattle.profile_print.proofs.rule.write_rules.Given as goal

abbrev pub invariant-loop-rule : goal.invariant-loop-rule
invariant-loop-rule l = l.text ++ flat_map block_text (map (rule_block l.meters) (drop l.rule-index l.rules)) ≡ l.initial.text ++ flat_map block_text (map (rule_block l.meters) l.rules)
