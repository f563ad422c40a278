use Rattle.std.proofs.lemmas.List.{append-nil, append_assoc}
use Rattle.profile_print.specs.Text.{rule_block}
use Rattle.profile_print.proofs.rule.write_rule.Goals as goal

pub returns : goal.returns
unfolding rule_block
returns c =
    rw (c.in_ok-write_meter_name.ensures, c.in_ok-write_code.ensures, c.in_ok-write_target.ensures, c.in_ok-write_tests.ensures, c.in_ok-head.ensures, c.from.ensures)
    (simp (append_assoc, append-nil))
