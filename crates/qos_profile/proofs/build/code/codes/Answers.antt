-- qos_profile/proofs/build/code/codes/Answers.antt
use Rattle.std.proofs.Common.{arith}
use Rattle.qos_profile.proofs.Building.{coded-start, coded-next, coded-end, entry-valid}
use Rattle.qos_profile.proofs.build.code.codes.Goals as goal

pub loop-code-init : goal.loop-code-init
loop-code-init c = coded-start c.args.facts.now c.default_dscp-table.result c.default_dscp-table.ensures

pub set-requires : goal.set-requires
set-requires c =
    (omega arith, (c.loop-code-test.true, entry-valid c.args.facts.now c.loop-code.code c.get.result c.entry_or-entry.result c.value_at.result c.requires c.get.ensures.valid c.value_at.ensures c.entry_or-entry.ensures))

pub loop-code-preserved : goal.loop-code-preserved
loop-code-preserved c =
    coded-next c.args.facts.now c.loop-code.table c.set.new.self c.loop-code.code c.get.result c.entry_or-entry.result c.value_at.result c.loop-code.invariant c.loop-code-test.true c.get.ensures.value c.value_at.ensures c.entry_or-entry.ensures c.set.ensures

pub returns : goal.returns
returns c = coded-end c.args.facts.now c.loop-code.table c.loop-code.code c.loop-code.invariant c.loop-code-test.false
