use Rattle.std.proofs.Common.{◌∙◌}
use Rattle.qos_pipeline.proofs.Goes.{goes_on-none, goes_on-then, halts-then}
use Rattle.qos_pipeline.proofs.Halted.{on_err}
use Rattle.qos_pipeline.proofs.ports.take_all.Goals as goal

pub loop-init : goal.loop-init
loop-init g c = record { goes_on = goes_on-none c.requires.goes; slots = c.requires.slots }

pub returns-in_err-take_one-clause-halts : goal.returns-in_err-take_one-clause-halts
returns-in_err-take_one-clause-halts g c =
    on_err c.from_residual.result (halts-then c.loop.invariant.goes_on c.in_err-take_one.ensures.halts)

pub loop-preserved : goal.loop-preserved
loop-preserved g c = record {
  goes_on = goes_on-then c.loop.invariant.goes_on c.in_ok-take_one.ensures.goes_on;
  slots = c.in_ok-take_one.ensures.slots ∙ c.loop.invariant.slots;
}

pub returns-clause-goes_on : goal.returns-clause-goes_on
returns-clause-goes_on g c = goes_on-then c.loop.invariant.goes_on c.in_ok-take_one.ensures.goes_on
