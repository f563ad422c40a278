use Rattle.color_meter.proofs.Rates.{rate-within}
use Rattle.color_meter.proofs.clock.Clock.new.Goals as goal

pub returns-clause-within : goal.returns-clause-within
returns-clause-within c = rate-within c.args.rate c.requires
