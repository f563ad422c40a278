use Rattle.color_meter.proofs.Limits.{checked-limits}
use Rattle.color_meter.proofs.laws.limits_are_kept.Goals as goal

pub returns : goal.returns
returns _ = checked-limits
