use Rattle.std.proofs.Common.{refl}
use Rattle.meter_table.proofs.Told.{next_is}
use Rattle.meter_table.proofs.words.next_words.Goals as goal

pub returns-clause-next : goal.returns-clause-next
returns-clause-next c =
    next_is _ _ _ _ _ c.meter_in-meter.result c.check-colour.new.self c.limits_are_kept.ensures c.setting_is_kept.ensures refl refl c.requires.at c.meter_in-meter.ensures c.check-colour.ensures c.running_words.ensures
