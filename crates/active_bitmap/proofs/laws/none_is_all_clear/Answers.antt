use Rattle.active_bitmap.proofs.NextLemmas.{none_is_all_clear}
use Rattle.active_bitmap.proofs.laws.none_is_all_clear.Goals as goal

pub returns : goal.returns
returns c = none_is_all_clear
