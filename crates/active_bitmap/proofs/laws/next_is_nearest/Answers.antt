use Rattle.active_bitmap.proofs.NextLemmas.{next_is_nearest}
use Rattle.active_bitmap.proofs.laws.next_is_nearest.Goals as goal

pub returns : goal.returns
returns c = next_is_nearest
