use Rattle.std.proofs.Common.{ap, ◌∙◌}
use Rattle.std.specs.List.{count_by}
use Rattle.queue_store.specs.Queues.{is_filled}
use Rattle.queue_store.proofs.RingLemmas.{filled-lists}
use Rattle.queue_store.proofs.store.QueueStore.filled.Goals as goal

pub returns : goal.returns
returns g c = c.self.invariant.counted ∙ filled-lists c.self.inside.rings.items ∙ ap (λ s. count_by is_filled s.lists) c.self.view_is
