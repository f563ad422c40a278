use Rattle.std.proofs.Common.{ltb, ap, ◌∙◌}
use Rattle.queue_store.specs.Queues.{has_packet}
use Rattle.queue_store.proofs.RingLemmas.{any-filled}
use Rattle.queue_store.proofs.store.QueueStore.has_packet.Goals as goal

pub returns : goal.returns
returns g c = ap (ltb 0) c.self.invariant.counted ∙ any-filled c.self.inside.rings.items ∙ ap has_packet c.self.view_is
