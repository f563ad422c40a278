use Rattle.std.proofs.Common.{◌<◌, length, ap, ◌∙◌, arith}
use Rattle.std.proofs.lemmas.List.{length-map}
use Rattle.queue_store.specs.Queues.{joined}
use Rattle.queue_store.proofs.RingLemmas.{joined-is}
use Rattle.queue_store.proofs.store.QueueStore.put.Goals as goal

pub returns-in-Ok-clause-joined : goal.returns-in-Ok-clause-joined
returns-in-Ok-clause-joined g c =
    let rings = c.self.inside.rings.items in
    let ring = c.index_mut-ring.result.now in
    let within : c.args.queue < length rings = omega (arith, c.requires, length-map rings (λ r. r.items), ap (λ s. length s.lists) c.self.view_is) in
    let became = joined-is rings c.args.queue ring within c.index_mut-ring.ensures.value c.args.t ∙ ap (joined c.args.queue c.args.t) c.self.view_is in
    rw c.in-Ok.ensures.ok became
