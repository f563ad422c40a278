use Rattle.std.proofs.Common.{◌<◌, length, ap, ◌∙◌, arith}
use Rattle.std.proofs.lemmas.List.{length-map}
use Rattle.queue_store.specs.Queues.{without_front}
use Rattle.queue_store.proofs.RingLemmas.{without_front-is}
use Rattle.queue_store.proofs.store.QueueStore.pop.Goals as goal
use Rattle.queue_store.proofs.store.QueueStore.pop.Goals.{then-is_empty, else-is_empty}

pub returns-clause-rest : goal.returns-clause-rest
returns-clause-rest g c =
    let rings = c.self.inside.rings.items in
    let ring = c.index_mut-ring.result.now in
    let within : c.args.queue < length rings = omega (arith, c.requires, length-map rings (λ r. r.items), ap (λ s. length s.lists) c.self.view_is) in
    let became = without_front-is rings c.args.queue ring within c.index_mut-ring.ensures.value ∙ ap (without_front c.args.queue) c.self.view_is in
    elim c.if-is_empty.branch [
      | then-is_empty w ↦ rw w.self-is (rw c.pop_front.ensures.items became)
      | else-is_empty w ↦ rw w.self-is (rw c.pop_front.ensures.items became)
    ]
