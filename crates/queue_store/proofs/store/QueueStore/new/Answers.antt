use Rattle.std.proofs.Common.{◌≡◌, ◌<◌, ◌^◌, [], map, ap, subst, ◌∙◌, sym}
use Rattle.std.specs.Prelude.{All}
use Rattle.std.proofs.lemmas.List.{get_or_default, take_all}
use Rattle.circular_buffer.specs.Buffer.{buffer}
use Rattle.queue_store.specs.Rings.{queues_of, AreWithin, filled_in}
use Rattle.queue_store.proofs.RingLemmas.{queues-new, within-new, none-filled}
use Rattle.queue_store.proofs.store.QueueStore.new.Goals as goal

pub invariant_of-result : goal.invariant_of-result
invariant_of-result g c =
    let sizes = c.args.sizes.now in
    let all : c.loop-size.rings.items ≡ map (buffer []) sizes = c.loop-size.invariant ∙ ap (map (buffer [])) (take_all c.loop-size.size-index sizes c.loop-size-test.false) in
    let short : All (λ n. n < 2 ^ 32) sizes = λ k d inside. rw (get_or_default sizes k d 0 inside) (c.type_inv.sizes k).fits in
    record { within = subst AreWithin (sym all) (within-new g.row.T.Denot sizes short); counted = none-filled g.row.T.Denot sizes ∙ ap filled_in (sym all) }

pub returns : goal.returns
returns g c =
    let sizes = c.args.sizes.now in
    let all : c.loop-size.rings.items ≡ map (buffer []) sizes = c.loop-size.invariant ∙ ap (map (buffer [])) (take_all c.loop-size.size-index sizes c.loop-size-test.false) in
    ap queues_of all ∙ queues-new g.row.T.Denot sizes
