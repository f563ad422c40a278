use Rattle.std.proofs.Common.{◌≡◌, [], map, take}
use Rattle.circular_buffer.specs.Buffer.{buffer}
use Rattle.queue_store.proofs.store.QueueStore.new.Given as goal

abbrev pub invariant-loop-size : goal.invariant-loop-size
invariant-loop-size g l = l.rings.items ≡ map (buffer []) (take l.size-index l.sizes)
