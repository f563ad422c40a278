use Rattle.std.proofs.Common.{◌≡◌, vec_capacity}
use Rattle.pkt_slots.proofs.slots.Slots.give_all.Given as goal

abbrev pub invariant-loop-departure : goal.invariant-loop-departure
invariant-loop-departure l = (vec_capacity l.sent ≡ vec_capacity l.initial.sent) × (l.self.slot_bytes ≡ l.initial.self.slot_bytes)

abbrev pub decreases-loop-departure : goal.decreases-loop-departure
decreases-loop-departure l = goal.left-loop-departure l
