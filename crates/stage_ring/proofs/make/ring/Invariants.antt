use Rattle.std.proofs.Common.{◌≡◌, ℕ, ◌<◌, ◌≤◌, length, slice_index_or, vec_capacity}
use Rattle.std.specs.Arc.{arc_value}
use Rattle.crossbeam_queue.specs.Passes.{view, IsPassOf, ruled_capacity}
use Rattle.stage_ring.specs.declared.outlet.Outlet.{Outlet}
use Rattle.stage_ring.specs.Line.{inlet_of}
use Rattle.stage_ring.specs.Ends.{IsNew}
use Rattle.stage_ring.proofs.make.ring.Given as goal

abbrev pub invariant-loop-number : goal.invariant-loop-number
invariant-loop-number g l = record {
  own : IsPassOf (arc_value l.line) l.pass;
  knows : view l.pass ≡ inlet_of l.senders l.number;
  holds : ruled_capacity (arc_value l.line) ≡ l.capacity;
  count : length l.outlets.items ≡ l.number;
  fresh : (k : ℕ) (d : Outlet) → k < length l.outlets.items → IsNew l.pass.table_id l.capacity l.senders k (slice_index_or l.outlets.items k d);
  room : l.senders ≤ vec_capacity l.outlets;
}
