use Rattle.std.proofs.Common.{◌≡◌, ◌++◌, ℕ, List, length, vec_capacity, OnOk}
use Rattle.std.specs.Vec.Iter.{into_iter_items, into_iter_len}
use Rattle.port_files.specs.Among.{ChangesAmong}
use Rattle.port_files.specs.Outs.{AllTell, AreNamed}
use Rattle.port_files.proofs.Shuts.{AreShut, AreToldOf, AreFine, AreNone}
use Rattle.port_files.proofs.close.close_all.Given as goal

-- the sinks that came are closed
abbrev pub invariant-loop-out : goal.invariant-loop-out
invariant-loop-out g l = record {
  parts : l.yielded ++ into_iter_items l.out-iterator ≡ l.fn.outs.items;
  left : into_iter_len l.out-iterator ≡ length (into_iter_items l.out-iterator);
  count : length l.failed.items ≡ length l.yielded;
  room : vec_capacity l.failed ≡ vec_capacity l.fn.failed;
  shut : g.H.Shelf.Tells l.fn.shelf → AllTell g.H.Out.Sink l.yielded
      → AreShut g.H.Shelf g.H.Out.Sink l.fn.shelf l.shelf l.yielded;
  told : g.H.Shelf.Tells l.fn.shelf → AllTell g.H.Out.Sink l.yielded
      → OnOk l.memory (AreToldOf g.H.Shelf g.H.Out.Sink l.fn.shelf l.shelf l.yielded l.failed.items);
  none : AreNone l.yielded l.failed.items;
  sure : AreFine g.H.Out.Sink l.yielded l.failed.items;
  others : (names : List (List ℕ)) → AreNamed g.H.Out.Sink names l.yielded → (g.H.Shelf.Tells l.fn.shelf → AllTell g.H.Out.Sink l.yielded)
      → ChangesAmong g.H.Shelf names l.fn.shelf l.shelf;
}
