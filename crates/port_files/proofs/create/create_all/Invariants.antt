use Rattle.std.proofs.Common.{◌≡◌, ℕ, List, Some, map, length, slice_get, string_bytes, vec_capacity, IsSome, IfSome}
use Rattle.port_files.specs.Change.{change_of}
use Rattle.port_files.specs.Among.{ChangesAmong}
use Rattle.port_files.specs.Outs.{AreNamed, IsCreatedIf}
use Rattle.port_files.proofs.create.create_all.Given as goal

-- the names that were passed are tried
abbrev pub invariant-loop-name : goal.invariant-loop-name
invariant-loop-name g l = record {
  count : length l.outs.items ≡ l.name-index;
  room : vec_capacity l.outs ≡ vec_capacity l.fn.outs;
  named : AreNamed g.H.Out.Sink (map string_bytes l.names) l.outs.items;
  created : g.H.Shelf.Tells l.fn.shelf → (n : ℕ) (name : List ℕ) → slice_get (map string_bytes l.names) n ≡ Some name
      → IsCreatedIf g.H.Out.Sink (change_of g.H.Shelf name l.fn.shelf l.shelf) (slice_get l.outs.items n);
  sure : (n : ℕ) (name : List ℕ) → slice_get (map string_bytes l.names) n ≡ Some name → g.H.Shelf.IsSureToWrite l.fn.shelf name
      → IfSome (slice_get l.outs.items n) (λ out. IsSome out × IfSome out g.H.Out.Sink.IsSure);
  others : ChangesAmong g.H.Shelf (map string_bytes l.names) l.fn.shelf l.shelf;
}
