use Rattle.std.proofs.Common.{◌≡◌}
use Rattle.std.specs.Ordering.{nat_cmp}
use Rattle.std.specs.Cmp.Lexicographic.{slice_cmp}
use Rattle.std.specs.FinMap as map
use Rattle.qos_io.specs.Chain.{entries_of}
use Rattle.qos_io.proofs.files.Files.get.Given as goal

-- the first file of that name is among those not passed yet
abbrev pub invariant-loop-at : goal.invariant-loop-at
invariant-loop-at l = map.get l.self.files l.name ≡ map.find (slice_cmp nat_cmp) l.name (entries_of l.at)
