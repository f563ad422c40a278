use Rattle.std.proofs.Common.{◌≡◌, length}
use Rattle.port_tests.proofs.bitmaps.each_is_found.Given as goal

abbrev pub invariant-loop-bit : goal.invariant-loop-bit
invariant-loop-bit g l = length l.bitmap ≡ l.bits
