use Rattle.std.proofs.Common.{length, ap, arith}
use Rattle.active_bitmap.proofs.WordLemmas.{length-bits_of}
use Rattle.active_bitmap.proofs.words.Words.len.Goals as goal

pub returns : goal.returns
returns c =
    omega (arith, c.len.ensures, c.self.inside.words.ok, length-bits_of c.self.inside.words.items, ap length c.self.view_is)
