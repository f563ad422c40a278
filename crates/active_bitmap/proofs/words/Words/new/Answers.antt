use Rattle.active_bitmap.proofs.WordLemmas.{bits_of-zeros}
use Rattle.active_bitmap.proofs.words.Words.new.Goals as goal

pub returns : goal.returns
returns c = rw (c.in_ok-vec.ensures.items_if_clones_equal (λ y e. e)) (bits_of-zeros c.args.words)
