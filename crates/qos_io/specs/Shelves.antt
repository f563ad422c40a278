-- What a call leaves of a shelf of any type, by the members of its trait.
use Rattle.std.specs.Prelude.{ℕ, List, Option}
use Rattle.qos_io.specs.declared.shelf.Shelf.{Ghosts}
use Rattle.qos_io.specs.Kept.{OthersStay}

-- the shelf is as it was but for the file of this name, if one is given
abbrev pub ChangesOnly : {H In Out : Type 0} → Ghosts H In Out → Option (List ℕ) → H → H → Type 0
ChangesOnly G name before after = OthersStay G.Tells G.file G.IsSureToRead G.IsSureToWrite name before after
