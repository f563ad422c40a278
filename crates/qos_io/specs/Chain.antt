-- Files that lead from the newest to the oldest.
use Rattle.std.specs.Prelude.{ℕ, true, false, List, [], ◌∷◌, ◌++◌}
use Rattle.std.specs.String.{string_bytes}
use Rattle.qos_io.specs.declared.files.Chain.{Chain, End, More'}
use Rattle.qos_io.specs.Kept.{Closing}

-- the names of the files and what they hold, the newest first
abbrev pub entries_of : Chain → List (List ℕ × List ℕ)
entries_of End = []
entries_of (More' p name bytes closed older) = (string_bytes name, bytes.items) ∷ entries_of older

-- those that a closing made, the oldest first
abbrev pub closings_of : Chain → List Closing
closings_of End = []
closings_of (More' p name bytes true older) = closings_of older ++ (record { name = string_bytes name; held = bytes.items } ∷ [])
closings_of (More' p name bytes false older) = closings_of older
