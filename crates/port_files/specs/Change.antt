-- What some calls have made of the file of a name.
use Rattle.std.specs.Prelude.{◌≡◌, ℕ, List, ◌++◌, ◌∷◌, [], map, filter, Option}
use Rattle.std.specs.Str.{bytes_eq}
use Rattle.qos_io.specs.declared.shelf.Shelf.{Ghosts}
use Rattle.qos_io.specs.Bytes.{HoldsPrefix}
use Rattle.qos_io.specs.Fault.{HasRisen}
use Rattle.qos_io.specs.Kept.{Closing}

-- the file of a name before and after some calls of a shelf, what the sinks held that the shelf closed under that name
-- till then, and the shelf's counts of faults
pub record FileChange : Type 0 where
  pub name : List ℕ
  pub before : Option (List ℕ)
  pub after : Option (List ℕ)
  pub closed_before : List (List ℕ)
  pub closed_after : List (List ℕ)
  pub faults_before : ℕ
  pub faults_after : ℕ

-- what the sinks held that were closed under a name, the oldest first
abbrev pub closed_under : List ℕ → List Closing → List (List ℕ)
closed_under name closings = map (λ c. c.held) (filter (λ c. bytes_eq c.name name) closings)

abbrev pub change_of : {H In Out : Type 0} → Ghosts H In Out → List ℕ → H → H → FileChange
change_of G name old new = record {
  name = name;
  before = G.file old name;
  after = G.file new name;
  closed_before = closed_under name (G.closed old);
  closed_after = closed_under name (G.closed new);
  faults_before = G.faults old;
  faults_after = G.faults new;
}

-- the shelf counted a fault
abbrev pub Rose : FileChange → Type 0
Rose c = HasRisen c.faults_before c.faults_after

-- the file is as it was, and nothing was closed under its name
pub record IsKept (c : FileChange) : Type 0 where
  pub file : c.after ≡ c.before
  pub closed : c.closed_after ≡ c.closed_before

-- just one sink was closed under the name, and held these bytes: the file holds the first few of them, or all
pub record IsClosed (c : FileChange) (held : List ℕ) : Type 0 where
  pub closed : c.closed_after ≡ c.closed_before ++ held ∷ []
  pub file : HoldsPrefix held c.after
