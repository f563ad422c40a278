-- One element of a list changed.
use Rattle.std.specs.Prelude.{◌≡◌, ℕ, List, ◌∷◌, ◌++◌, length}

-- the element at an index changed so, and no other did
pub record ChangesAt {X : Type 0} (R : X → X → Type 0) (i : ℕ) (before after : List X) : Type 0 where
  pub front : List X
  pub back : List X
  pub from : X
  pub to : X
  pub place : length front ≡ i
  pub before_is : before ≡ front ++ from ∷ back
  pub after_is : after ≡ front ++ to ∷ back
  pub changed : R from to
