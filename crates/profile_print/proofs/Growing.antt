-- A text that grows by what the items of a list give.
use Rattle.std.proofs.Common.{◌≡◌, ℕ, zero, suc, ◌+◌, ◌<◌, ◌≤◌, List, [], ◌∷◌, ◌++◌, length, get_or, drop, map, sym, ap, ◌∙◌, slice_get, Some}
use Rattle.std.specs.List.{flat_map}
use Rattle.std.proofs.lemmas.List.{append-nil, append_assoc, drop_more, drop_all}
use Rattle.std.proofs.lemmas.List.Concat.{flat_map-append}
use Rattle.profile_plan.specs.declared.port.PortPlan.{PortPlan}
use Rattle.profile_print.specs.Written.{block_text, each, each_from}
use Rattle.profile_print.specs.Text.{subport_block, subport_blocks}

module _ {X Y : Type 0} (t : Y → List ℕ) (f : ℕ → X → Y) where
  -- with numbers
  pub each_more : (xs : List X) (i : ℕ) (d : X) (old new : List ℕ) → i < length xs → new ≡ old ++ t (f i (get_or xs i d)) → new ++ flat_map t (each_from f (i + 1) (drop (i + 1) xs)) ≡ old ++ flat_map t (each_from f i (drop i xs))
  each_more xs i d old new below is =
      ap (λ bs. bs ++ flat_map t (each_from f (i + 1) (drop (i + 1) xs))) is
      ∙ append_assoc old (t (f i (get_or xs i d))) (flat_map t (each_from f (i + 1) (drop (i + 1) xs)))
      ∙ ap (λ ys. old ++ flat_map t (each_from f i ys)) (sym (drop_more xs i d below))

  pub each_all : (xs : List X) (i : ℕ) (old : List ℕ) → length xs ≤ i → old ++ flat_map t (each_from f i (drop i xs)) ≡ old
  each_all xs i old past = ap (λ ys. old ++ flat_map t (each_from f i ys)) (drop_all i xs past) ∙ append-nil old

module _ {X Y : Type 0} (t : Y → List ℕ) (f : X → Y) where
  -- without
  pub map_more : (xs : List X) (i : ℕ) (d : X) (old new : List ℕ) → i < length xs → new ≡ old ++ t (f (get_or xs i d)) → new ++ flat_map t (map f (drop (i + 1) xs)) ≡ old ++ flat_map t (map f (drop i xs))
  map_more xs i d old new below is =
      ap (λ bs. bs ++ flat_map t (map f (drop (i + 1) xs))) is
      ∙ append_assoc old (t (f (get_or xs i d))) (flat_map t (map f (drop (i + 1) xs)))
      ∙ ap (λ ys. old ++ flat_map t (map f ys)) (sym (drop_more xs i d below))

  pub map_all : (xs : List X) (i : ℕ) (old : List ℕ) → length xs ≤ i → old ++ flat_map t (map f (drop i xs)) ≡ old
  map_all xs i old past = ap (λ ys. old ++ flat_map t (map f ys)) (drop_all i xs past) ∙ append-nil old

-- an item that is there
pub item_there : {X : Type 0} (xs : List X) (i : ℕ) (x : X) → slice_get xs i ≡ Some x → get_or xs i x ≡ x
item_there [] i x e = absurd (cc)
item_there (y ∷ ys) zero x e = cc
item_there (y ∷ ys) (suc i) x e = item_there ys i x e

-- the subports of one more port
pub ports_more : (ports : List PortPlan) (i : ℕ) (d : PortPlan) (old new : List ℕ) → i < length ports → new ≡ old ++ flat_map block_text (each (subport_block i) (get_or ports i d).subports) → new ++ flat_map block_text (subport_blocks (i + 1) (drop (i + 1) ports)) ≡ old ++ flat_map block_text (subport_blocks i (drop i ports))
ports_more ports i d old new below is =
    let here = each (subport_block i) (get_or ports i d).subports in
    let later = subport_blocks (i + 1) (drop (i + 1) ports) in
    ap (λ bs. bs ++ flat_map block_text later) is
    ∙ append_assoc old (flat_map block_text here) (flat_map block_text later)
    ∙ ap (λ bs. old ++ bs) (sym (flat_map-append block_text here later))
    ∙ ap (λ ys. old ++ flat_map block_text (subport_blocks i ys)) (sym (drop_more ports i d below))

pub ports_all : (ports : List PortPlan) (i : ℕ) (old : List ℕ) → length ports ≤ i → old ++ flat_map block_text (subport_blocks i (drop i ports)) ≡ old
ports_all ports i old past =
    ap (λ ys. old ++ flat_map block_text (subport_blocks i ys)) (drop_all i ports past) ∙ append-nil old
