-- What holds of each element holds of the one that is found.
use Rattle.std.proofs.Common.{◌≡◌, suc, Bool, true, false, cond, List, [], ◌∷◌, Some, find, All, subst, arith}

same-some : {X : Type 0} (a b : X) → Some a ≡ Some b → a ≡ b
same-some a b e = cc

pub find-holds : {X : Type 0} (P : X → Type 0) (p : X → Bool) (xs : List X) (x : X) → All P xs → find p xs ≡ Some x → P x
find-holds P p [] x all e = absurd (cc)
find-holds {X} P p (y ∷ ys) x all e =
    elim (p y) as (λ t. cond t (Some y) (find p ys) ≡ Some x → P x) [
      | true ↦ λ h. subst P (same-some y x h) (all 0 y (omega arith))
      | false ↦ λ h. find-holds P p ys x (λ k d below. all (suc k) d (omega arith)) h
    ] e
