-- One element of a list changed.
use Rattle.std.proofs.Common.{◌≡◌, ◌≢◌, ◌<◌, ◌≤◌, ℕ, zero, suc, ◌+◌, List, [], ◌∷◌, ◌++◌, length, set, Some, map}
use Rattle.std.proofs.Common.{refl, sym, ap, ◌∙◌, subst, arith, length-append, ⊎_elim}
use Rattle.std.specs.List.{slice_get, sum_by}
use Rattle.std.proofs.lemmas.Bool.{cases_eq}
use Rattle.std.proofs.lemmas.Option.{get_or_from_slice_get, slice_get_within}
use Rattle.std.proofs.lemmas.List.Sums.{sum_by-append, sum_by-cons, get_or-le-sum_by}
use Rattle.qos_pipeline.specs.Changes.{ChangesAt}

-- an element is one
pub some-same : {X : Type 0} {x y : X} → Some x ≡ Some y → x ≡ y
some-same is = cc

module _ {X : Type 0} where
  -- each index within has an element
  pub there : (xs : List X) (i : ℕ) → i < length xs → (x : X) × (slice_get xs i ≡ Some x)
  there [] i within = absurd (omega arith)
  there (x ∷ xs) zero within = (x, refl)
  there (x ∷ xs) (suc i) within = there xs i (omega arith)

  -- so it has one in a list as long as another that has one
  pub there-too : {Y : Type 0} (xs : List X) (ys : List Y) (i : ℕ) (y : Y) → length ys ≡ length xs → slice_get ys i ≡ Some y
      → (x : X) × (slice_get xs i ≡ Some x)
  there-too xs ys i y count is = there xs i (omega (arith, count, slice_get_within ys i y is))

  pub at-least : (size : X → ℕ) (xs : List X) (i : ℕ) (x : X) → slice_get xs i ≡ Some x → size x ≤ sum_by size xs
  at-least size xs i x is =
      subst (λ y. size y ≤ sum_by size xs) (get_or_from_slice_get xs i x x is)
      (get_or-le-sum_by size xs i x (slice_get_within xs i x is))

  at-place : (front back : List X) (x : X) → slice_get (front ++ x ∷ back) (length front) ≡ Some x
  at-place [] back x = refl
  at-place (y ∷ front) back x = at-place front back x

  at-other : (front back : List X) (x y : X) (n : ℕ) → n ≢ length front
      → slice_get (front ++ y ∷ back) n ≡ slice_get (front ++ x ∷ back) n
  at-other [] back x y zero other = absurd (other refl)
  at-other [] back x y (suc n) other = refl
  at-other (z ∷ front) back x y zero other = refl
  at-other (z ∷ front) back x y (suc n) other = at-other front back x y n (λ same. other (ap suc same))

module _ {X : Type 0} (R : X → X → Type 0) where
  -- an element that is set changes
  pub set-changes : (xs : List X) (i : ℕ) (x y : X) → slice_get xs i ≡ Some x → R x y → ChangesAt R i xs (set xs i y)
  set-changes [] i x y is r = absurd (let within = slice_get_within [] i x is in omega arith)
  set-changes (z ∷ xs) zero x y is r =
      record {
        front = [];
        back = xs;
        from = z;
        to = y;
        place = refl;
        before_is = refl;
        after_is = refl;
        changed = subst (λ w. R w y) (let same : x ≡ z = cc in same) r;
      }
  set-changes (z ∷ xs) (suc i) x y is r =
      let c = set-changes xs i x y is r in
      record {
        front = z ∷ c.front;
        back = c.back;
        from = c.from;
        to = c.to;
        place = ap suc c.place;
        before_is = ap (λ ws. z ∷ ws) c.before_is;
        after_is = ap (λ ws. z ∷ ws) c.after_is;
        changed = c.changed;
      }

  module _ (i : ℕ) (before after : List X) (c : ChangesAt R i before after) where
    pub changes-count : length after ≡ length before
    changes-count = omega (
      arith,
      ap length c.before_is,
      ap length c.after_is,
      length-append c.front (c.from ∷ c.back),
      length-append c.front (c.to ∷ c.back),
    )

    pub changes-from : slice_get before i ≡ Some c.from
    changes-from = rw (c.before_is, sym c.place) (at-place c.front c.back c.from)

    pub changes-to : slice_get after i ≡ Some c.to
    changes-to = rw (c.after_is, sym c.place) (at-place c.front c.back c.to)

    pub changes-other : (n : ℕ) → n ≢ i → slice_get after n ≡ slice_get before n
    changes-other n other =
        rw (c.before_is, c.after_is) (at-other c.front c.back c.from c.to n (λ same. other (same ∙ c.place)))

    -- what is so of the one that changed, and of the others, is so of each
    pub changes-each : (T : ℕ → X → X → Type 0) → T i c.from c.to
        → ((n : ℕ) (x : X) → n ≢ i → slice_get before n ≡ Some x → T n x x)
        → (n : ℕ) (x y : X) → slice_get before n ≡ Some x → slice_get after n ≡ Some y → T n x y
    changes-each T one others n x y was is =
        ⊎_elim
        (λ (same : n ≡ i).
        let from : c.from ≡ x = some-same (sym changes-from ∙ ap (slice_get before) (sym same) ∙ was) in
        let to : c.to ≡ y = some-same (sym changes-to ∙ ap (slice_get after) (sym same) ∙ is) in
        let at : T n c.from c.to = subst (λ k. T k c.from c.to) (sym same) one in
        let half : T n x c.to = subst (λ w. T n w c.to) from at in
        subst (λ w. T n x w) to half)
        (λ (other : n ≢ i).
        let same : x ≡ y = some-same (sym was ∙ sym (changes-other n other) ∙ is) in
        subst (λ w. T n x w) same (others n x other was))
        (cases_eq n i)

    pub changes-all : (P : ℕ → X → Type 0) → P i c.to → ((n : ℕ) (x : X) → n ≢ i → slice_get before n ≡ Some x → P n x)
        → (n : ℕ) (y : X) → slice_get after n ≡ Some y → P n y
    changes-all P one others n y is =
        let was = there-too before after n y changes-count is in
        changes-each (λ n x y. P n y) one others n was.0 y was.1 is

    -- a sum grows by what the changed one grows by
    pub changes-sum : (size : X → ℕ) (more : ℕ) → size c.to ≡ size c.from + more → sum_by size after ≡ sum_by size before + more
    changes-sum size more grows = omega (
      arith,
      grows,
      ap (sum_by size) c.before_is,
      ap (sum_by size) c.after_is,
      sum_by-append size c.front (c.from ∷ c.back),
      sum_by-append size c.front (c.to ∷ c.back),
      sum_by-cons size c.from c.back,
      sum_by-cons size c.to c.back,
    )

module _ {X Y : Type 0} (f : X → Y) (size : Y → ℕ) where
  -- a sum over what is seen of a list
  pub sum-seen : (xs : List X) → sum_by size (map f xs) ≡ sum_by (λ x. size (f x)) xs
  sum-seen [] = refl
  sum-seen (x ∷ xs) = omega (
    arith,
    sum-seen xs,
    sum_by-cons size (f x) (map f xs),
    sum_by-cons (λ (z : X). size (f z)) x xs,
  )
