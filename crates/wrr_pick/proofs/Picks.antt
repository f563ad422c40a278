-- Which queue is picked, and what a pick leaves.
use Rattle.std.proofs.Common.{◌≡◌, ℕ, ◌+◌, ◌-◌, ◌<◌, ◌≤◌, ◌⊎◌, Bool, true, false, not, ◌||◌, cond, leb, List, [], ◌∷◌, length, get_or, Some, slice_get, Contains, refl, sym, ◌∙◌, ap, subst, arith, inl, inr, zero, suc}
use Rattle.std.specs.List.{zip}
use Rattle.std.proofs.lemmas.Bool.{and_from, and_left, and_right, or_left, or_right, le-leb, lt-leb, cases_lt, cases_Bool}
use Rattle.std.proofs.lemmas.List.{get_or-map, get_or_default, length-map, ext_get_or}
use Rattle.std.proofs.lemmas.List.Folds.{list_all_at}
use Rattle.std.proofs.lemmas.List.Sums.{list_all-from_AllPass, position_or_len_is}
use Rattle.std.proofs.lemmas.Option.{get_or_from_slice_get, slice_get-get_or}
use Rattle.std.proofs.lemmas.Slice.Zip.{length-zip, get_or-zip}
use Rattle.wrr_pick.specs.RoundRobin.{has_fewest, picked_queue, lowered, RoundRobin, IsPicked, IsWithin}

-- a queue that is filled is one of the list
pub below-length : (fs : List Bool) (k : ℕ) → slice_get fs k ≡ Some true → k < length fs
below-length [] k h = absurd (cc)
below-length (f ∷ fs) zero h = omega arith
below-length (f ∷ fs) (suc k) h = omega (arith, below-length fs k h)

-- whether a queue of the list is filled
pub filled-or-not : (fs : List Bool) (k : ℕ) → k < length fs → (slice_get fs k ≡ Some true) ⊎ (get_or fs k false ≡ false)
filled-or-not fs k h =
    elim (cases_Bool (get_or fs k false)) [
      | inl is ↦ inl (slice_get-get_or fs k false h ∙ ap Some is)
      | inr is ↦ inr is
    ]

-- a pair of the list
pair-at : (ts : List ℕ) (fs : List Bool) (k : ℕ) (d : ℕ × Bool) → length ts ≡ length fs → k < length fs → get_or (zip ts fs) k d ≡ (get_or ts k 0, get_or fs k false)
pair-at ts fs k d e h =
    get_or-zip ts fs k d (omega arith) h ∙ ap (λ x. (x, get_or fs k d.1)) (get_or_default ts k d.0 0 (omega arith)) ∙ ap (λ x. (get_or ts k 0, x)) (get_or_default fs k d.1 false h)

-- the test of one other queue
not-fewer : ℕ → ℕ × Bool → Bool
not-fewer n other = not other.1 || leb n other.0

not-fewer-true : (ts : List ℕ) (fs : List Bool) (n k : ℕ) → k < length fs → (slice_get fs k ≡ Some true → n ≤ get_or ts k 0) → (not (get_or fs k false) || leb n (get_or ts k 0)) ≡ true
not-fewer-true ts fs n k h least =
    elim (filled-or-not fs k h) [
      | inl filled ↦ or_right _ _ (le-leb n (get_or ts k 0) (least filled))
      | inr is ↦ or_left _ _ (ap not is)
    ]

fewest-true : (ts : List ℕ) (fs : List Bool) (b : ℕ) → length ts ≡ length fs → IsPicked ts fs b → has_fewest (zip ts fs) (get_or ts b 0, get_or fs b false) ≡ true
fewest-true ts fs b e h =
    and_from _ _ (get_or_from_slice_get fs b true false h.filled_itself) (list_all-from_AllPass (λ other. not other.1 || leb (get_or ts b 0) other.0) (zip ts fs) (λ k d below.
    let inside : k < length fs = omega (arith, length-zip ts fs) in
    ap (λ (q : ℕ × Bool). not q.1 || leb (get_or ts b 0) q.0) (pair-at ts fs k d e inside) ∙ not-fewer-true ts fs (get_or ts b 0) k inside (h.least k)))

fewest-false : (ts : List ℕ) (fs : List Bool) (b k : ℕ) → length ts ≡ length fs → IsPicked ts fs b → k < b → has_fewest (zip ts fs) (get_or ts k 0, get_or fs k false) ≡ false
fewest-false ts fs b k e h below =
    let inside : b < length fs = below-length fs b h.filled_itself in
    elim (filled-or-not fs k (omega arith)) [
      | inr is ↦ and_left _ _ is
      | inl filled ↦
          and_right _ _ (list_all_at (λ other. not other.1 || leb (get_or ts k 0) other.0) (zip ts fs) b (0, false) (omega (arith, length-zip ts fs)) (ap (λ (q : ℕ × Bool). not q.1 || leb (get_or ts k 0) q.0) (pair-at ts fs b (0, false) e inside) ∙ ap (λ x. not x || leb (get_or ts k 0) (get_or ts b 0)) (get_or_from_slice_get fs b true false h.filled_itself) ∙ lt-leb (get_or ts k 0) (get_or ts b 0) (h.first k below filled)))
    ]

-- the picked queue is the one that is such
pub picked_queue-is : (ts : List ℕ) (fs : List Bool) (b : ℕ) → length ts ≡ length fs → IsPicked ts fs b → picked_queue ts fs ≡ b
picked_queue-is ts fs b e h =
    let p = has_fewest (zip ts fs) in
    let inside : b < length fs = below-length fs b h.filled_itself in
    position_or_len_is p (zip ts fs) b (0, false) (omega (arith, length-zip ts fs)) (λ k below. ap p (pair-at ts fs k (0, false) e (omega arith)) ∙ fewest-false ts fs b k e h below) (λ _. ap p (pair-at ts fs b (0, false) e inside) ∙ fewest-true ts fs b e h)

-- no queue is filled, or one of them is the picked one
abbrev IsSettled : List ℕ → List Bool → Type 0
IsSettled ts fs = ((k : ℕ) → slice_get fs k ≡ Some true → ⊥) ⊎ ((b : ℕ) × IsPicked ts fs b)

-- one more queue in front, which is not filled
front-empty : (t : ℕ) (ts : List ℕ) (fs : List Bool) (b : ℕ) → IsPicked ts fs b → IsPicked (t ∷ ts) (false ∷ fs) (suc b)
front-empty t ts fs b h = record {
  filled_itself = h.filled_itself;
  least = least;
  first = first;
}
  where
    least : (k : ℕ) → slice_get (false ∷ fs) k ≡ Some true → get_or ts b 0 ≤ get_or (t ∷ ts) k 0
    least zero filled = absurd (cc)
    least (suc k) filled = h.least k filled

    first : (k : ℕ) → k < suc b → slice_get (false ∷ fs) k ≡ Some true → get_or ts b 0 < get_or (t ∷ ts) k 0
    first zero below filled = absurd (cc)
    first (suc k) below filled = h.first k (omega arith) filled

-- one more queue in front, which is filled and has more tokens
front-more : (t : ℕ) (ts : List ℕ) (fs : List Bool) (b : ℕ) → IsPicked ts fs b → get_or ts b 0 < t → IsPicked (t ∷ ts) (true ∷ fs) (suc b)
front-more t ts fs b h more = record {
  filled_itself = h.filled_itself;
  least = least;
  first = first;
}
  where
    least : (k : ℕ) → slice_get (true ∷ fs) k ≡ Some true → get_or ts b 0 ≤ get_or (t ∷ ts) k 0
    least zero filled = omega arith
    least (suc k) filled = h.least k filled

    first : (k : ℕ) → k < suc b → slice_get (true ∷ fs) k ≡ Some true → get_or ts b 0 < get_or (t ∷ ts) k 0
    first zero below filled = more
    first (suc k) below filled = h.first k (omega arith) filled

-- a filled queue in front that no other has fewer tokens than
front-fewest : (t : ℕ) (ts : List ℕ) (fs : List Bool) → ((k : ℕ) → slice_get fs k ≡ Some true → t ≤ get_or ts k 0) → IsPicked (t ∷ ts) (true ∷ fs) 0
front-fewest t ts fs h = record {
  filled_itself = refl;
  least = least;
  first = λ k below _. absurd (omega arith);
}
  where
    least : (k : ℕ) → slice_get (true ∷ fs) k ≡ Some true → t ≤ get_or (t ∷ ts) k 0
    least zero filled = omega arith
    least (suc k) filled = h k filled

no-more : (fs : List Bool) → ((k : ℕ) → slice_get fs k ≡ Some true → ⊥) → (k : ℕ) → slice_get (false ∷ fs) k ≡ Some true → ⊥
no-more fs h zero filled = cc
no-more fs h (suc k) filled = h k filled

settled : (ts : List ℕ) (fs : List Bool) → length ts ≡ length fs → IsSettled ts fs
settled [] [] e = inl (λ k filled. cc)
settled [] (f ∷ fs) e = absurd (omega arith)
settled (t ∷ ts) [] e = absurd (omega arith)
settled (t ∷ ts) (false ∷ fs) e =
    elim (settled ts fs (omega arith)) [
      | inl none ↦ inl (no-more fs none)
      | inr (b, h) ↦ inr (suc b, front-empty t ts fs b h)
    ]
settled (t ∷ ts) (true ∷ fs) e =
    elim (settled ts fs (omega arith)) [
      | inl none ↦ inr (0, front-fewest t ts fs (λ k filled. absurd (none k filled)))
      | inr (b, h) ↦ elim (cases_lt (get_or ts b 0) t) [
        | inl more ↦ inr (suc b, front-more t ts fs b h more)
        | inr fewest ↦ inr (0, front-fewest t ts fs (λ k filled. omega (arith, h.least k filled)))
      ]
    ]

-- a list that has a filled queue has one at a place
filled-place : (fs : List Bool) → Contains fs true → (k : ℕ) × (slice_get fs k ≡ Some true)
filled-place fs (k, below, is) = (k, slice_get-get_or fs k true below ∙ ap Some is)

pub picked_queue-is_picked : (ts : List ℕ) (fs : List Bool) → length ts ≡ length fs → Contains fs true → IsPicked ts fs (picked_queue ts fs)
picked_queue-is_picked ts fs e some =
    elim (settled ts fs e) [
      | inl none ↦ let at = filled-place fs some in absurd (none at.0 at.1)
      | inr (b, h) ↦ subst (IsPicked ts fs) (sym (picked_queue-is ts fs b e h)) h
    ]

-- the tokens of one queue once the filled ones are lowered
pub get_or-lowered : (ts : List ℕ) (fs : List Bool) (by k : ℕ) → length ts ≡ length fs → k < length fs → get_or (lowered ts fs by) k 0 ≡ cond (get_or fs k false) (get_or ts k 0 - by) (get_or ts k 0)
get_or-lowered ts fs by k e h =
    get_or-map (λ (q : ℕ × Bool). cond q.1 (q.0 - by) q.0) (zip ts fs) k (0, false) 0 (omega (arith, length-zip ts fs)) ∙ ap (λ (q : ℕ × Bool). cond q.1 (q.0 - by) q.0) (pair-at ts fs k (0, false) e h)

pub lowered-filled : (ts : List ℕ) (fs : List Bool) (by k : ℕ) → length ts ≡ length fs → slice_get fs k ≡ Some true → get_or (lowered ts fs by) k 0 ≡ get_or ts k 0 - by
lowered-filled ts fs by k e h =
    get_or-lowered ts fs by k e (below-length fs k h) ∙ ap (λ f. cond f (get_or ts k 0 - by) (get_or ts k 0)) (get_or_from_slice_get fs k true false h)

-- the filled queue with the fewest tokens among the first i, or 4 where none of them is filled
pub record IsBestOf (ts : List ℕ) (fs : List Bool) (i best : ℕ) : Type 0 where
  pub bound : best ≤ 4
  pub before : best < 4 → best < i
  pub filled_itself : best < 4 → slice_get fs best ≡ Some true
  pub least : (k : ℕ) → k < i → slice_get fs k ≡ Some true → (best < 4) × (get_or ts best 0 ≤ get_or ts k 0)
  pub first : best < 4 → (k : ℕ) → k < best → slice_get fs k ≡ Some true → get_or ts best 0 < get_or ts k 0

pub best-none : (ts : List ℕ) (fs : List Bool) → IsBestOf ts fs 0 4
best-none ts fs = record {
  bound = omega arith;
  before = λ below. absurd (omega arith);
  filled_itself = λ below. absurd (omega arith);
  least = λ k below _. absurd (omega arith);
  first = λ below k _ _. absurd (omega arith);
}

-- the next queue is no better
pub best-keep : (ts : List ℕ) (fs : List Bool) (i best : ℕ) → IsBestOf ts fs i best → (slice_get fs i ≡ Some true → (best < 4) × (get_or ts best 0 ≤ get_or ts i 0)) → IsBestOf ts fs (i + 1) best
best-keep ts fs i best h next = record {
  bound = h.bound;
  before = λ below. omega (arith, h.before below);
  filled_itself = h.filled_itself;
  least = λ k below filled.
      elim (cases_lt k i) [
        | inl under ↦ h.least k under filled
        | inr over ↦
            let same : i ≡ k = omega arith in
            subst (λ j. slice_get fs j ≡ Some true → (best < 4) × (get_or ts best 0 ≤ get_or ts j 0)) same next filled
      ];
  first = h.first;
}

-- the next queue is filled, and the first that is or one with fewer tokens
pub best-take : (ts : List ℕ) (fs : List Bool) (i best : ℕ) → IsBestOf ts fs i best → i < 4 → slice_get fs i ≡ Some true → (best < 4 → get_or ts i 0 < get_or ts best 0) → IsBestOf ts fs (i + 1) i
best-take ts fs i best h inside is_filled fewer = record {
  bound = omega arith;
  before = λ below. omega arith;
  filled_itself = λ _. is_filled;
  least = λ k below filled.
      elim (cases_lt k i) [
        | inl under ↦
            let at = h.least k under filled in
            (inside, omega (arith, fewer at.0, at.1))
        | inr over ↦
            let same : i ≡ k = omega arith in
            (inside, subst (λ j. get_or ts i 0 ≤ get_or ts j 0) same (omega arith))
      ];
  first = λ _ k below filled. let at = h.least k below filled in omega (arith, fewer at.0, at.1);
}

pub best-done : (ts : List ℕ) (fs : List Bool) (i best : ℕ) → length fs ≤ i → Contains fs true → IsBestOf ts fs i best → (best < 4) × IsPicked ts fs best
best-done ts fs i best e some h =
    let at = filled-place fs some in
    let inside : best < 4 = (h.least at.0 (omega (arith, below-length fs at.0 at.1)) at.1).0 in (
      inside,
      record {
        filled_itself = h.filled_itself inside;
        least = λ k filled. (h.least k (omega (arith, below-length fs k filled)) filled).1;
        first = h.first inside;
      },
    )

-- the first i queues are lowered, and the others are as they were
pub record IsLoweredTo (old new : List ℕ) (fs : List Bool) (by i : ℕ) : Type 0 where
  pub same_len : length new ≡ length old
  pub done : (k : ℕ) → k < i → get_or new k 0 ≡ cond (get_or fs k false) (get_or old k 0 - by) (get_or old k 0)
  pub rest : (k : ℕ) → i ≤ k → get_or new k 0 ≡ get_or old k 0

pub IsLoweredTo-all : (old new : List ℕ) (fs : List Bool) (by i : ℕ) → length old ≡ length fs → length fs ≤ i → IsLoweredTo old new fs by i → new ≡ lowered old fs by
IsLoweredTo-all old new fs by i e all h =
    ext_get_or 0 new (lowered old fs by) (omega (arith, h.same_len, length-map (zip old fs) (λ (q : ℕ × Bool). cond q.1 (q.0 - by) q.0), length-zip old fs)) (λ k below. h.done k (omega (arith, h.same_len)) ∙ sym (get_or-lowered old fs by k e (omega (arith, h.same_len))))

-- lowered tokens are no more than before
lowered-le : (ts : List ℕ) (fs : List Bool) (by k : ℕ) → length ts ≡ length fs → k < length fs → get_or (lowered ts fs by) k 0 ≤ get_or ts k 0
lowered-le ts fs by k e h =
    elim (filled-or-not fs k h) [
      | inl filled ↦ omega (arith, lowered-filled ts fs by k e filled)
      | inr empty ↦
          let same : get_or (lowered ts fs by) k 0 ≡ get_or ts k 0 = get_or-lowered ts fs by k e h ∙ ap (λ f. cond f (get_or ts k 0 - by) (get_or ts k 0)) empty in
          omega arith
    ]

pub IsWithin-lowered : (w : RoundRobin) (fs : List Bool) (by : ℕ) → length fs ≡ 4 → IsWithin w → IsWithin (record w { tokens = lowered w.tokens fs by })
IsWithin-lowered w fs by e h = record {
  factors_len = h.factors_len;
  tokens_len = length-map (zip w.tokens fs) (λ (q : ℕ × Bool). cond q.1 (q.0 - by) q.0) ∙ omega (arith, length-zip w.tokens fs, h.tokens_len);
  factors_fit = h.factors_fit;
  tokens_fit = λ k below.
      omega (arith, h.tokens_fit k below, lowered-le w.tokens fs by k (omega (arith, h.tokens_len)) (omega arith));
}
