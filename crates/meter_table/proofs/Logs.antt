-- A log with one more mark.
use Rattle.std.proofs.Common.{◌≡◌, ℕ, zero, suc, ◌+◌, ◌<◌, ◌≤◌, List, [], ◌∷◌, ◌++◌, Some, length, take, slice_get, cond, eqb, ◌⊎◌, false, ne_eqb, refl, ap, sym, ◌∙◌, subst, inl, inr, ⊎_elim, arith}
use Rattle.std.specs.List.{All}
use Rattle.std.proofs.lemmas.List.Sums.{sum_by-cons, sum_by-append, sum_by_push, fold_push, count_by-le-length}
use Rattle.std.proofs.lemmas.List.{length-append, get_or_append_left, get_or-append-add}
use Rattle.std.proofs.lemmas.Option.{slice_get_within, same_Some, none-some}
use Rattle.color_meter.specs.Setting.{Setting}
use Rattle.meter_table.specs.declared.mark.Mark.{Mark}
use Rattle.meter_table.specs.Log.{after_mark, meter_after, IsLegal, IsLegalLog, made_at}
use Rattle.meter_table.specs.Kept.{StandsIn}

module _ {X : Type 0} where
  -- an element stays where it is
  pub stays : (xs ys : List X) (i : ℕ) (x : X) → slice_get xs i ≡ Some x → slice_get (xs ++ ys) i ≡ Some x
  stays [] ys i x e = absurd (none-some x e)
  stays (z ∷ zs) ys zero x e = e
  stays (z ∷ zs) ys (suc i) x e = stays zs ys i x e

  -- the new last element
  pub stands_last : (xs : List X) (x : X) → slice_get (xs ++ x ∷ []) (length xs) ≡ Some x
  stands_last [] x = refl
  stands_last (z ∷ zs) x = stands_last zs x

  -- an element of the longer list is one of the shorter list or the last one
  pub at_push : (xs : List X) (y x : X) (i : ℕ) → slice_get (xs ++ y ∷ []) i ≡ Some x → (slice_get xs i ≡ Some x) ⊎ ((i ≡ length xs) × (y ≡ x))
  at_push [] y x zero e = inr (refl, same_Some y x e)
  at_push [] y x (suc i) e = absurd (none-some x e)
  at_push (z ∷ zs) y x zero e = inl e
  at_push (z ∷ zs) y x (suc i) e = ⊎_elim (λ h. inl h) (λ h. inr (ap suc h.0, h.1)) (at_push zs y x i e)

  pub take_push : (xs : List X) (y : X) (i : ℕ) → i ≤ length xs → take i (xs ++ y ∷ []) ≡ take i xs
  take_push xs y zero le = refl
  take_push [] y (suc i) le = absurd (omega arith)
  take_push (z ∷ zs) y (suc i) le = ap (λ l. z ∷ l) (take_push zs y i (omega arith))

  pub take_whole : (xs : List X) → take (length xs) xs ≡ xs
  take_whole [] = refl
  take_whole (z ∷ zs) = ap (λ l. z ∷ l) (take_whole zs)

-- a legal log with the meter's reply to one more packet
pub legal_push : (meter : ℕ) (setting : Setting) (log : List Mark) (mark : Mark) → IsLegalLog meter setting log → IsLegal meter setting log (length log) mark
    → IsLegalLog meter setting (log ++ mark ∷ [])
legal_push meter setting log mark legal last turn m at =
    let P : List Mark → ℕ → Mark → Type 0 = λ before t x. IsLegal meter setting before t x in
    ⊎_elim
    (λ old. let within = slice_get_within log turn m old in subst (λ before. IsLegal meter setting before turn m) (sym (take_push log mark turn (omega arith))) (legal turn m old))
    (λ new.
    let before : take turn (log ++ mark ∷ []) ≡ log = ap (λ t. take t (log ++ mark ∷ [])) new.0 ∙ take_push log mark (length log) (omega arith) ∙ take_whole log in
    subst (λ b. IsLegal meter setting b turn m) (sym before) (subst (λ x. IsLegal meter setting log turn x) new.1 (subst (λ t. IsLegal meter setting log t mark) (sym new.0) last)))
    (at_push log mark m turn at)

-- the meter after one more mark
pub meter_after_push : (setting : Setting) (log : List Mark) (mark : Mark) → meter_after setting (log ++ mark ∷ []) ≡ after_mark (meter_after setting log) mark
meter_after_push setting log mark = fold_push after_mark _ log mark

-- marks that stood still stand
pub stand_later : (log : List Mark) (mark : Mark) (marks : List Mark) → All (StandsIn log) marks → All (StandsIn (log ++ mark ∷ [])) marks
stand_later log mark marks stood k d lt = stays log (mark ∷ []) _ _ (stood k d lt)

-- marks that stand have turns below the log's length
pub turns_within : (log : List Mark) (marks : List Mark) → All (StandsIn log) marks → All (λ m. m.turn < length log) marks
turns_within log marks stood k d lt = slice_get_within log _ _ (stood k d lt)

-- marks of one turn, with one more mark
pub made_at_push : (turn : ℕ) (marks : List Mark) (mark : Mark) → made_at turn (marks ++ mark ∷ []) ≡ made_at turn marks + cond (eqb mark.turn turn) 1 0
made_at_push turn marks mark = sum_by_push (λ (m : Mark). cond (eqb m.turn turn) 1 0) marks mark

pub made_at-append : (turn : ℕ) (xs ys : List Mark) → made_at turn (xs ++ ys) ≡ made_at turn xs + made_at turn ys
made_at-append turn xs ys = sum_by-append (λ (m : Mark). cond (eqb m.turn turn) 1 0) xs ys

pub made_at-le : (turn : ℕ) (marks : List Mark) → made_at turn marks ≤ length marks
made_at-le turn marks = count_by-le-length (λ (m : Mark). eqb m.turn turn) marks

-- no mark of a list has a turn above all of its turns
pub made_at_none : (n : ℕ) (marks : List Mark) → All (λ m. m.turn < n) marks → made_at n marks ≡ 0
made_at_none n [] below = refl
made_at_none n (m ∷ ms) below =
    let here : m.turn < n = below 0 m (omega arith) in
    let rest = made_at_none n ms (λ k d lt. below (suc k) d (omega arith)) in
    let no : eqb m.turn n ≡ false = ne_eqb _ _ (λ e. omega arith) in
    let first : cond {A = ℕ} (eqb m.turn n) 1 0 ≡ 0 = ap (λ b. cond {A = ℕ} b 1 0) no in
    omega (arith, sum_by-cons (λ (x : Mark). cond (eqb x.turn n) 1 0) m ms)

module _ {X : Type 0} (P : X → Type 0) (xs ys : List X) where
  pub all_left : All P (xs ++ ys) → All P xs
  all_left h k d lt = subst P (get_or_append_left xs ys d k lt) (h k d (omega (arith, length-append xs ys)))

  pub all_right : All P (xs ++ ys) → All P ys
  all_right h k d lt = subst P (get_or-append-add xs ys k d) (h (length xs + k) d (omega (arith, length-append xs ys)))
