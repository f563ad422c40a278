-- The marks that seats made, where one more is made and where those of some seats and of others are put together.
use Rattle.std.proofs.Common.{◌≡◌, ℕ, zero, suc, ◌+◌, List, [], ◌∷◌, ◌++◌, Some, length, slice_get, inl, inr, ◌⊎◌, ⊎_elim, refl, ap, sym, ◌∙◌, subst, arith}
use Rattle.std.proofs.lemmas.Option.{same_Some, none-some}
use native.Mathlib.Decide.{ℕ_discrete}
use mathlib.Core.Logic.{dite}
use Rattle.meter_table.specs.declared.mark.Mark.{Mark}
use Rattle.meter_table.specs.declared.seat.MeterSeat.{MeterSeat}
use Rattle.meter_table.specs.Laws.{HasMarked}
use Rattle.meter_table.specs.Logs.{AreAllMarks, IsMadeBy, Among}
use Rattle.meter_table.specs.Seats.{marks_by}
use Rattle.meter_table.proofs.Logs.{at_push, stands_last, stays}

module _ {X : Type 0} where
  -- an element of two lists is one of the first or one of the second
  at_append : (xs ys : List X) (i : ℕ) (x : X) → slice_get (xs ++ ys) i ≡ Some x → (slice_get xs i ≡ Some x) ⊎ ((k : ℕ) × (slice_get ys k ≡ Some x))
  at_append [] ys i x e = inr (i, e)
  at_append (z ∷ zs) ys zero x e = inl e
  at_append (z ∷ zs) ys (suc i) x e = ⊎_elim (λ h. inl h) (λ h. inr h) (at_append zs ys i x e)

  after_first : (xs ys : List X) (i : ℕ) (x : X) → slice_get ys i ≡ Some x → slice_get (xs ++ ys) (length xs + i) ≡ Some x
  after_first [] ys i x e = ap (slice_get ys) (let same : 0 + i ≡ i = omega arith in same) ∙ e
  after_first (z ∷ zs) ys i x e = ap (slice_get (z ∷ (zs ++ ys))) (let same : suc (length zs) + i ≡ suc (length zs + i) = omega arith in same) ∙ after_first zs ys i x e

  only : (y x : X) (i : ℕ) → slice_get (y ∷ []) i ≡ Some x → y ≡ x
  only y x zero e = same_Some y x e
  only y x (suc i) e = absurd (none-some x e)

-- what one seat made
made_alone : (seat : MeterSeat) (mark : Mark) → IsMadeBy (seat ∷ []) mark → Among (marks_by mark.meter seat) mark
made_alone seat mark by = subst (λ s. Among (marks_by mark.meter s) mark) (sym (only seat by.1 by.0 by.2)) by.3

pub none_made : (seats : List MeterSeat) → ((n : ℕ) (seat : MeterSeat) → slice_get seats n ≡ Some seat → (meter : ℕ) → marks_by meter seat ≡ []) → AreAllMarks seats []
none_made seats none = record {
  made = λ mark among. absurd (none-some mark among.1);
  all = λ mark by. absurd (none-some mark (ap (λ l. slice_get l by.3.0) (sym (none by.0 by.1 by.2 mark.meter)) ∙ by.3.1));
}

pub one_more_made : (seat after : MeterSeat) (mark : Mark) (marks : List Mark) → AreAllMarks (seat ∷ []) marks → HasMarked seat after mark → AreAllMarks (after ∷ []) (marks ++ mark ∷ [])
one_more_made seat after mark marks are has = record {
  made = λ x among. (
    0,
    after,
    refl,
    ⊎_elim
        (λ old.
        let was = made_alone seat x (are.made x (among.0, old)) in
        dite (ℕ_discrete x.meter mark.meter)
        (λ is.
        let before = ap (λ n. slice_get (marks_by n seat) was.0) (sym is) ∙ was.1 in
        let there = stays (marks_by mark.meter seat) (mark ∷ []) was.0 x before in
        (was.0, ap (λ n. slice_get (marks_by n after) was.0) is ∙ ap (λ l. slice_get l was.0) has.made ∙ there))
        (λ not. (was.0, ap (λ l. slice_get l was.0) (has.others x.meter not) ∙ was.1)))
        (λ last.
        let n = length (marks_by mark.meter seat) in
        subst (λ m. Among (marks_by m.meter after) m) last.1 (n, ap (λ l. slice_get l n) has.made ∙ stands_last (marks_by mark.meter seat) mark))
        (at_push marks mark x among.0 among.1),
  );
  all = λ x by.
      let now = made_alone after x by in
      let older : Among (marks_by x.meter seat) x → Among (marks ++ mark ∷ []) x = λ was.
      let among = are.all x (0, seat, refl, was) in (among.0, stays marks (mark ∷ []) among.0 x among.1) in
      dite (ℕ_discrete x.meter mark.meter)
      (λ is.
      ⊎_elim
      (λ old. older (now.0, ap (λ n. slice_get (marks_by n seat) now.0) is ∙ old))
      (λ last. (length marks, stands_last marks mark ∙ ap Some last.1))
      (at_push (marks_by mark.meter seat) mark x now.0 (ap (λ l. slice_get l now.0) (sym has.made) ∙ ap (λ n. slice_get (marks_by n after) now.0) (sym is) ∙ now.1)))
      (λ not. older (now.0, ap (λ l. slice_get l now.0) (sym (has.others x.meter not)) ∙ now.1));
}

pub together_made : (seats others : List MeterSeat) (marks more : List Mark) → AreAllMarks seats marks → AreAllMarks others more → AreAllMarks (seats ++ others) (marks ++ more)
together_made seats others marks more are are' = record {
  made = λ x among.
      ⊎_elim
      (λ old. let by = are.made x (among.0, old) in (by.0, by.1, stays seats others by.0 by.1 by.2, by.3))
      (λ new. let by = are'.made x new in (length seats + by.0, by.1, after_first seats others by.0 by.1 by.2, by.3))
      (at_append marks more among.0 x among.1);
  all = λ x by.
      ⊎_elim
      (λ first. let has = are.all x (by.0, by.1, first, by.3) in (has.0, stays marks more has.0 x has.1))
      (λ second. let has = are'.all x (second.0, by.1, second.1, by.3) in (length marks + has.0, after_first marks more has.0 x has.1))
      (at_append seats others by.0 by.1 by.2);
}
