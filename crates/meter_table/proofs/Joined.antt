-- Seats that become one.
use Rattle.std.proofs.Common.{◌≡◌, ◌≢◌, ℕ, zero, suc, ◌+◌, ◌-◌, ◌<◌, ◌≤◌, List, [], ◌∷◌, ◌++◌, Some, None, length, map, take, get_or, slice_get, inl, inr, ⊎_elim, refl, ap, sym, ◌∙◌, subst, arith}
use Rattle.std.proofs.lemmas.List.{length_push, take_all}
use Rattle.std.proofs.lemmas.Option.{same_Some}
use native.Mathlib.Decide.{ℕ_discrete}
use mathlib.Core.Logic.{dite}
use Rattle.crossbeam_utils.specs.Seq.{cell_view}
use Rattle.meter_table.specs.declared.rule.View.{View}
use Rattle.meter_table.specs.declared.seat.MeterSeat.{MeterSeat}
use Rattle.meter_table.specs.declared.table.MeterTable.{MeterTable}
use Rattle.meter_table.specs.Kept.{Knows, spent, both_views}
use Rattle.meter_table.specs.Seats.{marks_by, parts_at, view_at, HasPasses}
use Rattle.meter_table.proofs.Passes.{APass, OneChanged, marks_is, parts_is, view_is, now, others, has_passes}
use Rattle.meter_table.proofs.Tables.{passes_count}
use Rattle.meter_table.proofs.Dealt.{nothing_past}

module _ {A : Type 0} where
  -- the front of a front
  front : (xs : List A) (y : A) (n : ℕ) (zs : List A) → take n zs ≡ xs ++ y ∷ [] → (slice_get zs (length xs) ≡ Some y) × (xs ≡ take (length xs) zs)
  front xs y zero zs e = absurd (let lengths = ap length e in let one = length_push xs y in omega arith)
  front xs y (suc n) [] e = absurd (let lengths = ap length e in let one = length_push xs y in omega arith)
  front [] y (suc n) (z ∷ zs) e = (ap (λ l. slice_get l 0) e, refl)
  front (x ∷ xs) y (suc n) (z ∷ zs) e =
      let head = same_Some z x (ap (λ l. slice_get l 0) e) in
      let rest = front xs y n zs (ap (λ l. Rattle.std.proofs.Common.drop 1 l) e) in
      (rest.0, λ i. sym head i ∷ rest.1 i)

-- a seat that takes in another, of whose passes these are left
pub record Joining (t : MeterTable) (old other seat : MeterSeat) (passes : List APass) : Type 0 where
  pub has : HasPasses t seat
  pub left : passes ≡ take (length passes) other.passes.items
  pub todo : (n : ℕ) → n < length passes → view_at n seat ≡ view_at n old
  pub done : (n : ℕ) → length passes ≤ n → view_at n seat ≡ both_views (view_at n old) (view_at n other)

pub join_begins : (t : MeterTable) (old other : MeterSeat) → HasPasses t old → HasPasses t other → Joining t old other old other.passes.items
join_begins t old other has has' = record {
  has = has;
  left = sym (take_all (length other.passes.items) other.passes.items (omega arith));
  todo = λ n lt. refl;
  done = λ n past.
      let mine = nothing_past n old (let a = passes_count t old has in let b = passes_count t other has' in omega arith) in
      let yours = nothing_past n other past in
      mine ∙ ap (λ v. both_views v spent) (sym mine) ∙ ap (λ v. both_views (view_at n old) v) (sym yours);
}

pub join_next : (t : MeterTable) (old other seat after : MeterSeat) (passes rest : List APass) (p q r : APass) → Joining t old other seat passes → passes ≡ rest ++ r ∷ []
    → OneChanged seat after (length rest) p q → cell_view {V = View} q ≡ both_views (cell_view p) (cell_view r) → Joining t old other after rest
join_next t old other seat after passes rest p q r j was changed told =
    let i = length rest in
    let cut = front rest r (length passes) other.passes.items (sym j.left ∙ was) in
    let shorter : length passes ≡ length rest + 1 = ap length was ∙ length_push rest r in
    let mine : view_at i seat ≡ cell_view p = view_is i seat p changed.was in
    let yours : view_at i other ≡ cell_view r = view_is i other r cut.0 in
    let kept : (n : ℕ) → n ≢ i → view_at n after ≡ view_at n seat = others seat after i p q changed in
    let here : view_at i after ≡ both_views (view_at i old) (view_at i other) =
    view_is i after q (now seat after i p q changed) ∙ told ∙ ap (λ v. both_views v (cell_view r)) (sym mine ∙ j.todo i (omega arith)) ∙ ap (λ v. both_views (view_at i old) v) (sym yours) in
    record {
      has = has_passes seat after i p q changed t
          (λ meter setting knows. subst (Knows meter setting) (sym told) (record { known = knows.known; part = let part = knows.part in omega arith })) j.has;
      left = cut.1;
      todo = λ n lt. kept n (λ e. omega arith) ∙ j.todo n (omega arith);
      done = λ n le.
          dite (ℕ_discrete n i)
          (λ is. subst (λ k. view_at k after ≡ both_views (view_at k old) (view_at k other)) (sym is) here)
          (λ not. kept n not ∙ j.done n (omega arith));
    }

-- what the pass at hand has of both
pub join_at : (t : MeterTable) (old other seat : MeterSeat) (passes rest : List APass) (r : APass) → Joining t old other seat passes → passes ≡ rest ++ r ∷ [] → slice_get other.passes.items (length rest) ≡ Some r
join_at t old other seat passes rest r j was = (front rest r (length passes) other.passes.items (sym j.left ∙ was)).0

module _ (t : MeterTable) (old other seat : MeterSeat) (j : Joining t old other seat []) where
  pub join_parts : (n : ℕ) → parts_at n seat ≡ parts_at n old + parts_at n other
  join_parts n = parts_is n seat ∙ ap (λ (v : View). v.parts) (j.done n (omega arith)) ∙ ap (λ k. k + (view_at n other).parts) (sym (parts_is n old)) ∙ ap (λ k. parts_at n old + k) (sym (parts_is n other))

  pub join_marks : (n : ℕ) → marks_by n seat ≡ marks_by n old ++ marks_by n other
  join_marks n = marks_is n seat ∙ ap (λ (v : View). v.marks) (j.done n (omega arith)) ∙ ap (λ l. l ++ (view_at n other).marks) (sym (marks_is n old)) ∙ ap (λ l. marks_by n old ++ l) (sym (marks_is n other))
