-- A seat of which one pass has changed.
use Rattle.std.proofs.Common.{◌≡◌, ◌≢◌, ℕ, zero, suc, ◌<◌, List, [], ◌∷◌, ◌++◌, Some, None, length, map, get_or, set, slice_set, slice_get, refl, ap, sym, ◌∙◌, subst, arith}
use Rattle.std.specs.List.{All}
use Rattle.std.specs.List.Sorted.{IsStrictlyIncreasing}
use Rattle.std.proofs.lemmas.List.Elements.{All-same}
use Rattle.std.specs.Option.{option_map, option_map_or}
use Rattle.std.proofs.lemmas.Option.{slice_get-map, slice_get_read, slice_get_within, same_Some}
use native.Mathlib.Decide.{ℕ_discrete}
use mathlib.Core.Logic.{dite}
use Rattle.atomic_table.specs.declared.shared.Seat.{Seat}
use Rattle.crossbeam_utils.specs.declared.atomic.seq_cell.Doing.{Doing}
use Rattle.crossbeam_utils.specs.Seq.{cell_view}
use Rattle.color_meter.specs.Setting.{Setting}
use Rattle.meter_table.specs.declared.mark.Mark.{Mark}
use Rattle.meter_table.specs.declared.rule.View.{View}
use Rattle.meter_table.specs.declared.seat.MeterSeat.{MeterSeat}
use Rattle.meter_table.specs.declared.table.MeterTable.{MeterTable}
use Rattle.meter_table.specs.Kept.{Knows, spent, with_mark}
use Rattle.meter_table.specs.Seats.{marks_by, parts_at, view_at, HasPasses, IsSeatOf}
use Rattle.meter_table.proofs.Rising.{rising_push}

abbrev pub APass : Type 0
APass = Seat (List ℕ) (Doing (List ℕ) View)

module _ {A : Type 0} where
  pub set_here : (xs : List A) (i : ℕ) (y : A) → i < length xs → slice_get (set xs i y) i ≡ Some y
  set_here [] i y lt = absurd (omega arith)
  set_here (x ∷ xs) zero y lt = refl
  set_here (x ∷ xs) (suc i) y lt = set_here xs i y (omega arith)

  pub set_else : (xs : List A) (i n : ℕ) (y : A) → n ≢ i → slice_get (set xs i y) n ≡ slice_get xs n
  set_else [] i n y not = refl
  set_else (x ∷ xs) zero zero y not = absurd (not refl)
  set_else (x ∷ xs) zero (suc n) y not = refl
  set_else (x ∷ xs) (suc i) zero y not = refl
  set_else (x ∷ xs) (suc i) (suc n) y not = set_else xs i n y (λ e. not (ap suc e))

  map_set : {B : Type 0} (f : A → B) (xs : List A) (i : ℕ) (x y : A) → slice_get xs i ≡ Some x → f y ≡ f x → map f (set xs i y) ≡ map f xs
  map_set f [] i x y e same = refl
  map_set f (z ∷ zs) zero x y e same = ap (λ b. b ∷ map f zs) (same ∙ ap f (sym (same_Some z x e)))
  map_set f (z ∷ zs) (suc i) x y e same = ap (λ l. f z ∷ l) (map_set f zs i x y e same)

  -- a list has an element at each place within it
  pub there : (xs : List A) (i : ℕ) → i < length xs → (x : A) × (slice_get xs i ≡ Some x)
  there [] i lt = absurd (omega arith)
  there (x ∷ xs) zero lt = (x, refl)
  there (x ∷ xs) (suc i) lt = there xs i (omega arith)

  -- an element that was read by its index
  pub read : (xs : List A) (i : ℕ) (x : A) → i < length xs → x ≡ get_or xs i x → slice_get xs i ≡ Some x
  read xs i x lt is = slice_get_read xs (length xs) i x refl lt is

  -- two lists that look alike look alike at each place
  pub alike_at : {B C : Type 0} (f : A → C) (g : B → C) (xs : List A) (ys : List B) (i : ℕ) (x : A) (y : B) → map f xs ≡ map g ys → slice_get xs i ≡ Some x → slice_get ys i ≡ Some y → f x ≡ g y
  alike_at f g xs ys i x y same at at' =
      let left = slice_get-map f xs i ∙ ap (option_map f) at in
      let right = slice_get-map g ys i ∙ ap (option_map g) at' in
      same_Some (f x) (g y) (sym left ∙ ap (λ l. slice_get l i) same ∙ right)

-- what a seat knows of a meter has the seat's marks and parts
pub marks_is : (n : ℕ) (seat : MeterSeat) → marks_by n seat ≡ (view_at n seat).marks
marks_is n seat = elim (slice_get seat.passes.items n) as (λ o. option_map_or (λ (p : APass). (cell_view {V = View} p).marks) o [] ≡ (option_map_or (λ (p : APass). cell_view {V = View} p) o spent).marks) [
  | None ↦ refl
  | Some p ↦ refl
]

pub parts_is : (n : ℕ) (seat : MeterSeat) → parts_at n seat ≡ (view_at n seat).parts
parts_is n seat = elim (slice_get seat.passes.items n) as (λ o. option_map_or (λ (p : APass). (cell_view {V = View} p).parts) o 0 ≡ (option_map_or (λ (p : APass). cell_view {V = View} p) o spent).parts) [
  | None ↦ refl
  | Some p ↦ refl
]

pub view_is : (n : ℕ) (seat : MeterSeat) (p : APass) → slice_get seat.passes.items n ≡ Some p → view_at n seat ≡ cell_view p
view_is n seat p at = ap (λ o. option_map_or (λ (q : APass). cell_view {V = View} q) o spent) at

-- how a seat changes where one of its passes does
pub record OneChanged (seat after : MeterSeat) (i : ℕ) (p q : APass) : Type 0 where
  pub items : after.passes.items ≡ slice_set seat.passes.items i q
  pub was : slice_get seat.passes.items i ≡ Some p
  pub cell : q.table_id ≡ p.table_id

module _ (seat after : MeterSeat) (i : ℕ) (p q : APass) (changed : OneChanged seat after i p q) where
  pub now : slice_get after.passes.items i ≡ Some q
  now = ap (λ l. slice_get l i) changed.items ∙ set_here seat.passes.items i q (slice_get_within _ i p changed.was)

  pub others : (n : ℕ) → n ≢ i → view_at n after ≡ view_at n seat
  others n not = ap (λ o. option_map_or (λ (r : APass). cell_view {V = View} r) o spent) (ap (λ l. slice_get l n) changed.items ∙ set_else seat.passes.items i n q not)

  -- it still has its passes, if the pass knows what it knew
  pub has_passes : (t : MeterTable) → ((meter : ℕ) (setting : Setting) → Knows meter setting (cell_view p) → Knows meter setting (cell_view q)) → HasPasses t seat → HasPasses t after
  has_passes t keeps has = record {
    cells = ap (map (λ (r : APass). r.table_id)) changed.items ∙ map_set (λ (r : APass). r.table_id) seat.passes.items i p q changed.was changed.cell ∙ has.cells;
    knows = λ meter setting at.
        let before = has.knows meter setting at in
        dite (ℕ_discrete meter i)
        (λ is.
        let here : view_at meter seat ≡ cell_view p = ap (λ n. view_at n seat) is ∙ view_is i seat p changed.was in
        let there : view_at meter after ≡ cell_view q = ap (λ n. view_at n after) is ∙ view_is i after q now in
        subst (Knows meter setting) (sym there) (keeps meter setting (subst (Knows meter setting) here before)))
        (λ not. subst (Knows meter setting) (sym (others meter not)) before);
  }

-- a seat with one more mark of a meter, whose turn is above all its earlier ones
pub record OneMore (t : MeterTable) (seat after : MeterSeat) (meter : ℕ) (mark : Mark) : Type 0 where
  pub is_seat : IsSeatOf t after
  pub parts : (n : ℕ) → parts_at n after ≡ parts_at n seat
  pub made : marks_by meter after ≡ marks_by meter seat ++ mark ∷ []
  pub rest : (n : ℕ) → n ≢ meter → marks_by n after ≡ marks_by n seat
  pub turn : All (λ m. m.turn < mark.turn) (marks_by meter seat)

pub one_more : (t : MeterTable) (seat after : MeterSeat) (i : ℕ) (p q : APass) (mark : Mark) → IsSeatOf t seat → OneChanged seat after i p q
    → cell_view {V = View} q ≡ with_mark (cell_view p) mark → All (λ m. m.turn < mark.turn) (cell_view {V = View} p).marks → OneMore t seat after i mark
one_more t seat after i p q mark is changed told below =
    let before : view_at i seat ≡ cell_view p = view_is i seat p changed.was in
    let view : view_at i after ≡ with_mark (view_at i seat) mark = view_is i after q (now seat after i p q changed) ∙ told ∙ ap (λ v. with_mark v mark) (sym before) in
    let kept : (n : ℕ) → n ≢ i → view_at n after ≡ view_at n seat = others seat after i p q changed in
    let parts_kept : (n : ℕ) → (view_at n after).parts ≡ (view_at n seat).parts = λ n.
    dite (ℕ_discrete n i)
    (λ same. ap (λ k. (view_at k after).parts) same ∙ ap (λ (v : View). v.parts) view ∙ ap (λ k. (view_at k seat).parts) (sym same))
    (λ not. ap (λ (v : View). v.parts) (kept n not)) in
    let made : marks_by i after ≡ marks_by i seat ++ mark ∷ [] =
    marks_is i after ∙ ap (λ (v : View). v.marks) view ∙ ap (λ l. l ++ mark ∷ []) (sym (marks_is i seat)) in
    let rest : (n : ℕ) → n ≢ i → marks_by n after ≡ marks_by n seat = λ n not. marks_is n after ∙ ap (λ (v : View). v.marks) (kept n not) ∙ sym (marks_is n seat) in
    let marks_before : marks_by i seat ≡ (cell_view {V = View} p).marks = marks_is i seat ∙ ap (λ (v : View). v.marks) before in
    let turn : All (λ m. m.turn < mark.turn) (marks_by i seat) = All-same (λ m. m.turn < mark.turn) _ _ marks_before below in
    let Rises : List Mark → Type 0 = λ l. IsStrictlyIncreasing (map (λ m. m.turn) l) in
    record {
      is_seat = record {
        passes = has_passes seat after i p q changed t
            (λ meter setting knows. subst (Knows meter setting) (sym told) (record { known = knows.known; part = knows.part })) is.passes;
        order = λ n.
            dite (ℕ_discrete n i)
            (λ same. subst (λ k. Rises (marks_by k after)) (sym same) (subst Rises (sym made) (rising_push (marks_by i seat) mark (is.order i) turn)))
            (λ not. subst Rises (sym (rest n not)) (is.order n));
      };
      parts = λ n. parts_is n after ∙ parts_kept n ∙ sym (parts_is n seat);
      made = made;
      rest = rest;
      turn = turn;
    }
