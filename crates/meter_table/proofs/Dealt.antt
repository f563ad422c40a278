-- Fresh seats, as they are made and dealt.
use Rattle.std.proofs.Common.{◌≡◌, ◌≢◌, ℕ, zero, suc, ◌+◌, ◌-◌, ◌<◌, ◌≤◌, List, [], ◌∷◌, ◌++◌, Some, length, map, take, slice_get, add-one, inl, inr, ⊎_elim, refl, ap, sym, ◌∙◌, subst, arith}
use Rattle.std.specs.List.Sorted.{IsStrictlyIncreasing}
use Rattle.std.specs.Option.{option_map, option_map_or}
use Rattle.std.proofs.lemmas.Bool.{cases_lt}
use Rattle.std.proofs.lemmas.List.{length-map, map-append, length_push, take_all}
use Rattle.std.proofs.lemmas.Option.{slice_get-map, slice_get_within, slice_get_past, same_Some, none-some}
use native.Mathlib.Decide.{ℕ_discrete}
use mathlib.Core.Logic.{dite}
use Rattle.atomic_table.specs.Seated.{TableId}
use Rattle.crossbeam_utils.specs.Seq.{cell_view}
use Rattle.color_meter.specs.Meter.{MeterState}
use Rattle.color_meter.specs.Setting.{Setting}
use Rattle.meter_table.specs.declared.mark.Mark.{Mark}
use Rattle.meter_table.specs.declared.rule.View.{View}
use Rattle.meter_table.specs.declared.seat.MeterSeat.{MeterSeat}
use Rattle.meter_table.specs.declared.table.MeterTable.{MeterTable}
use Rattle.meter_table.specs.Kept.{Knows, spent, set_view, one_part, one_part_less}
use Rattle.meter_table.specs.Seats.{settings_of, marks_by, parts_at, view_at, HasPasses, HasParts, IsFresh}
use Rattle.meter_table.proofs.Logs.{at_push}
use Rattle.meter_table.proofs.Passes.{APass, OneChanged, there, marks_is, parts_is, view_is, now, others, has_passes}
use Rattle.meter_table.proofs.Tables.{count_is}

module _ {A : Type 0} where
  take_suc : (xs : List A) (i : ℕ) (x : A) → slice_get xs i ≡ Some x → take (suc i) xs ≡ take i xs ++ x ∷ []
  take_suc [] i x e = absurd (none-some x e)
  take_suc (z ∷ zs) zero x e = ap (λ y. y ∷ []) (same_Some z x e)
  take_suc (z ∷ zs) (suc i) x e = ap (λ l. z ∷ l) (take_suc zs i x e)

  pub take_next : (xs : List A) (i : ℕ) (x : A) → slice_get xs i ≡ Some x → take (i + 1) xs ≡ take i xs ++ x ∷ []
  take_next xs i x e = rw add-one (take_suc xs i x e)

  -- two lists that look alike, with one more element each
  pub alike_push : {B C : Type 0} (f : A → C) (g : B → C) (xs : List A) (ys : List B) (x : A) (y : B) → map f xs ≡ map g ys → f x ≡ g y → map f (xs ++ x ∷ []) ≡ map g (ys ++ y ∷ [])
  alike_push f g xs ys x y same last =
      map-append f xs (x ∷ []) ∙ ap (λ l. l ++ f x ∷ []) same ∙ ap (λ z. map g ys ++ z ∷ []) last ∙ sym (map-append g ys (y ∷ []))

module _ {A B C : Type 0} (f : B → C) (g : A → B) where
  pub map_twice : (xs : List A) → map f (map g xs) ≡ map (λ x. f (g x)) xs
  map_twice [] = refl
  map_twice (x ∷ xs) = ap (λ l. f (g x) ∷ l) (map_twice xs)

-- a seat that has made no mark
pub fresh : (t : MeterTable) (seat : MeterSeat) → HasPasses t seat → ((n : ℕ) → marks_by n seat ≡ []) → IsFresh t seat
fresh t seat has none =
    let Rises : List Mark → Type 0 = λ l. IsStrictlyIncreasing (map (λ m. m.turn) l) in
    record {
      seat_is = record { passes = has; order = λ n. subst Rises (sym (none n)) (λ k lt. absurd (omega arith)) };
      none = none;
    }

-- past its passes a seat has nothing
pub nothing_past : (n : ℕ) (seat : MeterSeat) → length seat.passes.items ≤ n → view_at n seat ≡ spent
nothing_past n seat past = ap (λ o. option_map_or (λ (p : APass). cell_view {V = View} p) o spent) (slice_get_past seat.passes.items n past)

-- passes to cells of meters that were just set
abbrev pub IsSet : List MeterState → List APass → Type 0
IsSet meters passes = (n : ℕ) (m : MeterState) (p : APass) → slice_get meters n ≡ Some m → slice_get passes n ≡ Some p → cell_view {V = View} p ≡ set_view n m.setting

pub set_push : (meters : List MeterState) (passes : List APass) (m : MeterState) (p : APass) → length passes ≡ length meters → IsSet meters passes
    → cell_view {V = View} p ≡ set_view (length meters) m.setting → IsSet (meters ++ m ∷ []) (passes ++ p ∷ [])
set_push meters passes m p same were new n m' p' at at' =
    ⊎_elim
    (λ old. ⊎_elim (λ old'. were n m' p' old old') (λ last. let within = slice_get_within meters n m' old in absurd (omega (arith, last.0))) (at_push passes p p' n at'))
    (λ last.
    ⊎_elim
    (λ old'. let within = slice_get_within passes n p' old' in absurd (omega (arith, last.0)))
    (λ last'. ap (λ (q : APass). cell_view {V = View} q) (sym last'.1) ∙ new ∙ ap (λ k. set_view k m.setting) (sym last.0) ∙ ap (λ (s : MeterState). set_view n s.setting) last.1)
    (at_push passes p p' n at'))
    (at_push meters m m' n at)

module _ (t : MeterTable) (seat : MeterSeat) (cells : map (λ pass. pass.table_id) seat.passes.items ≡ map (λ cell. cell.table.shared.table_id) t.cells.items) (set : IsSet t.meters.items seat.passes.items) where
  count : length seat.passes.items ≡ length t.cells.items
  count = sym (length-map seat.passes.items (λ (p : APass). p.table_id)) ∙ ap length cells ∙ length-map t.cells.items (λ c. c.table.shared.table_id)

  set_at : (n : ℕ) (m : MeterState) → slice_get t.meters.items n ≡ Some m → view_at n seat ≡ set_view n m.setting
  set_at n m at =
      let within = slice_get_within t.meters.items n m at in
      let counted = count in
      let p = there seat.passes.items n (omega (arith, t.same)) in
      view_is n seat p.0 p.1 ∙ set n m p.0 at p.1

  pub set_parts : HasParts t 48 seat
  set_parts n lt = let m = there t.meters.items n (omega (arith, t.same)) in parts_is n seat ∙ ap (λ (v : View). v.parts) (set_at n m.0 m.1)

  set_none : (n : ℕ) → marks_by n seat ≡ []
  set_none n =
      let counted = count in
      elim (cases_lt n (length t.meters.items)) [
        | inl lt ↦ let m = there t.meters.items n lt in marks_is n seat ∙ ap (λ (v : View). v.marks) (set_at n m.0 m.1)
        | inr past ↦ marks_is n seat ∙ ap (λ (v : View). v.marks) (nothing_past n seat (omega (arith, t.same)))
      ]

  set_knows : (n : ℕ) (setting : Setting) → slice_get (settings_of t) n ≡ Some setting → Knows n setting (view_at n seat)
  set_knows n setting at =
      let within = slice_get_within (settings_of t) n setting at in
      let counted = length-map t.meters.items (λ (m : MeterState). m.setting) in
      let m = there t.meters.items n (omega arith) in
      let is : m.0.setting ≡ setting = same_Some _ _ (sym (slice_get-map (λ (s : MeterState). s.setting) t.meters.items n ∙ ap (option_map (λ (s : MeterState). s.setting)) m.1) ∙ at) in
      let view : view_at n seat ≡ set_view n setting = set_at n m.0 m.1 ∙ ap (λ s. set_view n s) is in
      subst (Knows n setting) (sym view) (record { known = refl; part = omega arith })

  pub set_fresh : IsFresh t seat
  set_fresh = fresh t seat (record { cells = cells; knows = set_knows }) set_none

-- a seat that gives one part of each cell to a new one: so many cells are done
pub record Splitting (t : MeterTable) (old seat : MeterSeat) (i : ℕ) (passes : List APass) : Type 0 where
  pub has : HasPasses t seat
  pub none : (n : ℕ) → marks_by n seat ≡ []
  pub fewer : (n : ℕ) → n < i → parts_at n seat + 1 ≡ parts_at n old
  pub rest : (n : ℕ) → i ≤ n → parts_at n seat ≡ parts_at n old
  pub count : length passes ≡ i
  pub cells : map (λ p. p.table_id) passes ≡ take i (map (λ cell. cell.table.shared.table_id) t.cells.items)
  pub knows : (n : ℕ) (setting : Setting) (p : APass) → slice_get (settings_of t) n ≡ Some setting → slice_get passes n ≡ Some p → Knows n setting (cell_view p)
  pub one : (n : ℕ) (p : APass) → slice_get passes n ≡ Some p → ((cell_view {V = View} p).parts ≡ 1) × ((cell_view {V = View} p).marks ≡ [])

pub split_begins : (t : MeterTable) (old : MeterSeat) → IsFresh t old → Splitting t old old 0 []
split_begins t old is = record {
  has = is.seat_is.passes;
  none = is.none;
  fewer = λ n lt. absurd (omega arith);
  rest = λ n le. refl;
  count = refl;
  cells = refl;
  knows = λ n setting p at at'. absurd (none-some p at');
  one = λ n p at. absurd (none-some p at);
}

-- one more cell, of which a pass p is cut into q and r
split_step : (t : MeterTable) (old seat after : MeterSeat) (i : ℕ) (passes : List APass) (m : MeterState) (p q r : APass) → Splitting t old seat i passes → OneChanged seat after i p q
    → slice_get t.meters.items i ≡ Some m → 1 < (cell_view {V = View} p).parts → cell_view {V = View} q ≡ one_part_less (cell_view p) → cell_view {V = View} r ≡ one_part (cell_view p)
    → r.table_id ≡ p.table_id → Splitting t old after (i + 1) (passes ++ r ∷ [])
split_step t old seat after i passes m p q r s changed at more told given cell =
    let before : view_at i seat ≡ cell_view p = view_is i seat p changed.was in
    let view : view_at i after ≡ one_part_less (view_at i seat) = view_is i after q (now seat after i p q changed) ∙ told ∙ ap one_part_less (sym before) in
    let kept : (n : ℕ) → n ≢ i → view_at n after ≡ view_at n seat = others seat after i p q changed in
    let parts_before : parts_at i seat ≡ (cell_view {V = View} p).parts = parts_is i seat ∙ ap (λ (v : View). v.parts) before in
    let parts_now : parts_at i after ≡ parts_at i seat - 1 = parts_is i after ∙ ap (λ (v : View). v.parts) view ∙ ap (λ n. n - 1) (sym (parts_is i seat)) in
    let parts_kept : (n : ℕ) → n ≢ i → parts_at n after ≡ parts_at n seat = λ n not. parts_is n after ∙ ap (λ (v : View). v.parts) (kept n not) ∙ sym (parts_is n seat) in
    let marks_kept : (n : ℕ) → marks_by n after ≡ marks_by n seat = λ n.
    dite (ℕ_discrete n i)
    (λ is. ap (λ k. marks_by k after) is ∙ marks_is i after ∙ ap (λ (v : View). v.marks) view ∙ sym (marks_is i seat) ∙ ap (λ k. marks_by k seat) (sym is))
    (λ not. marks_is n after ∙ ap (λ (v : View). v.marks) (kept n not) ∙ sym (marks_is n seat)) in
    let id_of : APass → TableId = λ x. x.table_id in
    let ids = map (λ x. x.table.shared.table_id) t.cells.items in
    let id_at : slice_get ids i ≡ Some p.table_id = ap (λ l. slice_get l i) (sym s.has.cells) ∙ slice_get-map id_of seat.passes.items i ∙ ap (option_map id_of) changed.was in
    let part_is : (x : APass) → r ≡ x → cell_view {V = View} x ≡ one_part (cell_view p) = λ x is. ap (λ (y : APass). cell_view {V = View} y) (sym is) ∙ given in
    record {
      has = has_passes seat after i p q changed t (λ meter setting knows. subst (Knows meter setting) (sym told) (record { known = knows.known; part = omega arith })) s.has;
      none = λ n. marks_kept n ∙ s.none n;
      fewer = λ n lt.
          dite (ℕ_discrete n i)
          (λ is. let here = ap (λ k. parts_at k after + 1) is in let was = s.rest i (omega arith) in let olds = ap (λ k. parts_at k old) is in omega arith)
          (λ not. let was = s.fewer n (omega arith) in let same = parts_kept n not in omega arith);
      rest = λ n le. parts_kept n (λ e. omega arith) ∙ s.rest n (omega arith);
      count = let one = length_push passes r in let was = s.count in omega arith;
      cells = map-append id_of passes (r ∷ []) ∙ ap (λ l. l ++ r.table_id ∷ []) s.cells ∙ ap (λ z. take i ids ++ z ∷ []) cell ∙ sym (take_next ids i p.table_id id_at);
      knows = λ n setting x has at'.
          ⊎_elim
          (λ was. s.knows n setting x has was)
          (λ last.
          let here : view_at n seat ≡ cell_view p = ap (λ k. view_at k seat) (last.0 ∙ s.count) ∙ before in
          let known = subst (Knows n setting) here (s.has.knows n setting has) in
          subst (Knows n setting) (sym (part_is x last.1)) (record { known = known.known; part = omega arith }))
          (at_push passes r x n at');
      one = λ n x at'.
          ⊎_elim
          (λ was. s.one n x was)
          (λ last. (ap (λ (v : View). v.parts) (part_is x last.1), ap (λ (v : View). v.marks) (part_is x last.1)))
          (at_push passes r x n at');
    }

pub split_next : (t : MeterTable) (old seat after : MeterSeat) (i : ℕ) (passes passes' : List APass) (m : MeterState) (p q r : APass) → Splitting t old seat i passes → OneChanged seat after i p q
    → slice_get t.meters.items i ≡ Some m → 1 < (cell_view {V = View} p).parts → cell_view {V = View} q ≡ one_part_less (cell_view p) → cell_view {V = View} r ≡ one_part (cell_view p)
    → r.table_id ≡ p.table_id → passes' ≡ passes ++ r ∷ [] → Splitting t old after (i + 1) passes'
split_next t old seat after i passes passes' m p q r s changed at more told given cell is =
    subst (Splitting t old after (i + 1)) (sym is) (split_step t old seat after i passes m p q r s changed at more told given cell)

-- both seats are fresh at the end
module _ (t : MeterTable) (old seat : MeterSeat) (after : MeterSeat) (i : ℕ) (s : Splitting t old seat i after.passes.items) (all : length t.cells.items ≤ i) where
  pub split_left : IsFresh t seat
  split_left = fresh t seat s.has s.none

  pass_at : (n : ℕ) → n < length t.cells.items → (p : APass) × (slice_get after.passes.items n ≡ Some p) × (view_at n after ≡ cell_view p)
  pass_at n lt = let p = there after.passes.items n (let counted = s.count in omega arith) in (p.0, p.1, view_is n after p.0 p.1)

  pub split_parts : HasParts t 1 after
  split_parts n lt = let p = pass_at n lt in parts_is n after ∙ ap (λ (v : View). v.parts) p.2 ∙ (s.one n p.0 p.1).0

  split_cells : map (λ pass. pass.table_id) after.passes.items ≡ map (λ cell. cell.table.shared.table_id) t.cells.items
  split_cells =
      let counted = length-map t.cells.items (λ x. x.table.shared.table_id) in
      s.cells ∙ take_all i (map (λ x. x.table.shared.table_id) t.cells.items) (omega arith)

  split_none : (n : ℕ) → marks_by n after ≡ []
  split_none n =
      elim (cases_lt n (length t.cells.items)) [
        | inl lt ↦ let p = pass_at n lt in marks_is n after ∙ ap (λ (v : View). v.marks) p.2 ∙ (s.one n p.0 p.1).1
        | inr past ↦
            let counted : length after.passes.items ≡ length t.cells.items =
            sym (length-map after.passes.items (λ (p : APass). p.table_id)) ∙ ap length split_cells ∙ length-map t.cells.items (λ x. x.table.shared.table_id) in
            marks_is n after ∙ ap (λ (v : View). v.marks) (nothing_past n after (omega arith))
      ]

  pub split_fresh : IsFresh t after
  split_fresh =
      fresh t after
      (record {
        cells = split_cells;
        knows = λ n setting at.
            let p = pass_at n (let within = slice_get_within (settings_of t) n setting at in let counts = count_is t in omega arith) in
            subst (Knows n setting) (sym p.2) (s.knows n setting p.0 at p.1);
      })
      split_none
