-- Each step of a seat keeps the rule of its cell.
use Rattle.std.proofs.Common.{◌≡◌, ℕ, zero, suc, ◌+◌, ◌*◌, ◌^◌, ◌<◌, ◌≤◌, Bool, true, false, List, [], ◌∷◌, ◌++◌, Some, length, set, cond, eqb, inl, inr, ⊎_elim, refl, ap, sym, ◌∙◌, subst, eq-eqb, ne_eqb, nat_eq, slice_get, slice_index, slice_set, add-zero, if◌then◌else◌, arith}
use Rattle.std.specs.List.{sum_by, All}
use Rattle.std.proofs.lemmas.List.{length_push, length-append}
use Rattle.std.proofs.lemmas.List.Elements.{All-push, All-append, All-nil}
use Rattle.std.proofs.lemmas.Option.{same_Some, none-some}
use Rattle.std.proofs.lemmas.Bool.Decides.{nat_tests}
use native.Mathlib.Decide.{ℕ_discrete}
use mathlib.Core.Logic.{dite}
use mathlib.Core.Option.{some, some-injective, some-ne-none}
use lib.ListN.{get_elem?}
use lib.Pointwise.{pointwise, bytes_decides}
use Rattle.atomic_table.proofs.Lists.{at_set, at_snoc, set_again}
use Rattle.crossbeam_utils.specs.Register.{Turns, Forks, Merges}
use Rattle.profile_plan.specs.declared.meter.MeterKind.{MeterKind}
use Rattle.profile_plan.specs.declared.meter.MeterKind.TheVariants.{SrTcm, TrTcm, Rfc4115}
use Rattle.color_meter.specs.Meter.{MeterState, IsMeterState, full}
use Rattle.color_meter.specs.Setting.{Setting}
use Rattle.meter_table.specs.declared.mark.Mark.{Mark}
use Rattle.meter_table.specs.declared.rule.View.{View}
use Rattle.meter_table.specs.Log.{made_at}
use Rattle.meter_table.specs.Cell.{IsNext, kind_word, kind_of, flag_word, settled_words, setting_in, mark_in}
use Rattle.meter_table.specs.Kept.{blank, spent, Knows, StandsIn, IsShared, IsKept, set_view, Settles, Looks, meter_of, with_mark, Marks, one_part_less, one_part, both_views}
use Rattle.meter_table.proofs.Sums.{sum_at, sum_cut, sum_joined, sum_none, sum_within, sum_alone}
use Rattle.meter_table.proofs.Logs.{legal_push, stand_later, stands_last, turns_within, made_at_push, made_at-append, made_at-le, made_at_none}

module _ {V : Type 0} (F : V → Type 0) where
  -- what holds of each view holds of each after one of them has changed
  each_set : (views : List V) (id : ℕ) (w : V) → F w → ((j : ℕ) (u : V) → get_elem? views j ≡ some u → F u) → (j : ℕ) (u : V) → get_elem? (set views id w) j ≡ some u → F u
  each_set views id w mine others j u e = ⊎_elim (λ x. subst F x.1 mine) (λ x. others j u x.1) (at_set views id j w u e)

  each_snoc : (views : List V) (w : V) → F w → ((j : ℕ) (u : V) → get_elem? views j ≡ some u → F u) → (j : ℕ) (u : V) → get_elem? (views ++ w ∷ []) j ≡ some u → F u
  each_snoc views w mine others j u e = ⊎_elim (λ x. others j u x) (λ x. subst F x mine) (at_snoc views w u j e)

only_first : (x v : View) (id : ℕ) → get_elem? (x ∷ []) id ≡ some v → (id ≡ 0) × (x ≡ v)
only_first x v zero e = (refl, some-injective x v e)
only_first x v (suc id) e = absurd (some-ne-none v (sym e))

abbrev InLimit : View → Type 0
InLimit v = length v.marks ≤ 2 ^ 56 * v.parts

abbrev Agrees : ℕ → Setting → View → Type 0
Agrees meter setting v = 0 < v.parts → v.known ≡ Some (meter, full setting)

-- where a view knows the meter, the cell is shared, and it is that meter's
known_shared : (meter : ℕ) (setting : Setting) (words : List ℕ) (views : List View) (id : ℕ) (v : View) → IsKept words views → get_elem? views id ≡ some v → Knows meter setting v
    → IsShared meter setting words views
known_shared meter setting words views id v kept at knows =
    ⊎_elim
    (λ alone.
    let first = only_first blank v id (subst (λ vs. get_elem? vs id ≡ some v) alone at) in
    absurd (none-some _ (ap (λ (u : View). u.known) first.1 ∙ knows.known)))
    (λ shared.
    let pair = same_Some _ _ (sym (shared.2.knows id v at knows.part) ∙ knows.known) in
    let Of : ℕ × MeterState → Type 0 = λ k. IsShared k.0 k.1.setting words views in
    subst Of pair shared.2)
    kept.shared

-- the count of marks is far from wrapping
few : (words : List ℕ) (views : List View) → IsKept words views → sum_by (λ (v : View). length v.marks) views < 2 ^ 63
few words views kept =
    let within = sum_within (λ (v : View). length v.marks) (λ (v : View). v.parts) (2 ^ 56) views kept.limit in
    let product = ap (λ n. 2 ^ 56 * n) kept.parts in
    omega arith

-- who has all parts has all marks
all_mine : (meter : ℕ) (setting : Setting) (words : List ℕ) (views : List View) (id : ℕ) (v : View) → IsKept words views → get_elem? views id ≡ some v
    → (s : IsShared meter setting words views) → v.parts ≡ 48 → (turn : ℕ) → turn < length s.log → made_at turn v.marks ≡ 1
all_mine meter setting words views id v kept at s all turn lt =
    let alone = sum_alone (λ (u : View). made_at turn u.marks) (λ (u : View). u.parts) (2 ^ 56) views id v at
    (λ j u e. let limit = kept.limit j u e in let less = made_at-le turn u.marks in omega arith) (kept.parts ∙ sym all) in
    sym alone ∙ s.once turn lt

pub looks : (id : ℕ) (v : View) → Turns IsKept id v (λ x. x) Looks
looks id v x views kept at = (
  v,
  subst (IsKept x) (sym (set_again views id v at)) kept,
  record {
    view = refl;
    seen = λ meter setting knows.
        let s = known_shared meter setting x views id v kept at knows in
        record {
          log = s.log;
          legal = s.legal;
          cell = s.cell;
          few = let bound = few x views kept in omega (arith, s.total);
          stands = s.stands id v at;
          once = all_mine meter setting x views id v kept at s;
        };
  },
)

-- a mark more of one view
entered : (meter : ℕ) (setting : Setting) (words : List ℕ) (views : List View) (id : ℕ) (v : View) (mark : Mark) (after : List ℕ)
    → Knows meter setting v → length v.marks < 2 ^ 56 → IsNext meter setting words mark after → IsKept words views → get_elem? views id ≡ some v
    → IsKept after (set views id (with_mark v mark))
entered meter setting words views id v mark after knows small next kept at =
    let s = known_shared meter setting words views id v kept at knows in
    let w : View = with_mark v mark in
    let log = s.log in
    let turn_is : mark.turn ≡ length log = next.turn ∙ s.cell.count in
    let new : StandsIn (log ++ mark ∷ []) mark = ap (λ t. slice_get (log ++ mark ∷ []) t) turn_is ∙ stands_last log mark in
    let one : length w.marks ≡ length v.marks + 1 = length_push v.marks mark in
    let longer : length (log ++ mark ∷ []) ≡ length log + 1 = length_push log mark in
    let later : (u : View) → All (StandsIn log) u.marks → All (StandsIn (log ++ mark ∷ [])) u.marks = λ u. stand_later log mark u.marks in
    record {
      parts = omega (arith, kept.parts, sum_at (λ (u : View). u.parts) views id v w at);
      limit = each_set InLimit views id w (let part = knows.part in omega arith) kept.limit;
      shared = inr (
        meter,
        setting,
        record {
          log = log ++ mark ∷ [];
          legal = legal_push meter setting log mark s.legal (next.legal log s.cell);
          cell = next.cell log s.cell;
          knows = each_set (Agrees meter setting) views id w (λ _. knows.known) s.knows;
          stands = each_set (λ u. All (StandsIn (log ++ mark ∷ [])) u.marks) views id w
              (All-push (StandsIn (log ++ mark ∷ [])) v.marks mark (later v (s.stands id v at)) new) (λ j u e. later u (s.stands j u e));
          total = omega (arith, s.total, sum_at (λ (u : View). length u.marks) views id v w at);
          once = λ turn lt.
              let sums = sum_at (λ (u : View). made_at turn u.marks) views id v w at in
              let more = made_at_push turn v.marks mark in
              dite (ℕ_discrete turn (length log))
              (λ is.
              let none = sum_none (λ (u : View). made_at turn u.marks) views
              (λ j u e. ap (λ t. made_at t u.marks) is ∙ made_at_none (length log) u.marks (turns_within log u.marks (s.stands j u e))) in
              let yes : eqb mark.turn turn ≡ true = eq-eqb _ _ (turn_is ∙ sym is) in
              let here : cond {A = ℕ} (eqb mark.turn turn) 1 0 ≡ 1 = ap (λ b. cond {A = ℕ} b 1 0) yes in
              omega arith)
              (λ not.
              let was = s.once turn (omega arith) in
              let no : eqb mark.turn turn ≡ false = ne_eqb _ _ (λ e. not (omega arith)) in
              let there : cond {A = ℕ} (eqb mark.turn turn) 1 0 ≡ 0 = ap (λ b. cond {A = ℕ} b 1 0) no in
              omega arith);
        },
      );
    }

-- what the words after an exchange tell
marks_view : (meter : ℕ) (setting : Setting) (words : List ℕ) (v : View) (mark : Mark) (after : List ℕ) → Knows meter setting v → IsNext meter setting words mark after
    → with_mark v mark ≡ (if nat_eq (slice_index after 0) (slice_index words 0) then v else with_mark v (mark_in (meter_of v) after))
marks_view meter setting words v mark after knows next =
    let counted = next.counted in
    let apart : eqb (slice_index after 0) (slice_index words 0) ≡ false = ne_eqb _ _ (λ e. omega arith) in
    let number : meter_of v ≡ meter = ap (λ k. Rattle.std.specs.Option.option_map_or (λ (x : ℕ × MeterState). x.0) k 0) knows.known in
    let told : mark_in (meter_of v) after ≡ mark = ap (λ n. mark_in n after) number ∙ next.told in
    subst (λ b. with_mark v mark ≡ (if b then v else with_mark v (mark_in (meter_of v) after))) (sym apart) (ap (with_mark v) (sym told))

pub enters : (meter : ℕ) (setting : Setting) (id : ℕ) (v : View) (seen next : List ℕ) (mark : Mark) → Knows meter setting v → length v.marks < 2 ^ 56 → IsNext meter setting seen mark next
    → Turns IsKept id v (λ x. if pointwise nat_eq x seen then next else x) Marks
enters meter setting id v seen next mark knows small is x views kept at = go (pointwise nat_eq x seen) refl
  where
    s : IsShared meter setting x views
    s = known_shared meter setting x views id v kept at knows

    below : All (λ m. m.turn < slice_index x 0) v.marks
    below = subst (λ n. All (λ (m : Mark). m.turn < n) v.marks) (sym s.cell.count) (turns_within s.log v.marks (s.stands id v at))

    go : (b : Bool) → pointwise nat_eq x seen ≡ b → (w : View) × IsKept (if b then next else x) (slice_set views id w) × Marks v x (if b then next else x) w
    go true e =
        let here : IsNext meter setting x mark next = subst (λ z. IsNext meter setting z mark next) (sym ((bytes_decides x seen).0 e)) is in
        (with_mark v mark, entered meter setting x views id v mark next knows small here kept at, record { view = marks_view meter setting x v mark next knows here; turn = below })
    go false e =
        let same : v ≡ (if nat_eq (slice_index x 0) (slice_index x 0) then v else with_mark v (mark_in (meter_of v) x)) = grind (arith, nat_tests) in
        (v, subst (IsKept x) (sym (set_again views id v at)) kept, record { view = same; turn = below })

-- the words that set a meter tell what it is set to
kind_told : (kind : MeterKind) → kind_of (kind_word kind) ≡ kind
kind_told SrTcm = refl
kind_told TrTcm = refl
kind_told Rfc4115 = refl

flag_told : (flag : Bool) → eqb (flag_word flag) 1 ≡ flag
flag_told true = refl
flag_told false = refl

setting_told : (meter : ℕ) (s : Setting) → setting_in (settled_words meter s) ≡ s
setting_told meter s i = record {
  kind = kind_told s.kind i;
  aware = flag_told s.aware i;
  cir = s.cir;
  other = s.other;
  cbs = s.cbs;
  other_size = s.other_size;
}

-- a meter that was just set
begun : (meter : ℕ) (setting : Setting) → IsMeterState (full setting) → IsKept (settled_words meter setting) (set_view meter setting ∷ [])
begun meter setting sound =
    let w = set_view meter setting in
    record {
      parts = refl;
      limit = λ j u e. subst InLimit (only_first w u j e).1 (omega arith);
      shared = inr (
        meter,
        setting,
        record {
          log = [];
          legal = λ turn mark e. absurd (none-some mark e);
          cell = record { count = refl; sound = sound; setting_is = refl; state = λ some. absurd (omega arith) };
          knows = λ j u e. subst (Agrees meter setting) (only_first w u j e).1 (λ _. refl);
          stands = λ j u e. let F : View → Type 0 = λ u. All (StandsIn []) u.marks in subst F (only_first w u j e).1 (All-nil (StandsIn []));
          total = refl;
          once = λ turn lt. absurd (omega arith);
        },
      );
    }

pub settles : (id meter : ℕ) (setting : Setting) (v : View) → v ≡ blank → IsMeterState (full setting) → Turns IsKept id v (λ _. settled_words meter setting) Settles
settles id meter setting v is sound x views kept at =
    ⊎_elim
    (λ alone.
    let first = only_first blank v id (subst (λ vs. get_elem? vs id ≡ some v) alone at) in
    let after = settled_words meter setting in
    let w = set_view meter setting in
    let told : w ≡ record v { known = Some (meter, full (setting_in after)) } =
    ap (λ s. set_view meter s) (sym (setting_told meter setting)) ∙ ap (λ (u : View). record u { known = Some (meter, full (setting_in after)) }) (sym is) in
    let now : set views id w ≡ w ∷ [] = ap (λ vs. set vs id w) alone ∙ ap (λ k. set (blank ∷ []) k w) first.0 in
    (w, subst (IsKept after) (sym now) (begun meter setting sound), told))
    (λ shared.
    let part : 0 < v.parts = subst (λ (u : View). 0 < u.parts) (sym is) (omega arith) in
    absurd (none-some _ (sym (ap (λ (u : View). u.known) is) ∙ shared.2.knows id v at part)))
    kept.shared

-- views whose parts and marks are those of other views, differently dealt
redealt : (meter : ℕ) (setting : Setting) (words : List ℕ) (views views' : List View) → IsKept words views → IsShared meter setting words views
    → ((f : View → ℕ) → f spent ≡ 0 → ((v w : View) → f (both_views v w) ≡ f v + f w) → sum_by f views' ≡ sum_by f views)
    → ((F : View → Type 0) → F spent → ((v w : View) → F v → F w → F (both_views v w)) → ((j : ℕ) (u : View) → get_elem? views j ≡ some u → F u) → (j : ℕ) (u : View) → get_elem? views' j ≡ some u → F u)
    → ((j : ℕ) (u : View) → get_elem? views' j ≡ some u → Agrees meter setting u)
    → IsKept words views'
redealt meter setting words views views' kept s sums each knows = record {
  parts = sums (λ u. u.parts) refl (λ _ _. refl) ∙ kept.parts;
  limit = each InLimit (omega arith) (λ v w a b. let one = length-append v.marks w.marks in omega arith) kept.limit;
  shared = inr (
    meter,
    setting,
    record {
      log = s.log;
      legal = s.legal;
      cell = s.cell;
      knows = knows;
      stands = each (λ u. All (StandsIn s.log) u.marks) (All-nil (StandsIn s.log)) (λ v w. All-append (StandsIn s.log) v.marks w.marks) s.stands;
      total = sums (λ u. length u.marks) refl (λ v w. length-append v.marks w.marks) ∙ s.total;
      once = λ turn lt. sums (λ u. made_at turn u.marks) refl (λ v w. made_at-append turn v.marks w.marks) ∙ s.once turn lt;
    },
  );
}

-- all that a view knows goes to a new one
pub wholes : (meter : ℕ) (setting : Setting) (id : ℕ) (v : View) → Knows meter setting v → Forks IsKept id v spent v
wholes meter setting id v knows x views kept at =
    let s = known_shared meter setting x views id v kept at knows in
    redealt meter setting x views (set views id spent ++ v ∷ []) kept s
    (λ f none both. sum_cut f views id v spent v at (omega arith))
    (λ F none both were. each_snoc F (set views id spent) v (were id v at) (each_set F views id spent none were))
    (each_snoc (Agrees meter setting) (set views id spent) v (λ _. knows.known) (each_set (Agrees meter setting) views id spent (λ some. absurd (omega arith)) s.knows))

-- a new view takes one part of one without marks
pub splits : (meter : ℕ) (setting : Setting) (id : ℕ) (v : View) → Knows meter setting v → 1 < v.parts → v.marks ≡ [] → Forks IsKept id v (one_part_less v) (one_part v)
splits meter setting id v knows more none x views kept at =
    let s = known_shared meter setting x views id v kept at knows in
    let w = one_part_less v in
    let u = one_part v in
    let empty : length v.marks ≡ 0 = ap (λ (l : List Mark). length l) none in
    let cut : (f : View → ℕ) → f w + f u ≡ f v → sum_by f (set views id w ++ u ∷ []) ≡ sum_by f views = λ f. sum_cut f views id v w u at in
    record {
      parts = cut (λ y. y.parts) (omega arith) ∙ kept.parts;
      limit = each_snoc InLimit (set views id w) u (omega arith) (each_set InLimit views id w (omega arith) kept.limit);
      shared = inr (
        meter,
        setting,
        record {
          log = s.log;
          legal = s.legal;
          cell = s.cell;
          knows = each_snoc (Agrees meter setting) (set views id w) u (λ _. knows.known) (each_set (Agrees meter setting) views id w (λ _. knows.known) s.knows);
          stands = each_snoc (λ y. All (StandsIn s.log) y.marks) (set views id w) u (All-nil (StandsIn s.log))
              (each_set (λ y. All (StandsIn s.log) y.marks) views id w (s.stands id v at) s.stands);
          total = cut (λ y. length y.marks) (omega arith) ∙ s.total;
          once = λ turn lt. cut (λ y. made_at turn y.marks) (add-zero _) ∙ s.once turn lt;
        },
      );
    }

-- two views become one
pub joins : (meter : ℕ) (setting : Setting) (id : ℕ) (v : View) (other : ℕ) (u : View) → Knows meter setting v → Merges IsKept id v other u (both_views v u) spent
joins meter setting id v other u knows x views kept at two at' =
    let s = known_shared meter setting x views id v kept at knows in
    let w = both_views v u in
    let now = set (set views id w) other spent in
    let was : get_elem? views other ≡ some u = ⊎_elim (λ same. absurd (two same.0)) (λ old. old.1) (at_set views id other w u at') in
    redealt meter setting x views now kept s
    (λ f none both. sum_joined f views id other v u w spent at at' (both v u) none)
    (λ F none both were. each_set F (set views id w) other spent none (each_set F views id w (both v u (were id v at) (were other u was)) were))
    (each_set (Agrees meter setting) (set views id w) other spent (λ some. absurd (omega arith)) (each_set (Agrees meter setting) views id w (λ _. knows.known) s.knows))

-- at first there is one view, which knows nothing
pub begins : (words : List ℕ) → IsKept words (blank ∷ [])
begins words = record {
  parts = refl;
  limit = λ j u e. subst InLimit (only_first blank u j e).1 (omega arith);
  shared = inl refl;
}
