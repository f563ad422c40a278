-- A log that is filled with its marks.
use Rattle.std.proofs.Common.{◌≡◌, ◌≢◌, ℕ, suc, ◌+◌, ◌<◌, ◌≤◌, List, [], ◌∷◌, Some, length, slice_get, slice_set, refl, ap, sym, ◌∙◌, subst, arith}
use Rattle.std.proofs.lemmas.Option.{slice_get_within, same_Some}
use native.Mathlib.Decide.{ℕ_discrete}
use mathlib.Core.Logic.{dite}
use Rattle.meter_table.specs.declared.mark.Mark.{Mark}
use Rattle.meter_table.specs.Kept.{StandsIn}
use Rattle.meter_table.specs.Gathered.{Fills}
use Rattle.meter_table.proofs.Passes.{set_here, set_else}

-- lists of one length that have the same at each place
pub same_slices : {A : Type 0} (xs ys : List A) → length xs ≡ length ys → ((k : ℕ) (x : A) → slice_get ys k ≡ Some x → slice_get xs k ≡ Some x) → xs ≡ ys
same_slices [] [] lengths each = refl
same_slices [] (y ∷ ys) lengths each = absurd (omega arith)
same_slices (x ∷ xs) [] lengths each = absurd (omega arith)
same_slices (x ∷ xs) (y ∷ ys) lengths each =
    let head = same_Some x y (each 0 y refl) in
    let rest = same_slices xs ys (omega arith) (λ k. each (suc k)) in
    λ i. head i ∷ rest i

-- of so many marks those of the meter stand in the log
abbrev pub Placed : ℕ → List Mark → ℕ → List Mark → Type 0
Placed meter marks i log = (n : ℕ) (mark : Mark) → n < i → slice_get marks n ≡ Some mark → mark.meter ≡ meter → StandsIn log mark

-- one mark more, of this meter
pub place_mine : (meter : ℕ) (marks full log : List Mark) (i : ℕ) (mark : Mark) → Fills meter marks full → length full ≡ length log → Placed meter marks i log → slice_get marks i ≡ Some mark → mark.meter ≡ meter
    → Placed meter marks (i + 1) (slice_set log mark.turn mark)
place_mine meter marks full log i mark fills lengths placed at mine n other lt at' mine' =
    let turn = slice_get_within full mark.turn mark (fills.stand i mark at mine) in
    let new : slice_get (slice_set log mark.turn mark) mark.turn ≡ Some mark = set_here log mark.turn mark (omega arith) in
    let here : other ≡ mark → StandsIn (slice_set log mark.turn mark) other = λ is. subst (StandsIn (slice_set log mark.turn mark)) (sym is) new in
    dite (ℕ_discrete n i)
    (λ is. here (same_Some other mark (sym at' ∙ ap (slice_get marks) is ∙ at)))
    (λ not.
    dite (ℕ_discrete other.turn mark.turn)
    (λ same. here (same_Some other mark (sym (fills.stand n other at' mine') ∙ ap (slice_get full) same ∙ fills.stand i mark at mine)))
    (λ apart. set_else log mark.turn other.turn mark apart ∙ placed n other (omega arith) at' mine'))

-- one mark more, of another meter
pub place_other : (meter : ℕ) (marks log : List Mark) (i : ℕ) (mark : Mark) → Placed meter marks i log → slice_get marks i ≡ Some mark → mark.meter ≢ meter → Placed meter marks (i + 1) log
place_other meter marks log i mark placed at not n other lt at' mine' =
    dite (ℕ_discrete n i)
    (λ is. absurd (not (ap (λ (m : Mark). m.meter) (same_Some mark other (sym at ∙ ap (slice_get marks) (sym is) ∙ at')) ∙ mine')))
    (λ apart. placed n other (omega arith) at' mine')

-- all marks
pub all_placed : (meter : ℕ) (marks full log : List Mark) (i : ℕ) → length marks ≤ i → Fills meter marks full → length full ≡ length log → Placed meter marks i log → log ≡ full
all_placed meter marks full log i all fills lengths placed =
    same_slices log full (sym lengths)
    (λ k x at.
    let has = fills.each k (slice_get_within full k x at) in
    let within = slice_get_within marks has.0 has.1 has.2 in
    let mine : slice_get log k ≡ Some has.1 = ap (slice_get log) (sym has.4) ∙ placed has.0 has.1 (omega arith) has.2 has.3 in
    let full_has : slice_get full k ≡ Some has.1 = ap (slice_get full) (sym has.4) ∙ fills.stand has.0 has.1 has.2 has.3 in
    mine ∙ sym full_has ∙ at)
