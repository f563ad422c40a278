-- Turns that rise.
use Rattle.std.proofs.Common.{◌≡◌, ℕ, ◌+◌, ◌<◌, List, [], ◌∷◌, ◌++◌, length, map, get_or, inl, inr, ap, sym, ◌∙◌, subst, arith}
use Rattle.std.specs.List.{All}
use Rattle.std.specs.List.Sorted.{IsStrictlyIncreasing}
use Rattle.std.proofs.lemmas.Bool.{cases_lt}
use Rattle.std.proofs.lemmas.List.{get_or-map, get_or_append_left, length_push, length-map, map-append}
use Rattle.std.proofs.Math.Seq.{get_or-append_seam}
use Rattle.meter_table.specs.declared.mark.Mark.{Mark}

increasing_push : (xs : List ℕ) (y : ℕ) → IsStrictlyIncreasing xs → ((k : ℕ) → k < length xs → get_or xs k 0 < y) → IsStrictlyIncreasing (xs ++ y ∷ [])
increasing_push xs y rising below k lt =
    let longer = length_push xs y in
    let here = get_or_append_left xs (y ∷ []) 0 k (omega arith) in
    elim (cases_lt (k + 1) (length xs)) [
      | inl inside ↦ let next = get_or_append_left xs (y ∷ []) 0 (k + 1) inside in let was = rising k inside in omega arith
      | inr last ↦
          let is : k + 1 ≡ length xs = omega arith in
          let next : get_or (xs ++ y ∷ []) (k + 1) 0 ≡ y = ap (λ n. get_or (xs ++ y ∷ []) n 0) is ∙ get_or-append_seam xs y [] 0 in
          let was = below k (omega arith) in
          omega arith
    ]

-- one more mark, of a later turn
pub rising_push : (marks : List Mark) (mark : Mark) → IsStrictlyIncreasing (map (λ m. m.turn) marks) → All (λ m. m.turn < mark.turn) marks → IsStrictlyIncreasing (map (λ m. m.turn) (marks ++ mark ∷ []))
rising_push marks mark rising below =
    let turn : Mark → ℕ = λ m. m.turn in
    let turns = map turn marks in
    let each : (k : ℕ) → k < length turns → get_or turns k 0 < mark.turn = λ k lt.
    let within : k < length marks = omega (arith, length-map marks turn) in
    let one = below k mark within in let same = get_or-map turn marks k mark 0 within in omega arith in
    subst IsStrictlyIncreasing (sym (map-append turn marks (mark ∷ []))) (increasing_push turns mark.turn rising each)
