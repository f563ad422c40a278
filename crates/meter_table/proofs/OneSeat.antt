-- Where one seat made all marks of a log, they stand in the seat's order.
use Rattle.std.proofs.Common.{◌≡◌, ℕ, zero, suc, ◌+◌, ◌-◌, ◌<◌, ◌≤◌, List, Some, length, map, get_or, slice_get, inl, inr, ap, sym, ◌∙◌, arith}
use Rattle.std.specs.List.{All}
use Rattle.std.specs.List.Sorted.{IsStrictlyIncreasing}
use Rattle.std.proofs.lemmas.Bool.{cases_lt}
use Rattle.std.proofs.lemmas.List.{get_or-map, length-map}
use Rattle.std.proofs.lemmas.Option.{slice_get_within, get_or_from_slice_get}
use native.Mathlib.Decide.{ℕ_discrete}
use mathlib.Core.Logic.{dite}
use Rattle.meter_table.specs.declared.mark.Mark.{Mark}
use Rattle.meter_table.specs.Kept.{StandsIn}
use Rattle.meter_table.specs.Log.{made_at}
use Rattle.meter_table.proofs.Ended.{all_at, made_some}
use Rattle.meter_table.proofs.Passes.{there}
use Rattle.meter_table.proofs.Filled.{same_slices}

-- rising numbers are at least their places, and rise from any place to any later one
module _ (xs : List ℕ) (rising : IsStrictlyIncreasing xs) where
  at_least : (k : ℕ) → k < length xs → k ≤ get_or xs k 0
  at_least zero lt = omega arith
  at_least (suc k) lt =
      let before = at_least k (omega arith) in
      let step = rising k (omega arith) in
      let here : get_or xs (k + 1) 0 ≡ get_or xs (suc k) 0 = ap (λ n. get_or xs n 0) (omega arith) in
      omega arith

  later_more : (k d : ℕ) → k + d < length xs → get_or xs k 0 ≤ get_or xs (k + d) 0
  later_more k zero lt = let here : get_or xs (k + 0) 0 ≡ get_or xs k 0 = ap (λ n. get_or xs n 0) (omega arith) in omega arith
  later_more k (suc d) lt =
      let before = later_more k d (omega arith) in
      let step = rising (k + d) (omega arith) in
      let here : get_or xs (k + d + 1) 0 ≡ get_or xs (k + suc d) 0 = ap (λ n. get_or xs n 0) (omega arith) in
      omega arith

module _ (full marks : List Mark) (stand : All (StandsIn full) marks) (rising : IsStrictlyIncreasing (map (λ m. m.turn) marks)) (once : (turn : ℕ) → turn < length full → made_at turn marks ≡ 1) where
  turns : List ℕ
  turns = map (λ (m : Mark). m.turn) marks

  turn_at : (k : ℕ) (m : Mark) → slice_get marks k ≡ Some m → get_or (map (λ (x : Mark). x.turn) marks) k 0 ≡ m.turn
  turn_at k m at = get_or-map (λ (x : Mark). x.turn) marks k m 0 (slice_get_within marks k m at) ∙ ap (λ (x : Mark). x.turn) (get_or_from_slice_get marks k m m at)

  below_full : (k : ℕ) (m : Mark) → slice_get marks k ≡ Some m → m.turn < length full
  below_full k m at = slice_get_within full m.turn m (all_at (StandsIn full) marks k m stand at)

  -- the turn of each is its place, where that holds of those before it
  next_place : (k : ℕ) → ((j : ℕ) (m : Mark) → j < k → slice_get marks j ≡ Some m → m.turn ≡ j) → (m : Mark) → slice_get marks k ≡ Some m → m.turn ≡ k
  next_place k before m at =
      let ts = map (λ (x : Mark). x.turn) marks in
      let within = slice_get_within marks k m at in
      let lengths = length-map marks (λ (x : Mark). x.turn) in
      let least = at_least ts rising k (omega arith) in
      let mine = turn_at k m at in
      let short = below_full k m at in
      elim (cases_lt k m.turn) [
        | inl more ↦
            let one = once k (omega arith) in
            let found = made_some k marks (omega arith) in
            let there = slice_get_within marks found.0 found.1 found.2 in
            let its = turn_at found.0 found.1 found.2 in
            elim (cases_lt found.0 k) [
              | inl early ↦ let same = before found.0 found.1 early found.2 in absurd (omega (arith, found.3))
              | inr late ↦
                  let d : ℕ = found.0 - k in
                  let is : k + d ≡ found.0 = omega arith in
                  let more_still = later_more ts rising k d (omega arith) in
                  let here : get_or ts (k + d) 0 ≡ get_or ts found.0 0 = ap (λ n. get_or ts n 0) is in
                  absurd (omega (arith, found.3))
            ]
        | inr less ↦ omega arith
      ]

  places : (k j : ℕ) (m : Mark) → j < k → slice_get marks j ≡ Some m → m.turn ≡ j
  places zero j m lt at = absurd (omega arith)
  places (suc k) j m lt at =
      dite (ℕ_discrete j k)
      (λ is. next_place k (places k) m (ap (slice_get marks) (sym is) ∙ at) ∙ sym is)
      (λ not. places k j m (omega arith) at)

  place : (j : ℕ) (m : Mark) → slice_get marks j ≡ Some m → m.turn ≡ j
  place j m at = places (suc j) j m (omega arith) at

  same_length : length full ≡ length marks
  same_length =
      elim (cases_lt (length full) (length marks)) [
        | inl fewer ↦
            let m = there marks (length full) fewer in
            let is = place (length full) m.0 m.1 in
            let short = below_full (length full) m.0 m.1 in
            absurd (omega arith)
        | inr enough ↦
            elim (cases_lt (length marks) (length full)) [
              | inl more ↦
                  let one = once (length marks) more in
                  let found = made_some (length marks) marks (omega arith) in
                  let there = slice_get_within marks found.0 found.1 found.2 in
                  let is = place found.0 found.1 found.2 in
                  absurd (omega (arith, found.3))
              | inr no_more ↦ omega arith
            ]
      ]

  pub one_seat : full ≡ marks
  one_seat = same_slices full marks same_length (λ k m at. ap (slice_get full) (sym (place k m at)) ∙ all_at (StandsIn full) marks k m stand at)
