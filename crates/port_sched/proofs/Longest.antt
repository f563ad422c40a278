-- The longest front of a list that credits pay for, a packet at a time.
use Rattle.std.proofs.Common.{◌≡◌, ◌<◌, ◌≤◌, ◌⊎◌, ℕ, zero, suc, ◌-◌, min, List, [], ◌∷◌, ◌++◌, take, drop, length, Some, None, refl, sym, ap, ◌∙◌, arith, cond, leb, ⊎_elim}
use Rattle.std.specs.Prelude.{slice_get, option_map}
use Rattle.std.proofs.lemmas.Bool.{cases_lt}
use Rattle.std.proofs.lemmas.Bool.Decides.{nat_tests}
use Rattle.std.proofs.lemmas.List.Sums.{sum_by-cons}
use Rattle.port_sched.specs.Sends.{total_cost, longest_front}
use Rattle.port_sched.specs.Classes.{before}

cond-le : (a b x y : ℕ) → a ≤ b → cond (leb a b) x y ≡ x
cond-le a b x y within = grind (arith, nat_tests)

cond-gt : (a b x y : ℕ) → b < a → cond (leb a b) x y ≡ y
cond-gt a b x y above = grind (arith, nat_tests)

module _ {T : Type 0} (cost : T → ℕ) where
  first-dear : (credits n : ℕ) (t : T) (ts : List T) → credits < cost t → longest_front cost credits n (t ∷ ts) ≡ 0
  unfolding longest_front
  first-dear credits zero t ts dear = refl
  first-dear credits (suc n) t ts dear =
      let total = sum_by-cons cost t (take n ts) in
      cond-gt (total_cost cost (t ∷ take n ts)) credits (suc n) (longest_front cost credits n (t ∷ ts)) (omega (arith, total))
      ∙ first-dear credits n t ts dear

  first-fits : (credits n : ℕ) (t : T) (ts : List T) → cost t ≤ credits → longest_front cost credits (suc n) (t ∷ ts) ≡ suc (longest_front cost (credits - cost t) n ts)
  unfolding longest_front
  first-fits credits zero t ts fits =
      let total = sum_by-cons cost t [] in
      cond-le (total_cost cost (t ∷ [])) credits 1 0 (omega (arith, total))
  first-fits credits (suc n) t ts fits =
      let total = sum_by-cons cost t (take (suc n) ts) in
      let shorter = longest_front cost (credits - cost t) n ts in
      ⊎_elim
      (λ (dear : credits - cost t < total_cost cost (take (suc n) ts)).
      cond-gt (total_cost cost (t ∷ take (suc n) ts)) credits (suc (suc n)) (longest_front cost credits (suc n) (t ∷ ts)) (omega (arith, total))
      ∙ first-fits credits n t ts fits
      ∙ ap suc (sym (cond-gt (total_cost cost (take (suc n) ts)) (credits - cost t) (suc n) shorter dear)))
      (λ (paid : total_cost cost (take (suc n) ts) ≤ credits - cost t).
      cond-le (total_cost cost (t ∷ take (suc n) ts)) credits (suc (suc n)) (longest_front cost credits (suc n) (t ∷ ts)) (omega (arith, total))
      ∙ ap suc (sym (cond-le (total_cost cost (take (suc n) ts)) (credits - cost t) (suc n) shorter paid)))
      (cases_lt (credits - cost t) (total_cost cost (take (suc n) ts)))

  -- what the front of a queue costs
  pub total-one : (t : T) → total_cost cost (t ∷ []) ≡ cost t
  total-one t = let total = sum_by-cons cost t [] in omega (arith, total)

  -- the front of a queue does not fit: nothing is sent
  pub longest-none : (credits room : ℕ) (queue : List T) → (0 < length queue → credits < total_cost cost (take 1 queue)) → longest_front cost credits (min room (length queue)) queue ≡ 0
  unfolding longest_front
  longest-none credits room [] dear = let none : min room 0 ≡ 0 = omega arith in ap (λ n. longest_front cost credits n []) none
  longest-none credits room (t ∷ ts) dear =
      let total = total-one t in
      let too_dear = dear (omega arith) in
      first-dear credits (min room (length (t ∷ ts))) t ts (omega (arith, total, too_dear))

  -- or no room is left
  pub longest-over : (credits room : ℕ) (queue : List T) → (room ≡ 0) ⊎ (0 < length queue → credits < total_cost cost (take 1 queue)) → longest_front cost credits (min room (length queue)) queue ≡ 0
  unfolding longest_front
  longest-over credits room queue over =
      ⊎_elim
      (λ (full : room ≡ 0). let none : min room (length queue) ≡ 0 = omega arith in ap (λ n. longest_front cost credits n queue) none)
      (λ (dear : 0 < length queue → credits < total_cost cost (take 1 queue)). longest-none credits room queue dear)
      over

  -- it fits: one packet, and then the longest front of the rest that the rest pays for
  pub longest-one : (credits room : ℕ) (queue : List T) → 0 < room → 0 < length queue → total_cost cost (take 1 queue) ≤ credits → longest_front cost credits (min room (length queue)) queue ≡ suc (longest_front cost (credits - total_cost cost (take 1 queue)) (min (room - 1) (length (drop 1 queue))) (drop 1 queue))
  longest-one credits room [] some waits fits = absurd (omega arith)
  longest-one credits room (t ∷ ts) some waits fits =
      let total = total-one t in
      let count : min room (length (t ∷ ts)) ≡ suc (min (room - 1) (length ts)) = omega arith in
      ap (λ n. longest_front cost credits n (t ∷ ts)) count
      ∙ first-fits credits (min (room - 1) (length ts)) t ts (omega (arith, total, fits))
      ∙ ap (λ c. suc (longest_front cost (credits - c) (min (room - 1) (length ts)) ts)) (sym total)

  -- the same of a list that the front of a queue begins
  pub longest-dear : (credits : ℕ) (queue ts : List T) → 0 < length queue → credits < total_cost cost (take 1 queue) → longest_front cost credits (length (take 1 queue ++ ts)) (take 1 queue ++ ts) ≡ 0
  longest-dear credits [] ts waits dear = absurd (omega arith)
  longest-dear credits (t ∷ us) ts waits dear =
      let total = total-one t in
      first-dear credits (length (t ∷ ts)) t ts (omega (arith, total, dear))

  pub longest-before : (credits : ℕ) (queue ts : List T) → 0 < length queue → total_cost cost (take 1 queue) ≤ credits → longest_front cost credits (length (take 1 queue ++ ts)) (take 1 queue ++ ts) ≡ suc (longest_front cost (credits - total_cost cost (take 1 queue)) (length ts) ts)
  longest-before credits [] ts waits fits = absurd (omega arith)
  longest-before credits (t ∷ us) ts waits fits =
      let total = total-one t in
      first-fits credits (length ts) t ts (omega (arith, total, fits))
      ∙ ap (λ c. suc (longest_front cost (credits - c) (length ts) ts)) (sym total)

  pub take-before : (n : ℕ) (queue ts : List T) → 0 < length queue → take (suc n) (take 1 queue ++ ts) ≡ take 1 queue ++ take n ts
  take-before n [] ts waits = absurd (omega arith)
  take-before n (t ∷ us) ts waits = refl

  -- the cost of a queue's front, if it has one
  pub front_cost-some : (queue : List T) (c : ℕ) → Some c ≡ option_map cost (slice_get queue 0) → (0 < length queue) × (c ≡ total_cost cost (take 1 queue))
  front_cost-some [] c is = absurd (cc)
  front_cost-some (t ∷ ts) c is = let same : c ≡ cost t = cc in (omega arith, same ∙ sym (total-one t))

  pub front_cost-none : (queue : List T) → None ≡ option_map cost (slice_get queue 0) → length queue ≡ 0
  front_cost-none [] is = refl
  front_cost-none (t ∷ ts) is = absurd (cc)

module _ {T : Type 0} where
  pub before-is : (queue ts : List T) → 0 < length queue → before (slice_get queue 0) ts ≡ take 1 queue ++ ts
  before-is [] ts waits = absurd (omega arith)
  before-is (t ∷ us) ts waits = refl

  pub before-none : (queue ts : List T) → length queue ≡ 0 → before (slice_get queue 0) ts ≡ []
  before-none [] ts none = refl
  before-none (t ∷ us) ts none = absurd (omega arith)
