-- When a class's turn comes and room is left, no class before it has credits for its first packet.
use Rattle.std.proofs.Common.{◌≡◌, ◌≢◌, ◌<◌, ◌≤◌, ◌⊎◌, inl, inr, ⊎_elim, ℕ, zero, suc, ◌+◌, ◌-◌, min, false, leb, List, [], ◌∷◌, Some, take, drop, length, refl, sym, ap, ◌∙◌, subst, set, get_or, length-take, length-drop, add-one, arith}
use Rattle.std.specs.List.{fold, slice_get, range_with_len}
use Rattle.std.proofs.lemmas.Bool.{cases_lt, cond_both}
use Rattle.std.proofs.lemmas.Bool.Decides.{nat_tests}
use Rattle.std.proofs.lemmas.List.{get_or-set_other}
use Rattle.std.proofs.lemmas.List.Sums.{sum_by-cons}
use Rattle.std.proofs.lemmas.Option.{slice_get_within}
use Rattle.queue_store.specs.Queues.{list_of}
use Rattle.port_sched.specs.Sends.{total_cost, longest_front}
use Rattle.port_sched.specs.Classes.{Visit, four_allow, with_sent, strict_turn}
use Rattle.port_sched.specs.VisitLaws.{turns_before, IsHeldBack, VisitLaws}
use Rattle.port_sched.proofs.Paid.{four_allow-sent}
use Rattle.port_sched.proofs.Ranges.{fold-range_more}
use Rattle.port_sched.proofs.Within.{set-less}
use Rattle.port_sched.proofs.Paying.{longest-paid, classes-pay, share-pays}

if-dear : (total credits : ℕ) → leb total credits ≡ false → credits < total
if-dear total credits is = grind (arith, nat_tests)

-- a place that is set is so, if it is there
set-left : {X : Type 0} (lists : List (List X)) (k n : ℕ)
    → get_or (set lists k (drop n (get_or lists k []))) k [] ≡ drop n (get_or lists k [])
set-left [] k zero = refl
set-left [] k (suc n) = refl
set-left (xs ∷ lists) zero n = refl
set-left (xs ∷ lists) (suc k) n = set-left lists k n

module _ {T : Type 0} (cost : T → ℕ) where
  total-next : (n : ℕ) (ts : List T) (t : T) → slice_get (drop n ts) 0 ≡ Some t
      → total_cost cost (take (suc n) ts) ≡ total_cost cost (take n ts) + cost t
  total-next zero [] t there = absurd (cc)
  total-next (suc n) [] t there = absurd (cc)
  total-next zero (x ∷ ts) t there = let same : x ≡ t = cc in ap (λ y. total_cost cost (y ∷ [])) same
  total-next (suc n) (x ∷ ts) t there =
      let more = sum_by-cons cost x (take (suc n) ts) in
      let less = sum_by-cons cost x (take n ts) in
      let rest = total-next n ts t there in
      omega (arith, more, less, rest)

  -- the longest front ends with its list or at a packet that costs too much
  Stops : ℕ → ℕ → List T → ℕ → Type 0
  Stops credits n ts m = (m ≡ n) ⊎ ((t : T) → slice_get (drop m ts) 0 ≡ Some t → credits - total_cost cost (take m ts) < cost t)

  longest-stops : (credits n : ℕ) (ts : List T) → Stops credits n ts (longest_front cost credits n ts)
  unfolding longest_front Stops
  longest-stops credits zero ts = inl refl
  longest-stops credits (suc n) ts =
      let shorter = longest_front cost credits n ts in
      cond_both (leb (total_cost cost (take (suc n) ts)) credits) (suc n) shorter (Stops credits (suc n) ts)
      (λ _. inl refl)
      (λ is.
      let dear = if-dear (total_cost cost (take (suc n) ts)) credits is in
      inr (⊎_elim
      (λ (all : shorter ≡ n). λ t there.
      let total = total-next n ts t (subst (λ m. slice_get (drop m ts) 0 ≡ Some t) all there) in
      subst (λ m. credits - total_cost cost (take m ts) < cost t) (sym all)
      (let fits = subst (λ m. total_cost cost (take m ts) ≤ credits) all (longest-paid cost credits n ts) in omega (arith, dear, total, fits)))
      (λ (stop : (t : T) → slice_get (drop shorter ts) 0 ≡ Some t → credits - total_cost cost (take shorter ts) < cost t). stop)
      (longest-stops credits n ts)))

  -- the class has had all that it may have
  IsDone : ℕ → Visit T → Type 0
  IsDone class v = (v.room ≡ 0) ⊎ IsHeldBack cost class v

  strict-done : (v : Visit T) (class : ℕ) → IsDone class (strict_turn cost v class)
  unfolding IsDone Stops
  strict-done v class =
      let queue = list_of class v.pipe.queues in
      let allows = four_allow class v in
      let most = min v.room (length queue) in
      let n = longest_front cost allows most queue in
      let left = set-left v.pipe.queues.lists class n in
      let count = length-take n queue in
      let rest = length-drop n queue in
      ⊎_elim
      (λ (all : n ≡ most). ⊎_elim
      (λ (short : length queue < v.room). inr (λ t there.
      let within = slice_get_within (drop n queue) 0 t (ap (λ ts. slice_get ts 0) (sym left) ∙ there) in
      absurd (omega (arith, all, short, rest, within))))
      (λ (full : v.room ≤ length queue). inl (omega (arith, all, full, count)))
      (cases_lt (length queue) v.room))
      (λ (stop : (t : T) → slice_get (drop n queue) 0 ≡ Some t → allows - total_cost cost (take n queue) < cost t). inr (λ t there.
      subst (λ a. a < cost t) (sym (four_allow-sent cost class (take n queue) v)) (stop t (ap (λ ts. slice_get ts 0) (sym left) ∙ there))))
      (longest-stops allows most queue)

  -- what is sent of a class leaves those before it held back
  held-still : (v : Visit T) (class before : ℕ) (ts : List T) → IsHeldBack cost before v → IsHeldBack cost before (with_sent cost class ts v)
  held-still v class before ts held t there =
      let total = total_cost cost ts in
      let subport = set-less (λ n. n) v.subport.classes class before (get_or v.subport.classes class 0 - total) 0 (omega arith) in
      let pipe = set-less (λ n. n) v.pipe.level.classes class before (get_or v.pipe.level.classes class 0 - total) 0 (omega arith) in
      let dear = held t there in
      omega (arith, subport, pipe, dear)

  strict-keeps : (v : Visit T) (class before : ℕ) → before ≢ class → IsDone before v → IsDone before (strict_turn cost v class)
  unfolding IsDone
  strict-keeps v class before other done =
      let queue = list_of class v.pipe.queues in
      let n = longest_front cost (four_allow class v) (min v.room (length queue)) queue in
      let same = get_or-set_other v.pipe.queues.lists class before (drop n queue) [] other in
      ⊎_elim
      (λ (full : v.room ≡ 0). inl (omega (arith, full)))
      (λ (held : IsHeldBack cost before v). inr (λ t there. held-still v class before (take n queue) held t (ap (λ ts. slice_get ts 0) (sym same) ∙ there)))
      done

  turns-done : (class before : ℕ) (v : Visit T) → before < class → IsDone before (turns_before cost class v)
  turns-done zero before v less = absurd (omega arith)
  turns-done (suc class) before v less =
      let so_far = turns_before cost class v in
      let next : turns_before cost (suc class) v ≡ strict_turn cost so_far class =
      ap (λ m. fold (strict_turn cost) v (range_with_len 0 m)) (sym (add-one class)) ∙ fold-range_more (strict_turn cost) v class in
      subst (IsDone before) (sym next)
      (⊎_elim
      (λ (earlier : before < class). strict-keeps so_far class before (omega arith) (turns-done class before v earlier))
      (λ (last : class ≤ before).
      let same : before ≡ class = omega arith in
      subst (λ k. IsDone k (strict_turn cost so_far class)) (sym same) (strict-done so_far class))
      (cases_lt before class))

  pub visit-laws : (v : Visit T) → VisitLaws cost v
  unfolding IsDone
  visit-laws v = record {
    pays = classes-pay cost v;
    share = share-pays cost v;
    priority = λ class before sent less room.
        ⊎_elim
        (λ (full : (turns_before cost class v).room ≡ 0). absurd (omega (arith, full, room)))
        (λ (held : IsHeldBack cost before (turns_before cost class v)). held-still (turns_before cost class v) class before sent held)
        (turns-done class before v less);
  }
