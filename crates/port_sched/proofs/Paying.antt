-- What a visit pays: the full cost of all that it sends.
use Rattle.std.proofs.Common.{◌≡◌, ◌≤◌, ℕ, zero, suc, ◌+◌, ◌-◌, min, Bool, true, false, cond, ltb, leb, ◌&&◌, List, [], ◌∷◌, take, length, refl, ap, ◌∙◌, set, get_or, sum, arith}
use Rattle.std.specs.List.{range_with_len}
use Rattle.std.proofs.lemmas.Bool.{cond_both}
use Rattle.std.proofs.lemmas.Bool.Decides.{nat_tests}
use Rattle.std.proofs.lemmas.List.Sums.{sum_by-cons}
use Rattle.queue_store.specs.Queues.{list_of}
use Rattle.port_sched.specs.Sends.{total_cost, longest_front}
use Rattle.port_sched.specs.Level.{Level, allowance, level_paid}
use Rattle.port_sched.specs.Pipe.{Pipe}
use Rattle.port_sched.specs.Classes.{Visit, four_allow, best_effort_allows, best_effort_waits, after_pick, draw, draws, after_draws, strict_turn, best_effort_turn, classes_turn}
use Rattle.port_sched.specs.VisitLaws.{turns_before, PaysInFull}
use Rattle.port_sched.proofs.Along.{Joins, fold-along, classes-along}
use Rattle.port_sched.proofs.Settled.{same-along}

if-paid : (total credits : ℕ) → leb total credits ≡ true → total ≤ credits
if-paid total credits is = grind (arith, nat_tests)

sum-paid : (xs : List ℕ) (k c : ℕ) → c ≤ get_or xs k 0 → c + sum (set xs k (get_or xs k 0 - c)) ≡ sum xs
sum-paid [] k c fits = omega arith
sum-paid (x ∷ xs) zero c fits =
    let was = sum_by-cons (λ (n : ℕ). n) x xs in
    let now = sum_by-cons (λ (n : ℕ). n) (x - c) xs in
    omega (arith, was, now)
sum-paid (x ∷ xs) (suc k) c fits =
    let was = sum_by-cons (λ (n : ℕ). n) x xs in
    let now = sum_by-cons (λ (n : ℕ). n) x (set xs k (get_or xs k 0 - c)) in
    let rest = sum-paid xs k c fits in
    omega (arith, was, now, rest)

-- a level pays a cost of a class that it allows
record IsPaid (class cost time : ℕ) (l : Level) : Type 0 where
  bucket : time + cost + (level_paid class cost l).credits ≡ time + l.credits
  classes : time + cost + sum (level_paid class cost l).classes ≡ time + sum l.classes

level-pays : (class cost time : ℕ) (l : Level) → cost ≤ allowance class l → IsPaid class cost time l
level-pays class cost time l fits =
    let rest = sum-paid l.classes class cost (omega arith) in
    record { bucket = omega arith; classes = omega (arith, rest) }

module _ {T : Type 0} (cost : T → ℕ) where
  pub longest-paid : (credits n : ℕ) (ts : List T) → total_cost cost (take (longest_front cost credits n ts) ts) ≤ credits
  unfolding longest_front
  longest-paid credits zero ts = omega arith
  longest-paid credits (suc n) ts =
      cond_both (leb (total_cost cost (take (suc n) ts)) credits) (suc n) (longest_front cost credits n ts) (λ m. total_cost cost (take m ts) ≤ credits)
      (λ is. if-paid (total_cost cost (take (suc n) ts)) credits is) (λ _. longest-paid credits n ts)

  pays-along : Joins (PaysInFull cost)
  pays-along = record {
    none = λ v. record { subport = refl; pipe = refl; subport_classes = refl; pipe_classes = refl };
    joined = λ a b c one two. record {
      subport = two.subport ∙ one.subport;
      pipe = two.pipe ∙ one.pipe;
      subport_classes = two.subport_classes ∙ one.subport_classes;
      pipe_classes = two.pipe_classes ∙ one.pipe_classes;
    };
  }

  strict-pays : (v : Visit T) (class : ℕ) → PaysInFull cost v (strict_turn cost v class)
  strict-pays v class =
      let queue = list_of class v.pipe.queues in
      let fits = longest-paid (four_allow class v) (min v.room (length queue)) queue in
      let total = total_cost cost (take (longest_front cost (four_allow class v) (min v.room (length queue)) queue) queue) in
      let subport = level-pays class total v.time v.subport (omega (arith, fits)) in
      let pipe = level-pays class total v.time v.pipe.level (omega (arith, fits)) in
      record { subport = subport.bucket; pipe = pipe.bucket; subport_classes = subport.classes; pipe_classes = pipe.classes }

  -- draws and picks leave a pipe's credits
  record HasCredits (level : Level) (share : ℕ) (p : Pipe T) : Type 0 where
    level_is : p.level ≡ level
    share_is : p.share ≡ share

  draws-credits : (n : ℕ) (p : Pipe T) → HasCredits p.level p.share (after_draws cost n p)
  unfolding after_draws
  draws-credits zero p = record { level_is = refl; share_is = refl }
  draws-credits (suc n) p = draws-credits n (draw cost p)

  left-credits : (level : Level) (share : ℕ) (more : Bool) (p : Pipe T) → HasCredits level share p
      → HasCredits level share (cond more (after_pick p) p)
  left-credits level share true p has = record { level_is = has.level_is; share_is = has.share_is }
  left-credits level share false p has = has

  allows-four : (oversub : Bool) (four share : ℕ) → cond oversub (min four share) four ≤ four
  allows-four true four share = omega arith
  allows-four false four share = omega arith

  -- what best effort sends, and what it leaves of the pipe but for its credits
  abbrev sent_by : Visit T → List T
  sent_by v =
      let front = draws cost v.room v.pipe in
      take (longest_front cost (best_effort_allows v) (length front) front) front

  abbrev left_by : Visit T → Pipe T
  left_by v =
      let front = draws cost v.room v.pipe in
      let n = longest_front cost (best_effort_allows v) (length front) front in
      let drawn = after_draws cost n v.pipe in
      cond (ltb n v.room && best_effort_waits drawn) (after_pick drawn) drawn

  sent-fits : (v : Visit T) → total_cost cost (sent_by v) ≤ best_effort_allows v
  sent-fits v = let front = draws cost v.room v.pipe in longest-paid (best_effort_allows v) (length front) front

  has-credits : (v : Visit T) → HasCredits v.pipe.level v.pipe.share (left_by v)
  has-credits v =
      let front = draws cost v.room v.pipe in
      let n = longest_front cost (best_effort_allows v) (length front) front in
      left-credits v.pipe.level v.pipe.share (ltb n v.room && best_effort_waits (after_draws cost n v.pipe)) (after_draws cost n v.pipe) (draws-credits n v.pipe)

  best_effort-pays : (v : Visit T) → PaysInFull cost v (best_effort_turn cost v)
  best_effort-pays v =
      let total = total_cost cost (sent_by v) in
      let fits = sent-fits v in
      let four = allows-four v.oversub (four_allow 12 v) v.pipe.share in
      let has = has-credits v in
      let subport = level-pays 12 total v.time v.subport (omega (arith, fits, four)) in
      let pipe = level-pays 12 total v.time v.pipe.level (omega (arith, fits, four)) in
      record {
        subport = subport.bucket;
        pipe = ap (λ l. v.time + total + (level_paid 12 total l).credits) has.level_is ∙ pipe.bucket;
        subport_classes = subport.classes;
        pipe_classes = ap (λ l. v.time + total + sum (level_paid 12 total l).classes) has.level_is ∙ pipe.classes;
      }

  pub classes-pay : (v : Visit T) → PaysInFull cost v (classes_turn cost v)
  classes-pay v = classes-along cost (PaysInFull cost) pays-along strict-pays best_effort-pays v

  share-fits : (oversub : Bool) (four share total : ℕ) → oversub ≡ true → total ≤ cond oversub (min four share) four
      → (total ≤ share) × (cond oversub (share - total) share ≡ share - total)
  share-fits true four share total is fits = (omega arith, refl)
  share-fits false four share total is fits = absurd (cc)

  best_effort-share : (v : Visit T) → v.oversub ≡ true
      → (best_effort_turn cost v).time + (best_effort_turn cost v).pipe.share ≡ v.time + v.pipe.share
  best_effort-share v on =
      let total = total_cost cost (sent_by v) in
      let has = has-credits v in
      let both = share-fits v.oversub (four_allow 12 v) v.pipe.share total on (sent-fits v) in
      let fits = both.0 in
      let less = both.1 in
      ap (λ n. v.time + total + cond v.oversub (n - total) n) has.share_is ∙ omega (arith, fits, less)

  -- the strict classes leave the share, and whether it counts
  share-along : (v : Visit T) (class : ℕ)
      → ((turns_before cost class v).pipe.share ≡ v.pipe.share) × ((turns_before cost class v).oversub ≡ v.oversub)
  share-along v class = (
    fold-along (λ (a b : Visit T). b.pipe.share ≡ a.pipe.share) (same-along (λ (a : Visit T). a.pipe.share)) (strict_turn cost) (λ a k. refl) v (range_with_len 0 class),
    fold-along (λ (a b : Visit T). b.oversub ≡ a.oversub) (same-along (λ (a : Visit T). a.oversub)) (strict_turn cost) (λ a k. refl) v (range_with_len 0 class),
  )

  pub share-pays : (v : Visit T) → v.oversub ≡ true
      → (classes_turn cost v).time + (classes_turn cost v).pipe.share ≡ (turns_before cost 12 v).time + v.pipe.share
  unfolding classes_turn
  share-pays v on =
      let before = turns_before cost 12 v in
      let same = share-along v 12 in
      best_effort-share before (same.1 ∙ on) ∙ ap (λ n. before.time + n) same.0
