-- The turn of best effort, a draw at a time.
use Rattle.std.proofs.Common.{◌≡◌, ◌<◌, ◌≤◌, ◌⊎◌, ℕ, zero, suc, ◌+◌, ◌-◌, min, Bool, true, false, List, [], ◌++◌, take, length, refl, sym, ap, ◌∙◌, arith, cond, ltb, ◌&&◌, ⊎_elim}
use Rattle.std.proofs.lemmas.Bool.Decides.{nat_tests}
use Rattle.std.proofs.lemmas.List.{length-take-le}
use Rattle.std.proofs.lemmas.List.Sums.{sum_by-append}
use Rattle.queue_store.specs.Queues.{list_of}
use Rattle.port_sched.specs.Sends.{total_cost, longest_front}
use Rattle.port_sched.specs.Level.{Level}
use Rattle.wrr_pick.specs.RoundRobin.{RoundRobin, tokens_after_pick}
use Rattle.port_sched.specs.Pipe.{Pipe, filled}
use Rattle.port_sched.specs.Classes.{Visit, with_sent, front_sent, charged, four_allow, best_effort_allows, share_paid, best_effort_waits, next_front, before, picked, after_pick, draw, draws, after_draws, best_effort_turn}
use Rattle.port_sched.proofs.Longest.{longest-dear, longest-before, take-before, before-is, before-none}
use Rattle.port_sched.proofs.Paid.{with_sent-add, with_sent-none, four_allow-sent}

share-add : (oversub : Bool) (share a b : ℕ) → cond oversub (cond oversub (share - a) share - b) (cond oversub (share - a) share) ≡ cond oversub (share - (a + b)) share
share-add true share a b = omega arith
share-add false share a b = refl

share-none : (oversub : Bool) (share : ℕ) → cond oversub (share - 0) share ≡ share
share-none true share = omega arith
share-none false share = refl

allows-less : (oversub : Bool) (four share total less : ℕ) → less ≡ four - total → cond oversub (min less (cond oversub (share - total) share)) less ≡ cond oversub (min four share) four - total
allows-less true four share total less is = omega arith
allows-less false four share total less is = is

some_room : (n : ℕ) (b : Bool) → 0 < n → b ≡ true → (ltb 0 n && b) ≡ true
some_room n b some is = grind (arith, nat_tests)

same_room : (n room : ℕ) → ltb (suc n) (suc room) ≡ ltb n room
same_room n room = grind (arith, nat_tests)

nothing_left : (room : ℕ) (waits : Bool) → (room ≡ 0) ⊎ (waits ≡ false) → (ltb 0 room && waits) ≡ false
nothing_left room waits idle = grind (arith, nat_tests)

module _ {T : Type 0} where
  -- a pipe with other credits
  abbrev pub with_credits : Level → ℕ → Pipe T → Pipe T
  with_credits level share p = record p { level = level; share = share }

  -- the queue that the next pick takes
  abbrev pub picked_list : Pipe T → List T
  picked_list p = list_of (12 + picked p) p.queues

  -- where a packet is left the next pick takes its tokens
  abbrev pub left_by : Bool → Pipe T → Pipe T
  left_by more p = cond more (after_pick p) p

  -- the pipe after a pick, from what the pick says of the round robin
  pub after_pick-is : (p : Pipe T) (round : RoundRobin) (filled_is : List Bool) → filled_is ≡ filled p → round.tokens ≡ tokens_after_pick p.round.tokens filled_is → round.factors ≡ p.round.factors → record p { round = round } ≡ after_pick p
  after_pick-is p round filled_is is tokens factors =
      let tokens_are = tokens ∙ ap (tokens_after_pick p.round.tokens) is in
      λ i. record p { round = record { factors = factors i; tokens = tokens_are i } }

  left_by-with : (more : Bool) (level : Level) (share : ℕ) (p : Pipe T) → left_by more (with_credits level share p) ≡ with_credits level share (left_by more p)
  left_by-with true level share p = refl
  left_by-with false level share p = refl

module _ {T : Type 0} (cost : T → ℕ) where
  -- credits have no part in the draws
  pub draws-with : (n : ℕ) (level : Level) (share : ℕ) (p : Pipe T) → draws cost n (with_credits level share p) ≡ draws cost n p
  unfolding draws
  draws-with zero level share p = refl
  draws-with (suc n) level share p = ap (before (next_front p)) (draws-with n level share (draw cost p))

  pub after_draws-with : (n : ℕ) (level : Level) (share : ℕ) (p : Pipe T) → after_draws cost n (with_credits level share p) ≡ with_credits level share (after_draws cost n p)
  unfolding after_draws
  after_draws-with zero level share p = refl
  after_draws-with (suc n) level share p = after_draws-with n level share (draw cost p)

  -- so they leave the credits as they are
  after_draws-kept : (n : ℕ) (p : Pipe T) → after_draws cost n p ≡ with_credits p.level p.share (after_draws cost n p)
  after_draws-kept n p = after_draws-with n p.level p.share p

  draws-more : (n : ℕ) (p : Pipe T) → 0 < length (picked_list p) → draws cost (suc n) p ≡ take 1 (picked_list p) ++ draws cost n (draw cost p)
  unfolding draws
  draws-more n p waits = before-is (picked_list p) (draws cost n (draw cost p)) waits

  draws-none : (n : ℕ) (p : Pipe T) → (n ≡ 0) ⊎ (length (picked_list p) ≡ 0) → draws cost n p ≡ []
  unfolding draws
  draws-none zero p none = refl
  draws-none (suc n) p none =
      ⊎_elim
      (λ (full : suc n ≡ 0). absurd (omega arith))
      (λ (nothing : length (picked_list p) ≡ 0). before-none (picked_list p) (draws cost n (draw cost p)) nothing)
      none

  after_draws-zero : (p : Pipe T) → after_draws cost 0 p ≡ p
  unfolding after_draws
  after_draws-zero p = refl

  after_draws-more : (n : ℕ) (p : Pipe T) → after_draws cost (suc n) p ≡ after_draws cost n (draw cost p)
  unfolding after_draws
  after_draws-more n p = refl

  -- these packets have been drawn and are sent, and the pipe is left so but for its credits
  abbrev drawn_sent : List T → Pipe T → Visit T → Visit T
  drawn_sent ts left v = with_sent cost 12 ts (record v { pipe = share_paid v.oversub (total_cost cost ts) (with_credits v.pipe.level v.pipe.share left) })

  drawn_sent-add : (ts us : List T) (mid left : Pipe T) (v : Visit T) → drawn_sent us left (drawn_sent ts mid v) ≡ drawn_sent (ts ++ us) left v
  drawn_sent-add ts us mid left v =
      let total = sum_by-append cost ts us in
      let share = share-add v.oversub v.pipe.share (total_cost cost ts) (total_cost cost us)
      ∙ ap (λ n. cond v.oversub (v.pipe.share - n) v.pipe.share) (sym total) in
      with_sent-add cost 12 ts us (record v { pipe = with_credits v.pipe.level (cond v.oversub (cond v.oversub (v.pipe.share - total_cost cost ts) v.pipe.share - total_cost cost us) (cond v.oversub (v.pipe.share - total_cost cost ts) v.pipe.share)) left })
      ∙ ap (λ s. with_sent cost 12 (ts ++ us) (record v { pipe = with_credits v.pipe.level s left })) share

  drawn_sent-none : (left : Pipe T) (v : Visit T) → drawn_sent [] left v ≡ record v { pipe = with_credits v.pipe.level v.pipe.share left }
  drawn_sent-none left v =
      with_sent-none cost 12 (record v { pipe = share_paid v.oversub 0 (with_credits v.pipe.level v.pipe.share left) })
      ∙ ap (λ s. record v { pipe = with_credits v.pipe.level s left }) (share-none v.oversub v.pipe.share)

  -- a best effort turn that draws the first n of a front
  abbrev turn_of : List T → ℕ → Visit T → Visit T
  turn_of front n v =
      let drawn = after_draws cost n v.pipe in
      with_sent cost 12 (take n front) (record v { pipe = share_paid v.oversub (total_cost cost (take n front)) (left_by (ltb n v.room && best_effort_waits drawn) drawn) })

  turn_of-is : (front : List T) (n : ℕ) (v : Visit T) (more : Bool) (left : Pipe T) → (ltb n v.room && best_effort_waits (after_draws cost n v.pipe)) ≡ more → after_draws cost n v.pipe ≡ with_credits v.pipe.level v.pipe.share left → turn_of front n v ≡ drawn_sent (take n front) (left_by more left) v
  turn_of-is front n v more left test drawn =
      ap (λ b. with_sent cost 12 (take n front) (record v { pipe = share_paid v.oversub (total_cost cost (take n front)) (left_by b (after_draws cost n v.pipe)) })) test
      ∙ ap (λ (p : Pipe T). with_sent cost 12 (take n front) (record v { pipe = share_paid v.oversub (total_cost cost (take n front)) (left_by more p) })) drawn
      ∙ ap (λ (p : Pipe T). with_sent cost 12 (take n front) (record v { pipe = share_paid v.oversub (total_cost cost (take n front)) p })) (left_by-with more v.pipe.level v.pipe.share left)

  -- a draw as the code makes it: a pick, a charge, and a send
  pub drawn-is : (v : Visit T) (queue total : ℕ) (after charges : Pipe T) → queue ≡ picked v.pipe → total ≡ total_cost cost (take 1 (list_of (12 + queue) v.pipe.queues)) → after ≡ after_pick v.pipe → charges ≡ record (share_paid v.oversub total after) { round = record after.round { tokens = charged queue total after } } → front_sent cost 12 (12 + queue) 1 (record v { pipe = charges }) ≡ drawn_sent (take 1 (picked_list v.pipe)) (draw cost v.pipe) v
  drawn-is v queue total after charges queue_is total_is after_is charges_is =
      ap (λ p. front_sent cost 12 (12 + queue) 1 (record v { pipe = p })) charges_is
      ∙ ap (λ (p : Pipe T). front_sent cost 12 (12 + queue) 1 (record v { pipe = record (share_paid v.oversub total p) { round = record p.round { tokens = charged queue total p } } })) after_is
      ∙ ap (λ n. front_sent cost 12 (12 + queue) 1 (record v { pipe = record (share_paid v.oversub n (after_pick v.pipe)) { round = record v.pipe.round { tokens = charged queue n (after_pick v.pipe) } } })) total_is
      ∙ ap (λ q. front_sent cost 12 (12 + q) 1 (record v { pipe = record (share_paid v.oversub (total_cost cost (take 1 (list_of (12 + q) v.pipe.queues))) (after_pick v.pipe)) { round = record v.pipe.round { tokens = charged q (total_cost cost (take 1 (list_of (12 + q) v.pipe.queues))) (after_pick v.pipe) } } })) queue_is

  -- no room is left, or nothing waits: the turn is over
  pub best_effort-over : (v : Visit T) → (v.room ≡ 0) ⊎ (length (picked_list v.pipe) ≡ 0) → (v.room ≡ 0) ⊎ (best_effort_waits v.pipe ≡ false) → v ≡ best_effort_turn cost v
  unfolding longest_front
  best_effort-over v none idle =
      let test : (ltb 0 v.room && best_effort_waits v.pipe) ≡ false = nothing_left v.room (best_effort_waits v.pipe) idle in
      let zero = after_draws-zero v.pipe in
      sym (ap (λ front. turn_of front (longest_front cost (best_effort_allows v) (length front) front) v) (draws-none v.room v.pipe none)
      ∙ turn_of-is [] 0 v false v.pipe (ap (λ p. ltb 0 v.room && best_effort_waits p) zero ∙ test) zero
      ∙ drawn_sent-none v.pipe v)

  -- the front of the picked queue does not fit: the pick has taken its tokens
  pub best_effort-dear : (v : Visit T) → 0 < v.room → best_effort_waits v.pipe ≡ true → 0 < length (picked_list v.pipe) → best_effort_allows v < total_cost cost (take 1 (picked_list v.pipe)) → record v { pipe = after_pick v.pipe } ≡ best_effort_turn cost v
  best_effort-dear v some waits first dear =
      let queue = picked_list v.pipe in
      let less = v.room - 1 in
      let more : v.room ≡ suc less = omega arith in
      let later = draws cost less (draw cost v.pipe) in
      let front = draws cost v.room v.pipe in
      let front-is : front ≡ take 1 queue ++ later = ap (λ n. draws cost n v.pipe) more ∙ draws-more less v.pipe first in
      let none = longest-dear cost (best_effort_allows v) queue later first dear in
      let test = some_room v.room (best_effort_waits v.pipe) some waits in
      let zero = after_draws-zero v.pipe in
      sym (ap (λ f. turn_of f (longest_front cost (best_effort_allows v) (length f) f) v) front-is
      ∙ ap (λ n. turn_of (take 1 queue ++ later) n v) none
      ∙ turn_of-is (take 1 queue ++ later) 0 v true v.pipe (ap (λ p. ltb 0 v.room && best_effort_waits p) zero ∙ test) zero
      ∙ drawn_sent-none (after_pick v.pipe) v)

  -- it fits: once it is sent, the rest of the turn is to come
  pub best_effort-goes_on : (v : Visit T) → 0 < v.room → 0 < length (picked_list v.pipe) → total_cost cost (take 1 (picked_list v.pipe)) ≤ best_effort_allows v → best_effort_turn cost (drawn_sent (take 1 (picked_list v.pipe)) (draw cost v.pipe) v) ≡ best_effort_turn cost v
  best_effort-goes_on v some waits fits =
      let queue = picked_list v.pipe in
      let total = total_cost cost (take 1 queue) in
      let less = v.room - 1 in
      let drawn = draw cost v.pipe in
      let next = drawn_sent (take 1 queue) drawn v in
      let one : length (take 1 queue) ≡ 1 = length-take-le 1 queue (omega arith) in
      let room : next.room ≡ less = ap (λ n. v.room - n) one in
      let more : v.room ≡ suc less = omega arith in
      let later = draws cost less drawn in
      let front : draws cost v.room v.pipe ≡ take 1 queue ++ later = ap (λ n. draws cost n v.pipe) more ∙ draws-more less v.pipe waits in
      let later-is : draws cost next.room next.pipe ≡ later = ap (λ n. draws cost n next.pipe) room ∙ draws-with less next.pipe.level next.pipe.share drawn in
      let allows : best_effort_allows next ≡ best_effort_allows v - total = allows-less v.oversub (four_allow 12 v) v.pipe.share total (four_allow 12 next) (four_allow-sent cost 12 (take 1 queue) (record v { pipe = with_credits v.pipe.level v.pipe.share drawn })) in
      let n = longest_front cost (best_effort_allows v - total) (length later) later in
      let count = longest-before cost (best_effort_allows v) queue later waits fits in
      let left = after_draws cost n drawn in
      let test = ltb n less && best_effort_waits left in
      let kept : left ≡ with_credits v.pipe.level v.pipe.share left = after_draws-kept n drawn in
      let whole : best_effort_turn cost v ≡ drawn_sent (take 1 queue ++ take n later) (left_by test left) v =
      ap (λ f. turn_of f (longest_front cost (best_effort_allows v) (length f) f) v) front
      ∙ ap (λ k. turn_of (take 1 queue ++ later) k v) count
      ∙ turn_of-is (take 1 queue ++ later) (suc n) v test left
      (ap (λ p. ltb (suc n) v.room && best_effort_waits p) (after_draws-more n v.pipe) ∙ ap (λ b. b && best_effort_waits left) (ap (ltb (suc n)) more ∙ same_room n less))
      (after_draws-more n v.pipe ∙ kept)
      ∙ ap (λ ts. drawn_sent ts (left_by test left) v) (take-before cost n queue later waits) in
      let rest : best_effort_turn cost next ≡ drawn_sent (take n later) (left_by test left) next =
      ap (λ f. turn_of f (longest_front cost (best_effort_allows next) (length f) f) next) later-is
      ∙ ap (λ a. turn_of later (longest_front cost a (length later) later) next) allows
      ∙ turn_of-is later n next test left
      (ap (λ p. ltb n next.room && best_effort_waits p) (after_draws-with n next.pipe.level next.pipe.share drawn) ∙ ap (λ r. ltb n r && best_effort_waits left) room)
      (after_draws-with n next.pipe.level next.pipe.share drawn) in
      rest ∙ drawn_sent-add (take 1 queue) (take n later) drawn (left_by test left) v ∙ sym whole
