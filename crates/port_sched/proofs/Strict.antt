-- The turn of a strict class, a packet at a time.
use Rattle.std.proofs.Common.{◌≡◌, ◌<◌, ◌≤◌, ◌⊎◌, ℕ, zero, suc, ◌+◌, ◌-◌, min, [], take, drop, length, false, refl, inr, sym, ap, ◌∙◌, arith}
use Rattle.std.proofs.lemmas.List.{get_or-set_same, length-take-le}
use Rattle.std.specs.List.{fold, list_any, range_with_len}
use Rattle.queue_store.specs.Queues.{list_of, is_filled}
use Rattle.port_sched.specs.Sends.{total_cost, longest_front}
use Rattle.port_sched.specs.Classes.{Visit, front_sent, four_allow, strict_turn, strict_turns}
use Rattle.port_sched.proofs.Filled.{first-none}
use Rattle.port_sched.proofs.Ranges.{fold-range_more}
use Rattle.port_sched.proofs.Longest.{longest-over, longest-one}
use Rattle.port_sched.proofs.Paid.{front_sent-add, front_sent-none, four_allow-sent}

module _ {T : Type 0} (cost : T → ℕ) (class : ℕ) (v : Visit T) where
  -- no room is left, or the front does not fit: the turn is over
  pub strict-over : (v.room ≡ 0) ⊎ (0 < length (list_of class v.pipe.queues) → four_allow class v < total_cost cost (take 1 (list_of class v.pipe.queues))) → v ≡ strict_turn cost v class
  strict-over over =
      let queue = list_of class v.pipe.queues in
      let none = longest-over cost (four_allow class v) v.room queue over in
      sym (ap (λ n. front_sent cost class class n v) none ∙ front_sent-none cost class class v)

  -- the front fits: once it is sent, the rest of the turn is to come
  pub strict-goes_on : class < length v.pipe.queues.lists → 0 < v.room → 0 < length (list_of class v.pipe.queues) → total_cost cost (take 1 (list_of class v.pipe.queues)) ≤ four_allow class v → strict_turn cost (front_sent cost class class 1 v) class ≡ strict_turn cost v class
  strict-goes_on within some waits fits =
      let queue = list_of class v.pipe.queues in
      let next = front_sent cost class class 1 v in
      let rest = list_of class next.pipe.queues in
      let left : rest ≡ drop 1 queue = get_or-set_same v.pipe.queues.lists class (drop 1 queue) [] within in
      let allows : four_allow class next ≡ four_allow class v - total_cost cost (take 1 queue) = four_allow-sent cost class (take 1 queue) v in
      let one : length (take 1 queue) ≡ 1 = length-take-le 1 queue (omega arith) in
      let room : next.room ≡ v.room - 1 = ap (λ n. v.room - n) one in
      let count =
      ap (λ ts. suc (longest_front cost (four_allow class next) (min next.room (length ts)) ts)) left
      ∙ ap (λ a. suc (longest_front cost a (min next.room (length (drop 1 queue))) (drop 1 queue))) allows
      ∙ ap (λ r. suc (longest_front cost (four_allow class v - total_cost cost (take 1 queue)) (min r (length (drop 1 queue))) (drop 1 queue))) room
      ∙ sym (longest-one cost (four_allow class v) v.room queue some waits fits) in
      let more = longest_front cost (four_allow class next) (min next.room (length rest)) rest in
      let plus : 1 + more ≡ suc more = omega arith in
      front_sent-add cost class class 1 more v within ∙ ap (λ n. front_sent cost class class n v) (plus ∙ count)

module _ {T : Type 0} (cost : T → ℕ) (v : Visit T) where
  -- where no packet waits in a strict class's queue, none of them sends
  pub strict-none : 12 ≤ length v.pipe.queues.lists → list_any is_filled (take 12 v.pipe.queues.lists) ≡ false → v ≡ strict_turns cost v
  strict-none enough none = below 12 (omega arith)
    where
      below : (n : ℕ) → n ≤ 12 → v ≡ fold (strict_turn cost) v (range_with_len 0 n)
      below zero few = refl
      below (suc n) few =
          let one : n + 1 ≡ suc n = omega arith in
          let empty = first-none v.pipe.queues.lists 12 n enough none (omega arith) in
          strict-over cost n v (inr (λ waits. absurd (omega (arith, empty, waits))))
          ∙ ap (λ u. strict_turn cost u n) (below n (omega arith))
          ∙ sym (fold-range_more (strict_turn cost) v n)
          ∙ ap (λ m. fold (strict_turn cost) v (range_with_len 0 m)) one
