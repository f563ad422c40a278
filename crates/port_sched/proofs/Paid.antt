-- Paying at once and in two parts is the same.
use Rattle.std.proofs.Common.{◌≡◌, ◌<◌, ◌≤◌, ℕ, ◌+◌, ◌-◌, List, [], ◌∷◌, ◌++◌, take, drop, length, sym, ap, ◌∙◌, arith, get_or, set, append_assoc, length-append, ⊎_elim, take-add}
use Rattle.std.proofs.lemmas.Bool.{cases_lt}
use Rattle.std.proofs.lemmas.List.{set-set, set-get_or, get_or-set_same, get_or_past, append-nil, drop-drop}
use Rattle.std.proofs.lemmas.List.Sums.{sum_by-append, sum_by-cons}
use Rattle.queue_store.specs.Queues.{list_of, with_list}
use Rattle.port_sched.specs.Sends.{total_cost, sends_from}
use Rattle.port_sched.specs.Level.{Level, level_paid, allowance}
use Rattle.port_sched.specs.Classes.{Visit, with_sent, front_sent, four_allow}

class-paid : (xs : List ℕ) (k c : ℕ) → get_or (set xs k (get_or xs k 0 - c)) k 0 ≡ get_or xs k 0 - c
class-paid xs k c =
    ⊎_elim
    (λ (within : k < length xs). get_or-set_same xs k (get_or xs k 0 - c) 0 within)
    (λ (past : length xs ≤ k).
    let none = get_or_past xs k 0 past in
    let less : get_or xs k 0 - c ≡ get_or xs k 0 = omega arith in
    ap (λ n. get_or (set xs k n) k 0) less ∙ ap (λ ys. get_or ys k 0) (set-get_or xs k 0) ∙ sym less)
    (cases_lt k (length xs))

module _ (class : ℕ) (l : Level) where
  pub level_paid-add : (a b : ℕ) → level_paid class b (level_paid class a l) ≡ level_paid class (a + b) l
  level_paid-add a b =
      let paid = class-paid l.classes class a in
      let credits : l.credits - a - b ≡ l.credits - (a + b) = omega arith in
      let own : get_or (set l.classes class (get_or l.classes class 0 - a)) class 0 - b ≡ get_or l.classes class 0 - (a + b) = omega arith in
      let classes = set-set l.classes class (get_or l.classes class 0 - a) (get_or (set l.classes class (get_or l.classes class 0 - a)) class 0 - b) ∙ ap (set l.classes class) own in
      λ i. record { plan = l.plan; credits = credits i; classes = classes i; due = l.due }

  pub level_paid-none : level_paid class 0 l ≡ l
  level_paid-none =
      let credits : l.credits - 0 ≡ l.credits = omega arith in
      let own : get_or l.classes class 0 - 0 ≡ get_or l.classes class 0 = omega arith in
      let classes = ap (set l.classes class) own ∙ set-get_or l.classes class 0 in
      λ i. record { plan = l.plan; credits = credits i; classes = classes i; due = l.due }

  pub allowance-paid : (a : ℕ) → allowance class (level_paid class a l) ≡ allowance class l - a
  allowance-paid a = let paid = class-paid l.classes class a in omega arith

module _ {T : Type 0} (cost : T → ℕ) where
  pub sends_from-append : (time : ℕ) (ts us : List T) → sends_from cost time (ts ++ us) ≡ sends_from cost time ts ++ sends_from cost (time + total_cost cost ts) us
  sends_from-append time [] us = ap (λ n. sends_from cost n us) (sym (omega arith))
  sends_from-append time (t ∷ ts) us =
      let head = sum_by-cons cost t ts in
      let later : time + cost t + total_cost cost ts ≡ time + total_cost cost (t ∷ ts) = omega (arith, head) in
      ap (λ sends. record { parcel = t; time = time } ∷ sends) (sends_from-append (time + cost t) ts us ∙ ap (λ n. sends_from cost (time + cost t) ts ++ sends_from cost n us) later)

  -- sending some packets of a class and then more is sending them all
  pub with_sent-add : (class : ℕ) (ts us : List T) (v : Visit T) → with_sent cost class us (with_sent cost class ts v) ≡ with_sent cost class (ts ++ us) v
  with_sent-add class ts us v =
      let total = sum_by-append cost ts us in
      let paid : (l : Level) → level_paid class (total_cost cost us) (level_paid class (total_cost cost ts) l) ≡ level_paid class (total_cost cost (ts ++ us)) l =
      λ l. level_paid-add class l (total_cost cost ts) (total_cost cost us) ∙ ap (λ n. level_paid class n l) (sym total) in
      let subport = paid v.subport in
      let pipe = paid v.pipe.level in
      let time : v.time + total_cost cost ts + total_cost cost us ≡ v.time + total_cost cost (ts ++ us) = omega (arith, total) in
      let count = length-append ts us in
      let room : v.room - length ts - length us ≡ v.room - length (ts ++ us) = omega (arith, count) in
      let sends = append_assoc v.sends (sends_from cost v.time ts) (sends_from cost (v.time + total_cost cost ts) us) ∙ ap (λ more. v.sends ++ more) (sym (sends_from-append v.time ts us)) in
      λ i. record v { subport = subport i; pipe = record v.pipe { level = pipe i }; time = time i; room = room i; sends = sends i }

  pub with_sent-none : (class : ℕ) (v : Visit T) → with_sent cost class [] v ≡ v
  with_sent-none class v =
      let subport = level_paid-none class v.subport in
      let pipe = level_paid-none class v.pipe.level in
      let time : v.time + 0 ≡ v.time = omega arith in
      let room : v.room - 0 ≡ v.room = omega arith in
      let sends = append-nil v.sends in
      λ i. record v { subport = subport i; pipe = record v.pipe { level = pipe i }; time = time i; room = room i; sends = sends i }

  pub front_sent-add : (class queue n m : ℕ) (v : Visit T) → queue < length v.pipe.queues.lists → front_sent cost class queue m (front_sent cost class queue n v) ≡ front_sent cost class queue (n + m) v
  front_sent-add class queue n m v within =
      let waits = list_of queue v.pipe.queues in
      let left : list_of queue (with_list queue (drop n waits) v.pipe.queues) ≡ drop n waits = get_or-set_same v.pipe.queues.lists queue (drop n waits) [] within in
      let more = ap (λ ts. with_sent cost class (take m ts) (with_sent cost class (take n waits) v)) left
      ∙ with_sent-add class (take n waits) (take m (drop n waits)) v
      ∙ ap (λ ts. with_sent cost class ts v) (sym (take-add n m waits)) in
      let dropped : drop m (drop n waits) ≡ drop (n + m) waits = simp drop-drop in
      let lists = set-set v.pipe.queues.lists queue (drop n waits) (drop m (list_of queue (with_list queue (drop n waits) v.pipe.queues)))
      ∙ ap (λ ts. set v.pipe.queues.lists queue (drop m ts)) left ∙ ap (set v.pipe.queues.lists queue) dropped in
      λ i. record (more i) { pipe = record ((more i).pipe) { queues = record v.pipe.queues { lists = lists i } } }

  pub front_sent-none : (class queue : ℕ) (v : Visit T) → front_sent cost class queue 0 v ≡ v
  front_sent-none class queue v =
      let none = with_sent-none class v in
      let lists = set-get_or v.pipe.queues.lists queue [] in
      λ i. record (none i) { pipe = record ((none i).pipe) { queues = record v.pipe.queues { lists = lists i } } }

module _ {T : Type 0} (cost : T → ℕ) where
  pub four_allow-sent : (class : ℕ) (ts : List T) (v : Visit T) → four_allow class (with_sent cost class ts v) ≡ four_allow class v - total_cost cost ts
  four_allow-sent class ts v =
      let subport = allowance-paid class v.subport (total_cost cost ts) in
      let pipe = allowance-paid class v.pipe.level (total_cost cost ts) in
      omega (arith, subport, pipe)
