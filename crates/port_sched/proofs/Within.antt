-- The bounds that each step of a dequeue keeps.
use Rattle.std.proofs.Common.{◌≡◌, ◌<◌, ◌≤◌, ℕ, zero, suc, ◌+◌, ◌-◌, ◌*◌, ◌%◌, min, max, Bool, true, false, cond, eqb, ltb, ◌&&◌, List, [], ◌∷◌, Some, take, drop, length, refl, sym, ap, ◌∙◌, subst, set, get_or, length-set, length-drop, arith}
use Rattle.std.specs.List.{slice_get}
use Rattle.std.proofs.lemmas.Bool.{cond_both}
use Rattle.std.proofs.lemmas.Option.{get_or_from_slice_get, slice_get_within}
use Rattle.std.proofs.lemmas.List.{length-map}
use Rattle.std.proofs.lemmas.List.Elements.{All-get_or, All-set, All-map, All-weaker}
use Rattle.qos_base.specs.declared.packet.Pkt.{Pkt}
use Rattle.credit_book.specs.Bucket.{multiples, after_periods}
use Rattle.credit_book.specs.Watermark.{OversubscriptionWatermark, is_short, lowered, raised, stepped}
use Rattle.queue_store.specs.Queues.{list_of, with_list}
use Rattle.port_sched.specs.Sends.{total_cost, longest_front}
use Rattle.port_sched.specs.Level.{Level, is_due, level_tick, level_renewed, used, level_paid}
use Rattle.port_sched.specs.Pipe.{Pipe}
use Rattle.port_sched.specs.Subport.{Subport}
use Rattle.port_sched.specs.Port.{Port, pipe_tick, subport_tick}
use Rattle.port_sched.specs.Renewal.{has_seen, used_above, watermark_renewed, subport_renewed, pipe_renewed}
use Rattle.port_sched.specs.Classes.{Visit, four_allow, best_effort_allows, best_effort_waits, after_pick, picked, draw, draws, after_draws, strict_turn, best_effort_turn, classes_turn}
use Rattle.port_sched.specs.Visit.{visit_start, cursor_after}
use Rattle.port_sched.specs.PortDequeue.{Course, cost_with, service_start, dequeue_port}
use Rattle.port_sched.specs.Settings.{IsLevelWithin, IsPipeWithin, IsSubportWithin, IsPortWithin}
use Rattle.port_sched.proofs.Along.{Joins, HoldsOfSteps, classes-along, visited, dequeue-along}
use Rattle.port_sched.proofs.Served.{classes-served}

-- what is kept goes along
pub kept-along : {X : Type 0} (P : X → Type 0) → Joins (λ a b. P a → P b)
kept-along P = record { none = λ a holds. holds; joined = λ a b c one two holds. two (one holds) }

-- an element within its bound leaves all within theirs
pub set-bound : {X : Type 0} (size : X → ℕ) (xs : List X) (i k : ℕ) (y d : X) (bound : ℕ) → size (get_or xs k d) ≤ bound
    → (k ≡ i → size y ≤ bound) → size (get_or (set xs i y) k d) ≤ bound
set-bound size [] i k y d bound was now = was
set-bound size (x ∷ xs) zero zero y d bound was now = now refl
set-bound size (x ∷ xs) zero (suc k) y d bound was now = was
set-bound size (x ∷ xs) (suc i) zero y d bound was now = was
set-bound size (x ∷ xs) (suc i) (suc k) y d bound was now = set-bound size xs i k y d bound was (λ same. now (ap suc same))

-- an element that gets no greater leaves none greater
pub set-less : {X : Type 0} (size : X → ℕ) (xs : List X) (i k : ℕ) (y d : X) → size y ≤ size (get_or xs i d)
    → size (get_or (set xs i y) k d) ≤ size (get_or xs k d)
set-less size xs i k y d less = set-bound size xs i k y d (size (get_or xs k d)) (omega arith) (λ same. subst (λ j. size y ≤ size (get_or xs j d)) (sym same) less)

cursor-within : (place places room : ℕ) → place < places → cursor_after place places room < places
cursor-within place places room within =
    cond_both (eqb room 0) place ((place + 1) % places) (λ n. n < places) (λ _. within) (λ _. omega arith)

periods-within : (size per_period n credits : ℕ) → credits ≤ size → after_periods size per_period n credits ≤ size
unfolding after_periods
periods-within size per_period zero credits within = within
periods-within size per_period (suc n) credits within = omega arith

paid-within : (class cost : ℕ) (l : Level) → IsLevelWithin l → IsLevelWithin (level_paid class cost l)
paid-within class cost l within =
    let credits = within.credits in
    record {
      credits = omega arith;
      classes = λ k.
          let less = set-less (λ n. n) l.classes class k (get_or l.classes class 0 - cost) 0 (omega arith) in
          let was = within.classes k in
          omega (arith, less, was);
    }

renewed-within : (moment : ℕ) (l : Level) → IsLevelWithin l → IsLevelWithin (level_renewed moment l)
renewed-within moment l within =
    cond_both (is_due moment l) (record l { classes = l.plan.tc_credits; due = moment + l.plan.tc_period }) l IsLevelWithin
    (λ _. record { credits = within.credits; classes = λ k. omega arith })
    (λ _. within)

ticked-within : (from to : ℕ) (l : Level) → IsLevelWithin l → IsLevelWithin (level_tick from to l)
ticked-within from to l within = record {
  credits = periods-within l.plan.tb_size l.plan.tb_credits (multiples l.plan.tb_period from to) l.credits within.credits;
  classes = within.classes;
}

-- a watermark between its bounds
record IsBetween (w : OversubscriptionWatermark) : Type 0 where
  at_least : w.mtu_cost ≤ w.value
  at_most : w.value ≤ w.max

stepped-between : (used_above used_be : ℕ) (w : OversubscriptionWatermark) → IsBetween w → IsBetween (stepped used_above used_be w)
stepped-between used_above used_be w within =
    let at_least = within.at_least in
    let at_most = within.at_most in
    cond_both (is_short used_above used_be w) (lowered w) (raised w) (λ v. IsBetween (record w { value = v }))
    (λ _. record { at_least = omega arith; at_most = omega arith })
    (λ _. record { at_least = omega arith; at_most = omega arith })

module _ {T : Type 0} where
  watermark-between : (s : Subport T) → IsBetween s.watermark → IsBetween (watermark_renewed s)
  watermark-between s within =
      cond_both (s.oversub && s.oversubscribed) (stepped (used_above s.level) (used 12 s.level) s.watermark) s.watermark IsBetween
      (λ _. stepped-between (used_above s.level) (used 12 s.level) s.watermark within)
      (λ _. within)

  subport-within : (moment : ℕ) (s : Subport T) → IsSubportWithin s → IsSubportWithin (subport_renewed moment s)
  subport-within moment s within =
      let mark = watermark-between s (record { at_least = within.at_least; at_most = within.at_most }) in
      cond_both (is_due moment s.level) (record s { level = level_renewed moment s.level; watermark = watermark_renewed s; period = s.period + 1 }) s IsSubportWithin
      (λ _. record { level = renewed-within moment s.level within.level; at_least = mark.at_least; at_most = mark.at_most; cursor = within.cursor; pipes = within.pipes })
      (λ _. within)

  pipe-within : (moment : ℕ) (s : Subport T) (p : Pipe T) → IsPipeWithin p → IsPipeWithin (pipe_renewed moment s p)
  pipe-within moment s p within =
      let renewed : Pipe T = record p { level = level_renewed moment p.level } in
      let granted : Pipe T = record renewed { share = s.watermark.value * p.weight; seen = Some s.period } in
      let level = renewed-within moment p.level within.level in
      cond_both s.oversub (cond (has_seen s.period p.seen) renewed granted) renewed IsPipeWithin
      (λ _. cond_both (has_seen s.period p.seen) renewed granted IsPipeWithin
      (λ _. record { level = level; lists = within.lists; queues = within.queues })
      (λ _. record { level = level; lists = within.lists; queues = within.queues }))
      (λ _. record { level = level; lists = within.lists; queues = within.queues })

  -- a queue without its first packets
  front-within : (p : Pipe T) (queue n : ℕ) → IsPipeWithin p
      → IsPipeWithin (record p { queues = with_list queue (drop n (list_of queue p.queues)) p.queues })
  front-within p queue n within =
      let shorter = length-drop n (list_of queue p.queues) in
      record {
        level = within.level;
        lists = length-set p.queues.lists queue (drop n (list_of queue p.queues)) ∙ within.lists;
        queues = λ k.
            let less = set-less length p.queues.lists queue k (drop n (list_of queue p.queues)) [] (omega (arith, shorter)) in
            let was = within.queues k in
            omega (arith, less, was);
      }

  cond-within : (b : Bool) (p : Pipe T) → IsPipeWithin p → IsPipeWithin (cond b (after_pick p) p)
  cond-within true p within = record { level = within.level; lists = within.lists; queues = within.queues }
  cond-within false p within = within

  -- a visit's subport and pipe
  record IsVisitWithin (v : Visit T) : Type 0 where
    subport : IsLevelWithin v.subport
    pipe : IsPipeWithin v.pipe

module _ {T : Type 0} (cost : T → ℕ) where
  draws-within : (n : ℕ) (p : Pipe T) → IsPipeWithin p → IsPipeWithin (after_draws cost n p)
  unfolding after_draws
  draws-within zero p within = within
  draws-within (suc n) p within =
      let one = front-within p (12 + picked p) 1 within in
      draws-within n (draw cost p) (record { level = one.level; lists = one.lists; queues = one.queues })

  strict-within : (v : Visit T) (class : ℕ) → IsVisitWithin v → IsVisitWithin (strict_turn cost v class)
  strict-within v class within =
      let waits = list_of class v.pipe.queues in
      let n = longest_front cost (four_allow class v) (min v.room (length waits)) waits in
      let total = total_cost cost (take n waits) in
      let left = front-within v.pipe class n within.pipe in
      record {
        subport = paid-within class total v.subport within.subport;
        pipe = record { level = paid-within class total v.pipe.level within.pipe.level; lists = left.lists; queues = left.queues };
      }

  best_effort-within : (v : Visit T) → IsVisitWithin v → IsVisitWithin (best_effort_turn cost v)
  best_effort-within v within =
      let front = draws cost v.room v.pipe in
      let n = longest_front cost (best_effort_allows v) (length front) front in
      let drawn = after_draws cost n v.pipe in
      let total = total_cost cost (take n front) in
      let left = cond-within (ltb n v.room && best_effort_waits drawn) drawn (draws-within n v.pipe within.pipe) in
      record {
        subport = paid-within 12 total v.subport within.subport;
        pipe = record { level = paid-within 12 total (cond (ltb n v.room && best_effort_waits drawn) (after_pick drawn) drawn).level left.level; lists = left.lists; queues = left.queues };
      }

  classes-within : (v : Visit T) → IsVisitWithin v → IsVisitWithin (classes_turn cost v)
  classes-within v = classes-along cost (λ a b. IsVisitWithin a → IsVisitWithin b) (kept-along IsVisitWithin) strict-within best_effort-within v

module _ {T : Type 0} (packet : T → Pkt) where
  visited-within : (k q : ℕ) (c : Course T) (s : Subport T) (p : Pipe T) → slice_get c.port.subports k ≡ Some s
      → slice_get s.pipes q ≡ Some p → IsPortWithin c.port → IsPortWithin (visited packet k q c s p).port
  visited-within k q c s p subport pipe within =
      let cost = cost_with packet c.port.overhead in
      let renewed = subport_renewed c.port.time s in
      let start = visit_start (service_start packet c s) p in
      let end = classes_turn cost start in
      let own : IsSubportWithin s = subst IsSubportWithin (get_or_from_slice_get c.port.subports k s s subport)
      (All-get_or IsSubportWithin c.port.subports k s (slice_get_within c.port.subports k s subport) within.subports) in
      let its : IsPipeWithin p = subst IsPipeWithin (get_or_from_slice_get s.pipes q p p pipe)
      (All-get_or IsPipeWithin s.pipes q p (slice_get_within s.pipes q p pipe) own.pipes) in
      let began = subport-within c.port.time s own in
      let ended = classes-within cost start (record { subport = began.level; pipe = pipe-within c.port.time renewed p its }) in
      let after : Subport T = record renewed { level = end.subport; cursor = cursor_after q (length s.pipes) end.room; pipes = set s.pipes q end.pipe } in
      let served = classes-served cost start in
      let later = served.are.time in
      let not_ahead = within.not_ahead in
      let cursor : after.cursor < length after.pipes = subst (λ n. after.cursor < n) (sym (length-set s.pipes q end.pipe))
      (cursor-within q (length s.pipes) end.room (slice_get_within s.pipes q p pipe)) in
      record {
        not_ahead = omega (arith, later, not_ahead);
        cursor = subst (λ n. c.port.cursor < n) (sym (length-set c.port.subports k after)) within.cursor;
        subports = All-set IsSubportWithin c.port.subports k after
            (record { level = ended.subport; at_least = began.at_least; at_most = began.at_most; cursor = cursor; pipes = All-set IsPipeWithin s.pipes q end.pipe ended.pipe own.pipes })
            within.subports;
      }

  pub within-holds : HoldsOfSteps packet (λ c d. IsPortWithin c.port → IsPortWithin d.port)
  within-holds = record {
    along = kept-along (λ c. IsPortWithin c.port);
    ticked = λ c within. record {
      not_ahead = omega arith;
      cursor = subst (λ n. c.port.cursor < n) (sym (length-map c.port.subports (subport_tick c.port.ticked c.port.time))) within.cursor;
      subports = All-map IsSubportWithin (subport_tick c.port.ticked c.port.time) c.port.subports
          (All-weaker IsSubportWithin (λ s. IsSubportWithin (subport_tick c.port.ticked c.port.time s))
          (λ s own. record {
            level = ticked-within c.port.ticked c.port.time s.level own.level;
            at_least = own.at_least;
            at_most = own.at_most;
            cursor = subst (λ n. s.cursor < n) (sym (length-map s.pipes (pipe_tick c.port.ticked c.port.time))) own.cursor;
            pipes = All-map IsPipeWithin (pipe_tick c.port.ticked c.port.time) s.pipes
                (All-weaker IsPipeWithin (λ p. IsPipeWithin (pipe_tick c.port.ticked c.port.time p))
                (λ p its. record { level = ticked-within c.port.ticked c.port.time p.level its.level; lists = its.lists; queues = its.queues }) s.pipes own.pipes);
          }) c.port.subports within.subports);
    };
    moved = λ c k within. let cursor = within.cursor in record { not_ahead = within.not_ahead; cursor = omega (arith, cursor); subports = within.subports };
    served = λ k q c s p subport next pipe. visited-within k q c s p subport pipe;
  }

  -- where a dequeue starts
  pub start-within : (now : ℕ) (s : Port T) → IsPortWithin s → IsPortWithin (record s { time = max s.time now })
  start-within now s within = let not_ahead = within.not_ahead in record { not_ahead = omega arith; cursor = within.cursor; subports = within.subports }

  pub within-stays : (now room : ℕ) (s : Port T) → IsPortWithin s → IsPortWithin (dequeue_port packet now room s).port
  within-stays now room s within = dequeue-along packet (λ c d. IsPortWithin c.port → IsPortWithin d.port) within-holds now room s (start-within now s within)
