-- What one visit of a pipe sends: the strict classes 0 to 11 in their order, and then best effort by weighted round robin (DPDK
-- Programmer's Guide, Quality of Service Framework: traffic classes, and weighted round robin).
use Rattle.std.specs.Prelude.{ℕ, zero, suc, ◌+◌, ◌-◌, min, Bool, ◌==◌, ◌&&◌, nat_lt, if◌then◌else◌, List, [], ◌∷◌, ◌++◌, length, take, drop}
use Rattle.std.specs.Prelude.{fold, slice_get, Option, None, Some}
use Rattle.std.specs.List.{list_any, range_with_len}
use Rattle.qos_base.specs.declared.packet.Departure.{Departure}
use Rattle.queue_store.specs.Queues.{list_of, without_front, with_list}
use Rattle.wrr_pick.specs.RoundRobin.{picked_queue, tokens_after_pick, tokens_after_send, tokens_once_empty}
use Rattle.port_sched.specs.Sends.{total_cost, sends_from, longest_front}
use Rattle.port_sched.specs.Level.{Level, allowance, level_paid}
use Rattle.port_sched.specs.Pipe.{Pipe, filled}
use Rattle.queue_store.specs.Queues.{is_filled}

-- a visit of a pipe: how the subport and the pipe stand, port time, how many packets may still be sent, and those that were
pub record Visit (T : Type 0) : Type 0 where
  -- whether best effort must fit the pipe's share
  pub oversub : Bool
  pub subport : Level
  pub pipe : Pipe T
  pub time : ℕ
  pub room : ℕ
  pub sends : List (Departure T)

module _ {T : Type 0} where
  -- what a class may send: the least of four numbers
  abbrev pub four_allow : ℕ → Visit T → ℕ
  four_allow class v = min (allowance class v.subport) (allowance class v.pipe.level)

  -- what best effort may send: the least of the four numbers, and of the pipe's share where credits are shared out
  abbrev pub best_effort_allows : Visit T → ℕ
  best_effort_allows v = if v.oversub then min (four_allow 12 v) v.pipe.share else four_allow 12 v

  abbrev pub share_paid : Bool → ℕ → Pipe T → Pipe T
  share_paid oversub total p = record p { share = if oversub then p.share - total else p.share }

  abbrev pub best_effort_waits : Pipe T → Bool
  best_effort_waits p = list_any is_filled (drop 12 p.queues.lists)

  -- the best effort queue, 12 to 15, that a pick takes, and what it leaves of all tokens
  abbrev pub picked : Pipe T → ℕ
  picked p = picked_queue p.round.tokens (filled p)

  abbrev pub after_pick : Pipe T → Pipe T
  after_pick p = record p { round = record p.round { tokens = tokens_after_pick p.round.tokens (filled p) } }

  -- the tokens once a queue has sent its front: it is charged, and has none where it is then empty
  abbrev pub charged : ℕ → ℕ → Pipe T → List ℕ
  charged queue total p =
      let tokens = tokens_after_send p.round.factors p.round.tokens queue total in
      if length (list_of (12 + queue) p.queues) == 1 then tokens_once_empty tokens queue else tokens

  -- the packet that the next draw takes
  abbrev pub next_front : Pipe T → Option T
  next_front p = slice_get (list_of (12 + picked p) p.queues) 0

  abbrev pub before : Option T → List T → List T
  before (Some t) ts = t ∷ ts
  before None ts = []

module _ {T : Type 0} (cost : T → ℕ) where
  -- these packets of a class have been sent and paid for by the subport's and the pipe's level
  abbrev pub with_sent : ℕ → List T → Visit T → Visit T
  with_sent class ts v =
      let total = total_cost cost ts in
      record v {
        subport = level_paid class total v.subport;
        pipe = record v.pipe { level = level_paid class total v.pipe.level };
        time = v.time + total;
        room = v.room - length ts;
        sends = v.sends ++ sends_from cost v.time ts;
      }

  -- the first n packets of a queue have been sent for a class
  abbrev pub front_sent : ℕ → ℕ → ℕ → Visit T → Visit T
  front_sent class queue n v =
      let waits = list_of queue v.pipe.queues in
      let sent = with_sent class (take n waits) v in
      record sent { pipe = record sent.pipe { queues = with_list queue (drop n waits) v.pipe.queues } }

  -- a strict class sends the longest front of its queue that room and the four numbers allow
  abbrev pub strict_turn : Visit T → ℕ → Visit T
  strict_turn v class =
      let queue = list_of class v.pipe.queues in
      front_sent class class (longest_front cost (four_allow class v) (min v.room (length queue)) queue) v

  -- a draw: a pick, and the front of the picked queue leaves it and is charged
  abbrev pub front_drawn : ℕ → Pipe T → Pipe T
  front_drawn queue p = record p {
    round = record p.round { tokens = charged queue (total_cost cost (take 1 (list_of (12 + queue) p.queues))) p };
    queues = without_front (12 + queue) p.queues;
  }

  abbrev pub draw : Pipe T → Pipe T
  draw p = front_drawn (picked p) (after_pick p)

  -- the first n packets of the draw sequence, which ends where all four queues are empty
  unfoldable pub draws : ℕ → Pipe T → List T
  draws zero p = []
  draws (suc n) p = before (next_front p) (draws n (draw p))

  -- the pipe after n draws
  unfoldable pub after_draws : ℕ → Pipe T → Pipe T
  after_draws zero p = p
  after_draws (suc n) p = after_draws n (draw p)

  -- Best effort sends the longest front of the draw sequence that room and these numbers allow. Where room and a packet are
  -- left, the next pick takes its tokens all the same.
  abbrev pub best_effort_turn : Visit T → Visit T
  best_effort_turn v =
      let front = draws v.room v.pipe in
      let n = longest_front cost (best_effort_allows v) (length front) front in
      let drawn = after_draws n v.pipe in
      let left = if nat_lt n v.room && best_effort_waits drawn then after_pick drawn else drawn in
      with_sent 12 (take n front) (record v { pipe = share_paid v.oversub (total_cost cost (take n front)) left })

  -- the strict classes are looked at once each, in their order
  abbrev pub strict_turns : Visit T → Visit T
  strict_turns v = fold strict_turn v (range_with_len 0 12)

  -- and best effort after them
  unfoldable pub classes_turn : Visit T → Visit T
  classes_turn v = best_effort_turn (strict_turns v)
