-- What is renewed at the start of a pipe's visit: the subport's class credits, with its watermark before them; the pipe's; and
-- the pipe's share of an oversubscribed subport.
use Rattle.std.specs.Prelude.{ℕ, ◌+◌, ◌*◌, ◌==◌, Bool, ◌&&◌, if◌then◌else◌, map, sum, Option, None, Some, false}
use Rattle.std.specs.List.{range_with_len}
use Rattle.credit_book.specs.Watermark.{OversubscriptionWatermark, stepped}
use Rattle.port_sched.specs.Level.{Level, is_due, level_renewed, used}
use Rattle.port_sched.specs.Pipe.{Pipe}
use Rattle.port_sched.specs.Subport.{Subport}

-- what the classes above best effort have used
abbrev pub used_above : Level → ℕ
used_above l = sum (map (λ class. used class l) (range_with_len 0 12))

abbrev pub has_seen : ℕ → Option ℕ → Bool
has_seen period (Some seen) = seen == period
has_seen period None = false

module _ {T : Type 0} where
  abbrev pub watermark_renewed : Subport T → OversubscriptionWatermark
  watermark_renewed s =
      if s.oversub && s.oversubscribed then stepped (used_above s.level) (used 12 s.level) s.watermark else s.watermark

  -- 1. where the subport's renewal is due: its watermark takes a step, its classes are whole, and a new period begins
  abbrev pub subport_renewed : ℕ → Subport T → Subport T
  subport_renewed moment s =
      if is_due moment s.level
      then record s { level = level_renewed moment s.level; watermark = watermark_renewed s; period = s.period + 1 }
      else s

  -- 3. where credits are shared out, a pipe that has not seen the subport's period gets its share of the watermark
  abbrev pub share_renewed : Subport T → Pipe T → Pipe T
  share_renewed s p =
      if s.oversub
      then (if has_seen s.period p.seen then p else record p { share = s.watermark.value * p.weight; seen = Some s.period })
      else p

  -- 2. the pipe's classes are whole where its renewal is due, and then its share
  abbrev pub pipe_renewed : ℕ → Subport T → Pipe T → Pipe T
  pipe_renewed moment s p = share_renewed s (record p { level = level_renewed moment p.level })
