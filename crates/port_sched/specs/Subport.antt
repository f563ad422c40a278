-- A subport, which is a group of subscribers: its level, its watermark, and its pipes.
use Rattle.std.specs.Prelude.{ℕ, Bool, List, map}
use Rattle.credit_book.specs.Watermark.{OversubscriptionWatermark}
use Rattle.port_sched.specs.Level.{Level}
use Rattle.port_sched.specs.Pipe.{Pipe, has_packet}

pub record Subport (T : Type 0) : Type 0 where
  pub level : Level
  -- whether its best effort credits are shared out, and whether its pipes together may send more than it has
  pub oversub : Bool
  pub oversubscribed : Bool
  pub watermark : OversubscriptionWatermark
  -- how many times its class credits were renewed
  pub period : ℕ
  -- the pipe from which the next visit looks
  pub cursor : ℕ
  pub pipes : List (Pipe T)

-- which of its pipes have a packet
abbrev pub active : {T : Type 0} → Subport T → List Bool
active s = map has_packet s.pipes
